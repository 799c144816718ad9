use Rattle.std.proofs.Common.{length, refl, ap, arith}
use Rattle.std.proofs.lemmas.Option.{slice_get_past, slice_get_read}
use Rattle.links_core.proofs.ChangeLemmas.{next_is, no_next, sound}
use Rattle.links_core.proofs.links.Links.next.Goals as goal

pub returns-in_err-get-clause-value : goal.returns-in_err-get-clause-value
returns-in_err-get-clause-value c =
    let absent = slice_get_past c.self.inside.nodes.items c.args.node (omega (arith, c.in_err-get.ensures.lookup)) in
    rw (c.from_residual.ensures, ← c.self.view_is) (no_next _ _ _ c.args.node c.self.invariant absent)

pub returns-clause-value : goal.returns-clause-value
returns-clause-value c =
    let looked = c.in_ok-get.ensures.lookup in
    let here = slice_get_read c.self.inside.nodes.items _ c.args.node c.in_ok-get.field-0.now refl (omega (arith, looked.3.0, ap length c.deref.ensures.value)) (rw c.deref.ensures.value at looked.1) in
    rw (← c.self.view_is) (next_is _ _ _ c.args.node c.in_ok-get.field-0.now c.self.invariant here)

pub returns-in_err-get-clause-sound : goal.returns-in_err-get-clause-sound
returns-in_err-get-clause-sound c = rw (← c.self.view_is) (sound _ _ _ _ c.self.invariant (omega arith))

pub returns-clause-sound : goal.returns-clause-sound
returns-clause-sound c = rw (← c.self.view_is) (sound _ _ _ _ c.self.invariant (omega arith))
