use Rattle.std.proofs.Common.{ap, sym, subst, ◌∙◌}
use Rattle.std.specs.Prelude.{string_bytes}
use Rattle.rooms_val.specs.Maps.{AreRising, with_key}
use Rattle.rooms_val.proofs.MapsLemmas.{rising-with_key}
use Rattle.field_ops.specs.View.{maybe_data}
use Rattle.doc_store.specs.Tree.{slots_view}
use Rattle.doc_store.proofs.Trees.{slots_view-insert}
use Rattle.client_replica.proofs.stash.Stash.insert.Goals as goal

pub invariant_of-self : goal.invariant_of-self
invariant_of-self c =
    let es = c.self.inside.tree.entries in
    let key = c.in_ok-key.key in
    let slot = c.in_ok-slot.slot in
    subst AreRising (sym (ap slots_view c.in-Ok.ensures.entries ∙ slots_view-insert es key slot)) (rising-with_key (slots_view es) (string_bytes key) (maybe_data slot) c.self.invariant)

pub returns-in-Ok-clause-ok : goal.returns-in-Ok-clause-ok
returns-in-Ok-clause-ok c =
    ap slots_view c.in-Ok.ensures.entries ∙ slots_view-insert c.self.inside.tree.entries c.in_ok-key.key c.in_ok-slot.slot
    ∙ (λ i. with_key (c.self.view_is i) (c.in_ok-key.ensures.ok i) (c.in_ok-slot.ensures i))
