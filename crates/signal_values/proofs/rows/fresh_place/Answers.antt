use Rattle.std.proofs.Common.{length, Bool, Some, refl, sym, ◌∙◌, ap, arith}
use Rattle.std.proofs.lemmas.Option.{slice_get_read}
use Rattle.signal_values.proofs.KeptLemmas.{place_fresh, place_low, stale_key}
use Rattle.signal_values.proofs.rows.fresh_place.Goals as goal

pub returns-then-index-clause-found : goal.returns-then-index-clause-found
returns-then-index-clause-found g c =
    let found = sym c.find.ensures ∙ c.in_ok-i.was in
    let low = place_low g.K.Ord.cmp c.args.cells.now c.args.key.now c.in_ok-i.i c.requires.index found in
    place_fresh g.K.Ord.cmp c.args.cells.now c.args.key.now c.in_ok-i.i c.requires.index found
    (slice_get_read c.args.cells.now.fresh.items (length c.args.cells.now.fresh.items) c.in_ok-i.i c.index.result.now refl (omega (arith, low, c.requires.columns)) c.index.ensures ∙ ap (λ (b : Bool). Some b) c.if-index.true)

pub returns-else-index-clause-absent : goal.returns-else-index-clause-absent
returns-else-index-clause-absent g c =
    let found = sym c.find.ensures ∙ c.in_ok-i.was in
    let low = place_low g.K.Ord.cmp c.args.cells.now c.args.key.now c.in_ok-i.i c.requires.index found in
    stale_key g.K.Ord.cmp c.args.cells.now c.args.key.now c.in_ok-i.i c.requires.index found
    (slice_get_read c.args.cells.now.fresh.items (length c.args.cells.now.fresh.items) c.in_ok-i.i c.index.result.now refl (omega (arith, low, c.requires.columns)) c.index.ensures ∙ ap (λ (b : Bool). Some b) c.if-index.false)
