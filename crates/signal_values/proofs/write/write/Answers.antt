use Rattle.std.proofs.Common.{◌≡◌, ◌≢◌, true, false, length, set, refl, sym, ◌∙◌, ap}
use Rattle.std.specs.List.{slice_get}
use Rattle.std.proofs.lemmas.Option.{slice_get_read}
use Rattle.signal_values.specs.declared.cells.Row.{Row}
use Rattle.signal_values.specs.declared.cells.Cells.{Cells}
use Rattle.signal_values.specs.Writes.{IsWritten}
use Rattle.signal_values.proofs.AtomLemmas.{exact}
use Rattle.signal_values.proofs.WriteLemmas.{written_equal, not_same, some_if}
use Rattle.rooms_val.proofs.Truths.{one_some}
use Rattle.signal_values.proofs.write.write.Goals as goal

pub returns-then-eq : goal.returns-then-eq
returns-then-eq g c =
    let m = g.R.Rules.meaning c.args.rules.now in
    let cmp = g.R.Key.Ord.cmp in
    let x = exact cmp g.met.R.Key.Ord.total g.met.R.Rules.same_keys in
    let rows = c.args.cells.now.rows.items in
    let row = c.index_mut.result.now in
    let new : Cells g.row.R-Key.Denot g.row.R-Value.Denot = record { rows = Rattle.std.specs.Vec.with_item c.args.cells.now.rows c.args.i c.count_as_set.new.row; fresh = c.args.cells.now.fresh; places = c.args.cells.now.places; edges = c.args.cells.now.edges } in
    let here = slice_get_read rows (length rows) c.args.i row refl c.requires.row c.index_mut.ensures.value in
    let one = one_some (slice_get rows c.args.i) row c.index.result.now here (slice_get_read rows (length rows) c.args.i c.index.result.now refl c.requires.row c.index.ensures) in
    let same = sym (g.met.R.Rules.same_values c.index.result.now.value c.args.value (sym c.eq.ensures ∙ c.if-eq.true)) ∙ ap (λ (r : Row g.row.R-Key.Denot g.row.R-Value.Denot). r.value) (sym one) in
    some_if (slice_get rows c.args.i) (λ r. IsWritten m cmp c.args.cells.now new c.args.i r c.args.value c.args.epoch false) row here
    (written_equal m cmp x c.args.cells.now new c.args.i row c.args.value c.args.epoch c.requires.sound here same refl refl (ap (set rows c.args.i) c.count_as_set.ensures) refl)

pub change-requires-clause-differs : goal.change-requires-clause-differs
change-requires-clause-differs g c =
    let rows = c.args.cells.now.rows.items in
    let row = c.index.result.now in
    some_if (slice_get rows c.args.i) (λ r. c.args.value ≢ r.value) row (slice_get_read rows (length rows) c.args.i row refl c.requires.row c.index.ensures)
    (not_same g.R.Value.PartialEq.eq g.met.R.Value.Eq.laws.refl row.value c.args.value (sym c.eq.ensures ∙ c.if-eq.false))
