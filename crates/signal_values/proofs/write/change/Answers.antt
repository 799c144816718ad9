use Rattle.std.proofs.Common.{◌≡◌, ◌≢◌, true, length, set, refl, ap}
use Rattle.std.specs.List.{slice_get}
use Rattle.std.proofs.lemmas.Option.{slice_get_read}
use Rattle.signal_values.specs.declared.cells.Cells.{Cells}
use Rattle.signal_values.specs.Writes.{IsWritten}
use Rattle.signal_values.proofs.AtomLemmas.{exact}
use Rattle.signal_values.proofs.ListLemmas.{if_some}
use Rattle.signal_values.proofs.WriteLemmas.{written_other, some_if}
use Rattle.signal_values.proofs.write.change.Goals as goal

pub returns-clause-written : goal.returns-clause-written
returns-clause-written g c =
    let m = g.R.Rules.meaning c.args.rules.now in
    let cmp = g.R.Key.Ord.cmp in
    let x = exact cmp g.met.R.Key.Ord.total g.met.R.Rules.same_keys in
    let rows = c.args.cells.now.rows.items in
    let row = c.index_mut.result.now in
    let new : Cells g.row.R-Key.Denot g.row.R-Value.Denot = record { rows = Rattle.std.specs.Vec.with_item c.args.cells.now.rows c.args.i c.change_row-before.new.row; fresh = c.mark.new.fresh; places = c.args.cells.now.places; edges = c.mark.new.edges } in
    let here = slice_get_read rows (length rows) c.args.i row refl c.requires.row c.index_mut.ensures.value in
    let low = if_some (slice_get rows c.args.i) (λ r. m.rank r.key ≡ 0) row here c.requires.atom in
    let ne = if_some (slice_get rows c.args.i) (λ r. c.args.value ≢ r.value) row here c.requires.differs in
    some_if (slice_get rows c.args.i) (λ r. IsWritten m cmp c.args.cells.now new c.args.i r c.args.value c.args.epoch true) row here
    (written_other m cmp x c.args.cells.now new c.args.i row c.args.value c.args.epoch c.requires.sound here low ne c.mark.ensures (ap (set rows c.args.i) c.change_row-before.ensures.row) refl)
