use Rattle.std.proofs.Common.{length, true, refl, arith}
use Rattle.std.specs.List.{slice_get}
use Rattle.std.proofs.lemmas.Option.{slice_get_read}
use Rattle.signal_values.specs.Cells.{atoms_of}
use Rattle.signal_values.proofs.ListLemmas.{set_same, if_some}
use Rattle.signal_values.proofs.SettleLemmas.{known_left, served_low}
use Rattle.signal_values.proofs.run.settle_known.Goals as goal

pub connect-requires-clause-parents : goal.connect-requires-clause-parents
connect-requires-clause-parents g c = λ p h.
    let here = slice_get_read c.args.cells.now.rows.items (length c.args.cells.now.rows.items) c.args.i c.index_mut-row.result.now refl c.requires.row c.index_mut-row.ensures.value in
    let run = if_some (slice_get c.args.cells.now.rows.items c.args.i) _ c.index_mut-row.result.now here c.requires.run in
    omega (arith, served_low _ _ _ _ p _ (run.served p h), c.requires.sound.room)

pub returns-clause-left : goal.returns-clause-left
returns-clause-left g c =
    let here = slice_get_read c.args.cells.now.rows.items (length c.args.cells.now.rows.items) c.args.i c.index_mut-row.result.now refl c.requires.row c.index_mut-row.ensures.value in
    let run = if_some (slice_get c.args.cells.now.rows.items c.args.i) _ c.index_mut-row.result.now here c.requires.run in
    let both = known_left (g.R.Rules.meaning c.args.rules.now) g.R.Key.Ord.cmp g.R.Value.PartialEq.eq g.met.R.Rules.same_values g.met.R.Value.Eq.laws.refl c.args.epoch
    (atoms_of (g.R.Rules.meaning c.args.rules.now) g.R.Key.Ord.cmp c.args.cells.now.rows.items) c.args.cells.now
    (record { rows = Rattle.std.specs.Vec.with_item c.args.cells.now.rows c.args.i c.renew.new.row; fresh = Rattle.std.specs.Vec.with_item c.args.cells.now.fresh c.args.i true; places = c.args.cells.now.places; edges = c.connect.new.edges })
    c.args.i c.index_mut-row.result.now c.renew.new.row c.args.value c.args.parents.now c.requires.sound here c.requires.stale run c.renew.ensures refl refl refl c.connect.ensures in
    record { sound = both.0; kept = both.1 }

pub returns-clause-ready : goal.returns-clause-ready
returns-clause-ready g c = set_same c.args.cells.now.fresh.items c.args.i true (omega (arith, c.requires.row, c.requires.sound.graph.columns))
