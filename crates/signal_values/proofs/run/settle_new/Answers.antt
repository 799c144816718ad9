use Rattle.std.proofs.Common.{◌∷◌, [], length, true, false, Some, refl, sym, ◌∙◌, ap, subst, arith, length-append}
use Rattle.std.specs.List.{slice_get}
use Rattle.signal_values.specs.Cells.{atoms_of}
use Rattle.signal_values.specs.Kept.{HasRun}
use Rattle.signal_values.proofs.AtomLemmas.{exact}
use Rattle.signal_values.proofs.ListLemmas.{set_same, if_some}
use Rattle.signal_values.proofs.KeptLemmas.{left_none}
use Rattle.signal_values.proofs.SettleLemmas.{new_left, same_left, added_at, served_low}
use Rattle.signal_values.proofs.run.settle_new.Goals as goal

pub connect-requires-clause-parents : goal.connect-requires-clause-parents
connect-requires-clause-parents g c = λ p h.
    omega (arith, served_low _ _ _ _ p _ (c.requires.run.served p h), c.in_ok-i.ensures.ok.room, ap length c.in_ok-i.ensures.ok.rows, length-append c.args.cells.now.rows.items (record { key = c.in_ok-copy_key.field-0; value = c.args.value; changed = Some c.args.epoch } ∷ []))

pub returns-clause-left : goal.returns-clause-left
returns-clause-left g c =
    let m = g.R.Rules.meaning c.args.rules.now in
    let atoms = atoms_of m g.R.Key.Ord.cmp c.args.cells.now.rows.items in
    let both = new_left m g.R.Key.Ord.cmp (exact g.R.Key.Ord.cmp g.met.R.Key.Ord.total g.met.R.Rules.same_keys) c.args.epoch atoms c.args.cells.now c.add_row.new.cells
    (record { rows = c.add_row.new.cells.rows; fresh = Rattle.std.specs.Vec.with_item c.add_row.new.cells.fresh c.in_ok-i.i true; places = c.add_row.new.cells.places; edges = c.connect.new.edges })
    (record { key = c.in_ok-copy_key.field-0; value = c.args.value; changed = Some c.args.epoch }) c.in_ok-i.i c.args.parents.now c.requires.sound
    (λ j other h e. if_some (slice_get c.args.cells.now.rows.items j) _ other h (c.requires.absent j) (e ∙ c.in_ok-copy_key.ensures))
    (subst (λ (k : g.row.R-Key.Denot). HasRun m atoms c.args.cells.now.rows.items c.args.cells.now.fresh.items k c.args.value c.args.parents.now) (sym c.in_ok-copy_key.ensures) c.requires.run)
    refl c.in_ok-i.ensures.ok refl refl refl c.connect.ensures in
    record { sound = both.0; kept = both.1 }

pub returns-clause-found : goal.returns-clause-found
returns-clause-found g c = record {
  row = record { key = c.in_ok-copy_key.field-0; value = c.args.value; changed = Some c.args.epoch };
  at = added_at g.R.Key.Ord.cmp c.args.cells.now c.add_row.new.cells (record { key = c.in_ok-copy_key.field-0; value = c.args.value; changed = Some c.args.epoch }) false c.in_ok-i.i c.in_ok-i.ensures.ok;
  is = c.in_ok-copy_key.ensures;
  ready = set_same c.add_row.new.cells.fresh.items c.in_ok-i.i true (omega (arith, c.in_ok-i.ensures.ok.place, ap length c.in_ok-i.ensures.ok.flags, length-append c.args.cells.now.fresh.items (false ∷ []), c.requires.sound.graph.columns));
}

pub returns-in_err-place_key-clause-left : goal.returns-in_err-place_key-clause-left
returns-in_err-place_key-clause-left g c = left_none (g.R.Rules.meaning c.args.rules.now) g.R.Key.Ord.cmp c.args.epoch c.args.cells.now c.requires.sound

pub returns-in_err-copy_key-clause-left : goal.returns-in_err-copy_key-clause-left
returns-in_err-copy_key-clause-left g c = left_none (g.R.Rules.meaning c.args.rules.now) g.R.Key.Ord.cmp c.args.epoch c.args.cells.now c.requires.sound

pub returns-in_err-i-clause-left : goal.returns-in_err-i-clause-left
returns-in_err-i-clause-left g c =
    let both = same_left (g.R.Rules.meaning c.args.rules.now) g.R.Key.Ord.cmp c.args.epoch (atoms_of (g.R.Rules.meaning c.args.rules.now) g.R.Key.Ord.cmp c.args.cells.now.rows.items) c.args.cells.now c.add_row.new.cells c.requires.sound c.in_err-i.ensures.err in
    record { sound = both.0; kept = both.1 }
