use Rattle.std.proofs.Common.{length, refl, sym, ◌∙◌, ap, arith}
use Rattle.std.specs.Prelude.{option_and_then}
use Rattle.std.proofs.lemmas.Option.{slice_get_read}
use Rattle.signal_values.specs.declared.cells.Row.{Row}
use Rattle.signal_values.specs.Cells.{atoms_of}
use Rattle.signal_values.proofs.AtomLemmas.{exact}
use Rattle.signal_values.proofs.KeptLemmas.{absent_row, place_low}
use Rattle.signal_values.proofs.SeenLemmas.{changed_at_row, no_row_of}
use Rattle.signal_values.proofs.values.Values.changed_at.Goals as goal

pub returns-in_err-i : goal.returns-in_err-i
returns-in_err-i g c =
    rw (← c.self.view_is, c.from_residual.ensures)
    (sym (ap (option_and_then (λ (r : Row g.row.R-Key.Denot g.row.R-Value.Denot). r.changed)) (no_row_of g.R.Key.Ord.cmp (exact g.R.Key.Ord.cmp g.met.R.Key.Ord.total g.met.R.Rules.same_keys) c.self.inside.cells.rows.items c.args.key.now
    (absent_row g.R.Key.Ord.cmp c.self.inside.cells.places c.self.inside.cells.rows.items c.args.key.now c.self.invariant.index (sym c.find.ensures ∙ c.in_err-i.was)))))

pub index-requires : goal.index-requires
index-requires g c =
    omega (arith, c.self.inside.cells.rows.ok.0, place_low g.R.Key.Ord.cmp c.self.inside.cells c.args.key.now c.in_ok-i.i c.self.invariant.index (sym c.find.ensures ∙ c.in_ok-i.was))

pub returns : goal.returns
returns g c =
    let found = sym c.find.ensures ∙ c.in_ok-i.was in
    let low = place_low g.R.Key.Ord.cmp c.self.inside.cells c.args.key.now c.in_ok-i.i c.self.invariant.index found in
    rw (← c.self.view_is)
    (changed_at_row g.R.Key.Ord.cmp (exact g.R.Key.Ord.cmp g.met.R.Key.Ord.total g.met.R.Rules.same_keys) (g.R.Rules.meaning c.self.inside.rules) (atoms_of (g.R.Rules.meaning c.self.inside.rules) g.R.Key.Ord.cmp c.self.inside.cells.rows.items) c.self.inside.cells c.args.key.now c.in_ok-i.i c.index.result.now c.self.invariant
    (slice_get_read c.self.inside.cells.rows.items (length c.self.inside.cells.rows.items) c.in_ok-i.i c.index.result.now refl low c.index.ensures) found)
