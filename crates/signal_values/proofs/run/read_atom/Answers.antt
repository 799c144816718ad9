use Rattle.std.proofs.Common.{◌≡◌, ℕ, true, Some, None, refl, sym, ◌∙◌, ap, arith}
use Rattle.std.specs.List.{slice_get}
use Rattle.signal_values.specs.declared.cells.Row.{Row}
use Rattle.signal_values.specs.Cells.{atoms_of}
use Rattle.signal_values.specs.Kept.{IsLeft, IsFreshAt, IsRead}
use Rattle.signal_values.proofs.ListLemmas.{either}
use Rattle.rooms_val.proofs.Truths.{if_ok_then, on_err_then}
use Rattle.signal_values.proofs.AtomLemmas.{exact}
use Rattle.signal_values.proofs.KeptLemmas.{left_none}
use Rattle.signal_values.proofs.SettleLemmas.{added_left, same_left, added_at, added_flag}
use Rattle.signal_values.proofs.run.read_atom.Given.{Over}
use Rattle.signal_values.proofs.run.read_atom.Goals as goal

pub returns-in_err-place_key-clause-left : goal.returns-in_err-place_key-clause-left
returns-in_err-place_key-clause-left g c = left_none (g.R.Rules.meaning c.args.rules.now) g.R.Key.Ord.cmp c.args.epoch c.args.cells.now c.requires.sound

pub returns-in_err-copy_key-clause-left : goal.returns-in_err-copy_key-clause-left
returns-in_err-copy_key-clause-left g c = left_none (g.R.Rules.meaning c.args.rules.now) g.R.Key.Ord.cmp c.args.epoch c.args.cells.now c.requires.sound

pub returns-in_err-blank-clause-left : goal.returns-in_err-blank-clause-left
returns-in_err-blank-clause-left g c = left_none (g.R.Rules.meaning c.args.rules.now) g.R.Key.Ord.cmp c.args.epoch c.args.cells.now c.requires.sound

no_row : (g : Over) (c : goal.After-add_row g) → (j : ℕ) (other : Row g.row.R-Key.Denot g.row.R-Value.Denot) → slice_get c.args.cells.now.rows.items j ≡ Some other → other.key ≡ c.in_ok-copy_key.field-0 → ⊥
no_row g c j other h e =
    let is = e ∙ c.in_ok-copy_key.ensures in
    c.requires.absent (j, other, h, is, c.requires.sound.graph.atoms_fresh j other h (ap (g.R.Rules.meaning c.args.rules.now).rank is ∙ c.requires.rank))

pub returns-clause-left : goal.returns-clause-left
returns-clause-left g c =
    let m = g.R.Rules.meaning c.args.rules.now in
    let atoms = atoms_of m g.R.Key.Ord.cmp c.args.cells.now.rows.items in
    let row : Row g.row.R-Key.Denot g.row.R-Value.Denot = record { key = c.in_ok-copy_key.field-0; value = c.in_ok-blank.field-0; changed = None } in
    let low : m.rank row.key ≡ 0 = ap m.rank c.in_ok-copy_key.ensures ∙ c.requires.rank in
    let blank : row.value ≡ m.blank row.key = c.in_ok-blank.ensures ∙ ap m.blank (sym c.in_ok-copy_key.ensures) in
    let left = IsLeft m g.R.Key.Ord.cmp c.args.epoch c.args.cells.now c.add_row.new.cells in
    either c.add_row.result _ _ left c.add_row.ensures.ok c.add_row.ensures.err
    (λ i added.
    let both = added_left m g.R.Key.Ord.cmp (exact g.R.Key.Ord.cmp g.met.R.Key.Ord.total g.met.R.Rules.same_keys) c.args.epoch atoms c.args.cells.now c.add_row.new.cells row true i c.requires.sound (no_row g c) (λ e. (blank, refl)) (λ e. low) (record { read = λ e. refl; ran = λ high. absurd (omega (arith, high, low)) }) added in
    record { sound = both.0; kept = both.1 })
    (λ same.
    let both = same_left m g.R.Key.Ord.cmp c.args.epoch atoms c.args.cells.now c.add_row.new.cells c.requires.sound same in
    record { sound = both.0; kept = both.1 })

pub returns-clause-found : goal.returns-clause-found
returns-clause-found g c =
    let row : Row g.row.R-Key.Denot g.row.R-Value.Denot = record { key = c.in_ok-copy_key.field-0; value = c.in_ok-blank.field-0; changed = None } in
    if_ok_then c.add_row.result _ (IsFreshAt c.add_row.new.cells c.args.key.now) c.add_row.ensures.ok
    (λ i added. record {
      row = row;
      at = added_at g.R.Key.Ord.cmp c.args.cells.now c.add_row.new.cells row true i added;
      is = c.in_ok-copy_key.ensures;
      ready = added_flag g.R.Key.Ord.cmp c.args.cells.now c.add_row.new.cells row true i c.requires.sound.graph.columns added;
    })

pub returns-clause-read : goal.returns-clause-read
returns-clause-read g c =
    let row : Row g.row.R-Key.Denot g.row.R-Value.Denot = record { key = c.in_ok-copy_key.field-0; value = c.in_ok-blank.field-0; changed = None } in
    if_ok_then c.add_row.result _ (IsRead c.args.cells.now c.add_row.new.cells) c.add_row.ensures.ok (λ i added. record { row = row; place = added.place; rows = added.rows; changed = refl })

pub returns-clause-err : goal.returns-clause-err
returns-clause-err g c = on_err_then c.add_row.result _ _ c.add_row.ensures.err (λ same. (same.rows, same.flags))
