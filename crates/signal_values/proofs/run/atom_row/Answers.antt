use Rattle.std.proofs.Common.{refl, sym, ◌∙◌, ap}
use Rattle.std.specs.Prelude.{option_and_then}
use Rattle.signal_values.specs.declared.cells.Row.{Row}
use Rattle.signal_values.specs.Kept.{IsFreshAt, IsRead, HasListed}
use Rattle.signal_values.proofs.AtomLemmas.{exact}
use Rattle.signal_values.proofs.ListLemmas.{ok_both}
use Rattle.signal_values.proofs.KeptLemmas.{left_none, absent_row}
use Rattle.signal_values.proofs.SeenLemmas.{row_at, listed_read}
use Rattle.signal_values.proofs.run.atom_row.Goals as goal

pub read_atom-requires-clause-absent : goal.read_atom-requires-clause-absent
read_atom-requires-clause-absent g c = λ (i, row, at, is, ready).
    absent_row g.R.Key.Ord.cmp c.args.cells.now.places c.args.cells.now.rows.items c.args.key.now c.requires.sound.index (sym c.find.ensures ∙ c.in-None.is) i row at is

pub returns-in-Some-clause-left : goal.returns-in-Some-clause-left
returns-in-Some-clause-left g c = left_none (g.R.Rules.meaning c.args.rules.now) g.R.Key.Ord.cmp c.args.epoch c.args.cells.now c.requires.sound

pub returns-in-Some-clause-listed : goal.returns-in-Some-clause-listed
returns-in-Some-clause-listed g c =
    let q = c.requires.sound.index.found c.args.key.now c.in-Some.i (sym c.find.ensures ∙ c.in-Some.is) in
    record {
      row = q.0;
      at = q.1;
      is = q.2;
      changed = ap (option_and_then (λ (r : Row g.row.R-Key.Denot g.row.R-Value.Denot). r.changed)) (row_at g.R.Key.Ord.cmp (exact g.R.Key.Ord.cmp g.met.R.Key.Ord.total g.met.R.Rules.same_keys) c.args.cells.now c.args.key.now c.in-Some.i q.0 c.requires.sound.graph.distinct q.1 q.2);
      rows = λ j r h. h;
      others = λ k ne. refl;
      flags = λ j h. h;
    }

pub returns-in-None-clause-listed : goal.returns-in-None-clause-listed
returns-in-None-clause-listed g c =
    ok_both c.read_atom.result (IsFreshAt c.read_atom.new.cells c.args.key.now) (IsRead c.args.cells.now c.read_atom.new.cells) (HasListed g.R.Key.Ord.cmp c.args.cells.now c.read_atom.new.cells c.args.key.now) c.read_atom.ensures.found c.read_atom.ensures.read
    (λ i found read. listed_read (g.R.Rules.meaning c.args.rules.now) g.R.Key.Ord.cmp (exact g.R.Key.Ord.cmp g.met.R.Key.Ord.total g.met.R.Rules.same_keys) c.args.epoch c.args.cells.now c.read_atom.new.cells c.args.key.now i c.requires.sound.graph.columns
    (absent_row g.R.Key.Ord.cmp c.args.cells.now.places c.args.cells.now.rows.items c.args.key.now c.requires.sound.index (sym c.find.ensures ∙ c.in-None.is)) c.read_atom.ensures.left found read)
