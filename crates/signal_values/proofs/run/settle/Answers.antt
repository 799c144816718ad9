use Rattle.std.proofs.Common.{length, Bool, Some, refl, sym, ◌∙◌, ap, arith}
use Rattle.std.proofs.lemmas.Option.{slice_get_read}
use Rattle.signal_values.specs.Cells.{atoms_of}
use Rattle.signal_values.proofs.KeptLemmas.{kept_none, place_low, kept_at, sound_same}
use Rattle.signal_values.proofs.run.settle.Goals as goal

pub returns-in_err-reserve-clause-left : goal.returns-in_err-reserve-clause-left
returns-in_err-reserve-clause-left g c = record {
  sound = sound_same (g.R.Rules.meaning c.args.rules.now) g.R.Key.Ord.cmp (atoms_of (g.R.Rules.meaning c.args.rules.now) g.R.Key.Ord.cmp c.args.cells.now.rows.items) c.args.cells.now
      (record { rows = c.args.cells.now.rows; fresh = c.args.cells.now.fresh; places = c.args.cells.now.places; edges = c.reserve.new.self }) c.requires.sound refl refl refl c.reserve.ensures.children;
  kept = kept_none (g.R.Rules.meaning c.args.rules.now) c.args.epoch c.args.cells.now.rows.items c.args.cells.now.fresh.items;
}

pub settle_known-requires-clause-sound : goal.settle_known-requires-clause-sound
settle_known-requires-clause-sound g c =
    sound_same (g.R.Rules.meaning c.args.rules.now) g.R.Key.Ord.cmp (atoms_of (g.R.Rules.meaning c.args.rules.now) g.R.Key.Ord.cmp c.args.cells.now.rows.items) c.args.cells.now
    (record { rows = c.args.cells.now.rows; fresh = c.args.cells.now.fresh; places = c.args.cells.now.places; edges = c.reserve.new.self }) c.requires.sound refl refl refl c.reserve.ensures.children

pub returns-else-not-index-clause-left : goal.returns-else-not-index-clause-left
returns-else-not-index-clause-left g c = record {
  sound = sound_same (g.R.Rules.meaning c.args.rules.now) g.R.Key.Ord.cmp (atoms_of (g.R.Rules.meaning c.args.rules.now) g.R.Key.Ord.cmp c.args.cells.now.rows.items) c.args.cells.now
      (record { rows = c.args.cells.now.rows; fresh = c.args.cells.now.fresh; places = c.args.cells.now.places; edges = c.reserve.new.self }) c.requires.sound refl refl refl c.reserve.ensures.children;
  kept = kept_none (g.R.Rules.meaning c.args.rules.now) c.args.epoch c.args.cells.now.rows.items c.args.cells.now.fresh.items;
}

pub returns-then-not-index-clause-found : goal.returns-then-not-index-clause-found
returns-then-not-index-clause-found g c =
    let found = sym c.find.ensures ∙ c.in-Some.is in
    let q = c.requires.sound.index.found c.args.key.now c.in-Some.i found in
    kept_at (g.R.Rules.meaning c.args.rules.now) c.args.epoch c.args.cells.now c.settle_known.new.cells c.args.key.now c.in-Some.i q.0 c.settle_known.ensures.left.kept q.1 q.2 c.settle_known.ensures.ready

pub returns-else-not-index-clause-found : goal.returns-else-not-index-clause-found
returns-else-not-index-clause-found g c =
    let found = sym c.find.ensures ∙ c.in-Some.is in
    let low = place_low g.R.Key.Ord.cmp c.args.cells.now c.args.key.now c.in-Some.i c.requires.sound.index found in
    let q = c.requires.sound.index.found c.args.key.now c.in-Some.i found in
    record {
      row = q.0;
      at = q.1;
      is = q.2;
      ready = slice_get_read c.args.cells.now.fresh.items (length c.args.cells.now.fresh.items) c.in-Some.i c.index.result.now refl (omega (arith, low, c.requires.sound.graph.columns)) c.index.ensures ∙ ap (λ (b : Bool). Some b) c.if-not-index.false;
    }
