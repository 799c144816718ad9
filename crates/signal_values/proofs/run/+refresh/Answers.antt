use Rattle.std.proofs.Common.{◌≡◌, ℕ, ◌<◌, List, sym, ◌∙◌, ap, subst, arith}
use Rattle.std.specs.List.{slice_get}
use Rattle.std.proofs.lemmas.Option.{slice_get_within}
use Rattle.signal_rules.specs.declared.rules.Ask.TheVariants.{Need, Done}
use Rattle.signal_values.specs.Cells.{atoms_of}
use Rattle.signal_values.specs.Kept.{HasRun}
use Rattle.signal_values.proofs.AtomLemmas.{exact, atoms_same}
use Rattle.signal_values.proofs.ListLemmas.{if_some}
use Rattle.signal_values.proofs.KeptLemmas.{left_none, left_twice, sound_here, keeps_fresh}
use Rattle.signal_values.proofs.AskLemmas.{asking_start, asking_more, asking_done, room_left}
use Rattle.signal_values.proofs.run.+refresh.Goals as goal

pub asks-init : goal.asks-init
asks-init g t c = record {
  left = left_none (g.R.Rules.meaning c.args.rules.now) g.R.Key.Ord.cmp c.args.epoch c.args.cells.now c.requires;
  asking = asking_start (g.R.Rules.meaning c.args.rules.now) (atoms_of (g.R.Rules.meaning c.args.rules.now) g.R.Key.Ord.cmp c.args.cells.now.rows.items) c.args.cells.now.rows.items c.args.cells.now.fresh.items c.args.key.now c.new-got.result.items c.new-parents.result.items c.new-got.ensures.items c.new-parents.ensures.items;
}

pub refresh-requires : goal.refresh-requires
refresh-requires g t c = λ κs ls.
    let m = g.R.Rules.meaning c.args.rules.now in
    let cmp = g.R.Key.Ord.cmp in
    let law = g.met.R.Rules.lawful c.args.rules.now in
    let x = exact cmp g.met.R.Key.Ord.total g.met.R.Rules.same_keys in
    let need : m.ask c.args.key.now c.asks.got.items ≡ Need c.in-Need.next = ap (m.ask c.args.key.now) (sym c.deref.ensures.value) ∙ sym c.in_ok-value.ensures.answer ∙ c.in-Need.is in (
      omega (arith, c.decreases, law.falls c.args.key.now c.in-Need.next c.asks.got.items need),
      (ls.0, (ls.1.0, (ls.1.1.0, (ls.1.1.1, sound_here m cmp x (atoms_of m cmp c.args.cells.now.rows.items) c.asks.cells c.asks.invariant.left.sound)))),
    )

pub take_answer-requires : goal.take_answer-requires
take_answer-requires g t c =
    slice_get_within c.refresh.new.cells.rows.items c.in_ok-parent-in-Need.parent c.in_ok-parent-in-Need.ensures.found.row c.in_ok-parent-in-Need.ensures.found.at

pub asks-preserved : goal.asks-preserved
asks-preserved g t c =
    let m = g.R.Rules.meaning c.args.rules.now in
    let cmp = g.R.Key.Ord.cmp in
    let law = g.met.R.Rules.lawful c.args.rules.now in
    let x = exact cmp g.met.R.Key.Ord.total g.met.R.Rules.same_keys in
    let atoms = atoms_of m cmp c.args.cells.now.rows.items in
    let need : m.ask c.args.key.now c.asks.got.items ≡ Need c.in-Need.next = ap (m.ask c.args.key.now) (sym c.deref.ensures.value) ∙ sym c.in_ok-value.ensures.answer ∙ c.in-Need.is in
    let above : 0 < m.rank c.args.key.now = omega (arith, c.rank.ensures, c.if-rank-eq0.false) in
    let left = left_twice m cmp x c.args.epoch c.args.cells.now c.asks.cells c.refresh.new.cells c.asks.invariant.left c.refresh.ensures.left in
    let keeps = keeps_fresh m c.args.epoch c.asks.cells.rows.items c.asks.cells.fresh.items c.refresh.new.cells.rows.items c.refresh.new.cells.fresh.items c.refresh.ensures.left.kept in
    let row = c.in_ok-parent-in-Need.ensures.found.row in
    let at = c.in_ok-parent-in-Need.ensures.found.at in
    let more = if_some (slice_get c.refresh.new.cells.rows.items c.in_ok-parent-in-Need.parent) _ row at c.in_ok-take_answer-in-Need.ensures.got in
    record {
      left = left;
      asking = asking_more m atoms law c.asks.cells.rows.items c.asks.cells.fresh.items c.refresh.new.cells.rows.items c.refresh.new.cells.fresh.items c.refresh.new.cells.edges.children c.args.key.now c.in-Need.next c.asks.got.items c.take_answer.new.got.items c.asks.parents.items c.take_answer.new.parents.items c.in_ok-parent-in-Need.parent row above c.asks.invariant.asking need keeps left.sound.graph at c.in_ok-parent-in-Need.ensures.found.is c.in_ok-parent-in-Need.ensures.found.ready more c.in_ok-take_answer-in-Need.ensures.parents;
    }

pub asks-smaller : goal.asks-smaller
asks-smaller g t c =
    let m = g.R.Rules.meaning c.args.rules.now in
    let law = g.met.R.Rules.lawful c.args.rules.now in
    let need : m.ask c.args.key.now c.asks.got.items ≡ Need c.in-Need.next = ap (m.ask c.args.key.now) (sym c.deref.ensures.value) ∙ sym c.in_ok-value.ensures.answer ∙ c.in-Need.is in
    let row = c.in_ok-parent-in-Need.ensures.found.row in
    let at = c.in_ok-parent-in-Need.ensures.found.at in
    let more = if_some (slice_get c.refresh.new.cells.rows.items c.in_ok-parent-in-Need.parent) _ row at c.in_ok-take_answer-in-Need.ensures.got in
    room_left m law c.args.key.now c.in-Need.next c.asks.got.items c.take_answer.new.got.items row.value need more

pub returns-in-Some-clause-left : goal.returns-in-Some-clause-left
returns-in-Some-clause-left g t c = left_none (g.R.Rules.meaning c.args.rules.now) g.R.Key.Ord.cmp c.args.epoch c.args.cells.now c.requires

pub returns-in_err-parent-in-Need-clause-left : goal.returns-in_err-parent-in-Need-clause-left
returns-in_err-parent-in-Need-clause-left g t c =
    left_twice (g.R.Rules.meaning c.args.rules.now) g.R.Key.Ord.cmp (exact g.R.Key.Ord.cmp g.met.R.Key.Ord.total g.met.R.Rules.same_keys) c.args.epoch c.args.cells.now c.asks.cells c.refresh.new.cells c.asks.invariant.left c.refresh.ensures.left

pub returns-in_err-take_answer-in-Need-clause-left : goal.returns-in_err-take_answer-in-Need-clause-left
returns-in_err-take_answer-in-Need-clause-left g t c =
    left_twice (g.R.Rules.meaning c.args.rules.now) g.R.Key.Ord.cmp (exact g.R.Key.Ord.cmp g.met.R.Key.Ord.total g.met.R.Rules.same_keys) c.args.epoch c.args.cells.now c.asks.cells c.refresh.new.cells c.asks.invariant.left c.refresh.ensures.left

pub returns-in-Done-clause-left : goal.returns-in-Done-clause-left
returns-in-Done-clause-left g t c =
    left_twice (g.R.Rules.meaning c.args.rules.now) g.R.Key.Ord.cmp (exact g.R.Key.Ord.cmp g.met.R.Key.Ord.total g.met.R.Rules.same_keys) c.args.epoch c.args.cells.now c.asks.cells c.settle.new.cells c.asks.invariant.left c.settle.ensures.left

pub settle-requires-clause-sound : goal.settle-requires-clause-sound
settle-requires-clause-sound g t c =
    sound_here (g.R.Rules.meaning c.args.rules.now) g.R.Key.Ord.cmp (exact g.R.Key.Ord.cmp g.met.R.Key.Ord.total g.met.R.Rules.same_keys) (atoms_of (g.R.Rules.meaning c.args.rules.now) g.R.Key.Ord.cmp c.args.cells.now.rows.items) c.asks.cells c.asks.invariant.left.sound

pub settle-requires-clause-run : goal.settle-requires-clause-run
settle-requires-clause-run g t c =
    let m = g.R.Rules.meaning c.args.rules.now in
    let cmp = g.R.Key.Ord.cmp in
    let x = exact cmp g.met.R.Key.Ord.total g.met.R.Rules.same_keys in
    let atoms = atoms_of m cmp c.args.cells.now.rows.items in
    let done : m.ask c.args.key.now c.asks.got.items ≡ Done c.in-Done.value = ap (m.ask c.args.key.now) (sym c.deref.ensures.value) ∙ sym c.in_ok-value.ensures.answer ∙ c.in-Done.is in
    let above : 0 < m.rank c.args.key.now = omega (arith, c.rank.ensures, c.if-rank-eq0.false) in
    let run = asking_done m atoms (g.met.R.Rules.lawful c.args.rules.now) c.asks.cells.rows.items c.asks.cells.fresh.items c.args.key.now c.asks.got.items c.asks.parents.items c.in-Done.value above c.asks.invariant.asking done in
    let same = atoms_same m cmp x c.asks.cells.rows.items atoms c.asks.invariant.left.sound.graph.atoms_are in
    subst (λ (ps : List ℕ). HasRun m (atoms_of m cmp c.asks.cells.rows.items) c.asks.cells.rows.items c.asks.cells.fresh.items c.args.key.now c.in-Done.value ps) (sym c.as_slice-parents.ensures)
    (subst (λ (a : g.row.R-Key.Denot → g.row.R-Value.Denot). HasRun m a c.asks.cells.rows.items c.asks.cells.fresh.items c.args.key.now c.in-Done.value c.asks.parents.items) (sym same) run)
