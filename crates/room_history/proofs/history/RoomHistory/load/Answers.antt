use Rattle.std.proofs.Common.{◌≡◌, ◌-◌, min, nat_abs, pos, None, refl, subst, ◌∙◌, arith, rules, w64, to_z, of_z}
use Rattle.std.proofs.lemmas.Int.{ints, to_z-of_z}
use Rattle.schema_core.specs.SchemaOf.{schema_tree}
use Rattle.room_model.specs.Saves.{begun, load_fault}
use Rattle.room_model.specs.declared.limits.TheConstants.{MOST_TOLD}
use Rattle.room_schemas.specs.Decided.{decided}
use Rattle.room_history.specs.Begins.{diff_in, trees_after}
use Rattle.room_history.specs.declared.kept.Kept.{Kept}
use Rattle.room_history.proofs.FitLemmas.{stands, fit, below}
use Rattle.room_history.proofs.StandLemmas.{IsBegun, keeps}
use Rattle.room_history.proofs.history.RoomHistory.load.Goals as goal

pub recent_of-requires-clause-low : goal.recent_of-requires-clause-low
recent_of-requires-clause-low g c =
    let saved = c.args.saved in
    let s = schema_tree c.args.schema in
    let last : to_z w64 (of_z w64 c.args.last) ≡ c.args.last = to_z-of_z w64 c.args.last c.ranges.last in
    let are = stands (decided s) c.args.last saved (subst (λ z. load_fault (decided s) z saved ≡ None) last c.in_ok-checked.ensures.none) in
    let clock : to_z w64 (of_z w64 saved.clock) ≡ saved.clock = to_z-of_z w64 saved.clock (search rules) in
    let fits = fit (decided s) c.args.last saved are in
    let low = fits.start_low in
    let high = fits.start_high in
    omega (arith, ints)

pub recent_of-requires-clause-high : goal.recent_of-requires-clause-high
recent_of-requires-clause-high g c =
    let saved = c.args.saved in
    let s = schema_tree c.args.schema in
    let last : to_z w64 (of_z w64 c.args.last) ≡ c.args.last = to_z-of_z w64 c.args.last c.ranges.last in
    let are = stands (decided s) c.args.last saved (subst (λ z. load_fault (decided s) z saved ≡ None) last c.in_ok-checked.ensures.none) in
    let clock : to_z w64 (of_z w64 saved.clock) ≡ saved.clock = to_z-of_z w64 saved.clock (search rules) in
    let under = below (decided s) c.args.last saved are in
    let bound = c.requires.last in
    omega (arith, ints)

pub invariant_of-result : goal.invariant_of-result
invariant_of-result g c =
    let saved = c.args.saved in
    let s = schema_tree c.args.schema in
    let last : to_z w64 (of_z w64 c.args.last) ≡ c.args.last = to_z-of_z w64 c.args.last c.ranges.last in
    let are = stands (decided s) c.args.last saved (subst (λ z. load_fault (decided s) z saved ≡ None) last c.in_ok-checked.ensures.none) in
    let clock : to_z w64 (of_z w64 saved.clock) ≡ saved.clock = to_z-of_z w64 saved.clock (search rules) in
    let start : to_z w64 (of_z w64 saved.start) ≡ saved.start = to_z-of_z w64 saved.start (search rules) in
    let diffs = c.in_ok-diffs.diffs in
    let kept : Kept = record {
      schema = c.args.schema;
      records = c.in_ok-checked.checked.records;
      size = c.in_ok-checked.checked.size;
      changes = c.mark_diffs.new.changes;
      recent = c.in_ok-recent.recent;
      clock = to_z w64 (of_z w64 saved.clock);
    } in
    let is : IsBegun s c.args.last saved are diffs kept = record {
      sorted = c.mark_diffs.ensures.sorted;
      within = c.in_ok-diffs.ensures.within;
      each = c.in_ok-diffs.ensures.diffs;
      schema = refl;
      records = c.in_ok-checked.ensures.records;
      size = c.in_ok-checked.ensures.size;
      clock = clock;
      lists = c.in_ok-mark_diffs.ensures.lists;
      start = c.in_ok-mark_diffs.ensures.start ∙ c.in_ok-changes.ensures.2 ∙ start;
      recent = c.in_ok-recent.ensures.items ∙ (λ i. trees_after (λ n. diff_in diffs (pos n)) (nat_abs (clock i) - MOST_TOLD) (min (nat_abs (clock i)) MOST_TOLD));
      capacity = c.in_ok-recent.ensures.capacity;
    } in
    record { sound = ∣ (nat_abs saved.start, (begun saved, keeps s c.args.last saved are c.requires.last diffs kept is)) ∣₁; presence = c.requires.presence }

pub returns-clause-keeps : goal.returns-clause-keeps
returns-clause-keeps g c =
    let saved = c.args.saved in
    let s = schema_tree c.args.schema in
    let last : to_z w64 (of_z w64 c.args.last) ≡ c.args.last = to_z-of_z w64 c.args.last c.ranges.last in
    let are = stands (decided s) c.args.last saved (subst (λ z. load_fault (decided s) z saved ≡ None) last c.in_ok-checked.ensures.none) in
    let clock : to_z w64 (of_z w64 saved.clock) ≡ saved.clock = to_z-of_z w64 saved.clock (search rules) in
    let start : to_z w64 (of_z w64 saved.start) ≡ saved.start = to_z-of_z w64 saved.start (search rules) in
    let diffs = c.in_ok-diffs.diffs in
    let kept : Kept = record {
      schema = c.args.schema;
      records = c.in_ok-checked.checked.records;
      size = c.in_ok-checked.checked.size;
      changes = c.mark_diffs.new.changes;
      recent = c.in_ok-recent.recent;
      clock = to_z w64 (of_z w64 saved.clock);
    } in
    let is : IsBegun s c.args.last saved are diffs kept = record {
      sorted = c.mark_diffs.ensures.sorted;
      within = c.in_ok-diffs.ensures.within;
      each = c.in_ok-diffs.ensures.diffs;
      schema = refl;
      records = c.in_ok-checked.ensures.records;
      size = c.in_ok-checked.ensures.size;
      clock = clock;
      lists = c.in_ok-mark_diffs.ensures.lists;
      start = c.in_ok-mark_diffs.ensures.start ∙ c.in_ok-changes.ensures.2 ∙ start;
      recent = c.in_ok-recent.ensures.items ∙ (λ i. trees_after (λ n. diff_in diffs (pos n)) (nat_abs (clock i) - MOST_TOLD) (min (nat_abs (clock i)) MOST_TOLD));
      capacity = c.in_ok-recent.ensures.capacity;
    } in
    keeps s c.args.last saved are c.requires.last diffs kept is
