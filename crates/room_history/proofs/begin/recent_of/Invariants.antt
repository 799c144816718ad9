use Rattle.std.proofs.Common.{◌≡◌, ℕ, ◌-◌, pos, nat_abs, ◌≤ℤ◌, ◌<ℤ◌, map}
use borrow.Author.Gap.{gap}
use Rattle.room_model.specs.declared.limits.TheConstants.{MOST_TOLD}
use Rattle.room_history.specs.Entries.{recent_tree}
use Rattle.room_history.specs.Begins.{diff_in, trees_after}
use Rattle.room_history.proofs.begin.recent_of.Given as goal

abbrev pub invariant-clocks : goal.invariant-clocks
invariant-clocks l = record {
  trees : map recent_tree l.recent.items ≡ trees_after (λ n. diff_in l.fn.diffs (pos n)) (nat_abs l.clock - MOST_TOLD) (nat_abs l.at - (nat_abs l.clock - MOST_TOLD));
  capacity : l.recent.capacity ≡ MOST_TOLD;
  low : pos (nat_abs l.clock - MOST_TOLD) ≤ℤ l.at;
  high : l.at ≤ℤ l.clock;
  later : (n : ℕ) → l.at <ℤ pos n → diff_in l.diffs (pos n) ≡ diff_in l.fn.diffs (pos n);
}

abbrev pub decreases-clocks : goal.decreases-clocks
decreases-clocks l = gap l.at l.clock
