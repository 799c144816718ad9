use Rattle.std.proofs.Common.{◌≡◌, ◌-◌, Some}
use Rattle.index_keys.specs.Answers.{texts}
use Rattle.index_keys.specs.Several.{rising_to, last_or}
use Rattle.index_keys.proofs.SeriesLemmas.{joined_before}
use Rattle.index_keys.proofs.series.rising_to.Given as goal

abbrev pub invariant-loop-made : goal.invariant-loop-made
invariant-loop-made l =
    rising_to l.count (Some l.above)
    ≡ joined_before (rising_to (l.count - l._made) (last_or (texts l.keys.items) (Some l.above))) (texts l.keys.items)
