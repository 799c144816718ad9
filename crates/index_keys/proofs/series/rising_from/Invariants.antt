use Rattle.std.proofs.Common.{◌≡◌, ◌-◌}
use Rattle.std.specs.Option.{option_copied}
use Rattle.index_keys.specs.Answers.{texts}
use Rattle.index_keys.specs.Several.{rising_from, last_or, joined_to}
use Rattle.index_keys.proofs.series.rising_from.Given as goal

abbrev pub invariant-loop-made : goal.invariant-loop-made
invariant-loop-made l =
    rising_from l.count (option_copied l.below)
    ≡ joined_to (texts l.keys.items) (rising_from (l.count - l._made) (last_or (texts l.keys.items) (option_copied l.below)))
