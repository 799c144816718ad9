use Rattle.std.proofs.Common.{◌≡◌, drop}
use Rattle.rooms_val.specs.View.{pairs_view}
use Rattle.migrate_seq.specs.Versions.{are_numbers}
use Rattle.migrate_seq.proofs.serialized.are_numbers.Given as goal

-- each value so far is a number
abbrev pub invariant-loop-entry : goal.invariant-loop-entry
invariant-loop-entry l = are_numbers (pairs_view l.entry-items) ≡ are_numbers (pairs_view (drop l.entry-index l.entry-items))
