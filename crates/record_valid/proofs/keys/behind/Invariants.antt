use Rattle.std.proofs.Common.{◌≡◌, drop}
use Rattle.record_valid.specs.Parts.{behind}
use Rattle.record_valid.proofs.keys.behind.Given as goal

abbrev pub invariant-loop-place : goal.invariant-loop-place
invariant-loop-place g l = behind l.entries l.fn.key ≡ behind (drop l.place l.entries) l.fn.key
