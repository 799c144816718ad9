use Rattle.std.proofs.Common.{◌≡◌, drop}
use Rattle.record_valid.proofs.KeysLemmas.{misses}
use Rattle.record_valid.proofs.keys.lacks.Given as goal

abbrev pub invariant-loop-key : goal.invariant-loop-key
invariant-loop-key g l = misses l.wanted l.given ≡ misses (drop l.key-index l.wanted) l.rest
