use Rattle.std.proofs.Common.{◌≡◌, map, drop}
use Rattle.wire_msgs.specs.Keys.{lacks_one}
use Rattle.wire_msgs.proofs.keys.lacks_one.Given as goal

abbrev pub invariant-loop-key : goal.invariant-loop-key
invariant-loop-key l = lacks_one (map (λ k. k.now) l.keys) l.fields ≡ lacks_one (map (λ k. k.now) (drop l.key-index l.keys)) l.fields
