use Rattle.std.proofs.Common.{◌≡◌, map, drop}
use Rattle.wire_msgs.specs.Keys.{is_listed}
use Rattle.wire_msgs.proofs.keys.is_listed.Given as goal

abbrev pub invariant-loop-listed : goal.invariant-loop-listed
invariant-loop-listed l = is_listed (map (λ k. k.now) l.keys) l.key ≡ is_listed (map (λ k. k.now) (drop l.listed-index l.keys)) l.key
