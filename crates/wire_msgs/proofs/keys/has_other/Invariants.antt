use Rattle.std.proofs.Common.{◌≡◌, map, drop}
use Rattle.rooms_val.specs.View.{pairs_view}
use Rattle.wire_msgs.specs.Keys.{has_other}
use Rattle.wire_msgs.proofs.keys.has_other.Given as goal

abbrev pub invariant-loop-entry : goal.invariant-loop-entry
invariant-loop-entry l =
    let wanted = map (λ k. k.now) l.wanted in
    let allowed = map (λ k. k.now) l.allowed in
    has_other wanted allowed (pairs_view l.entry-items) ≡ has_other wanted allowed (pairs_view (drop l.entry-index l.entry-items))
