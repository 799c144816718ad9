use Rattle.std.proofs.Common.{◌≡◌, nat_le, ◌+◌, ◌*◌, drop}
use Rattle.rooms_val.specs.Data.{items_depth, members_depth, items_of, members_of}
use Rattle.rooms_val.specs.View.{items_view, pairs_view}
use Rattle.wire_msgs.proofs.depth.+depth.Given as goal

abbrev pub decreases-is_within : goal.decreases-is_within
decreases-is_within l = 2 * l.levels

abbrev pub decreases-items_are_within : goal.decreases-items_are_within
decreases-items_are_within l = 2 * l.levels + 1

abbrev pub decreases-fields_are_within : goal.decreases-fields_are_within
decreases-fields_are_within l = 2 * l.levels + 1

abbrev pub invariant-items_are_within-loop-item : goal.invariant-items_are_within-loop-item
invariant-items_are_within-loop-item l = nat_le (items_depth (items_of (items_view l.items))) l.levels ≡ nat_le (items_depth (items_of (items_view (drop l.item-index l.items)))) l.levels

abbrev pub invariant-fields_are_within-loop-entry : goal.invariant-fields_are_within-loop-entry
invariant-fields_are_within-loop-entry l = nat_le (members_depth (members_of (pairs_view l.entries))) l.levels ≡ nat_le (members_depth (members_of (pairs_view (drop l.entry-index l.entries)))) l.levels
