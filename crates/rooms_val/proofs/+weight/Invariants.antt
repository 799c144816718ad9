use Rattle.std.proofs.Common.{◌≡◌, ◌≤◌, ◌+◌, ◌-◌, ◌^◌, min, drop}
use Rattle.rooms_val.specs.Data.{items_of, members_of}
use Rattle.rooms_val.specs.View.{items_view, pairs_view}
use Rattle.rooms_val.specs.Weight.{items_weight, members_weight}
use Rattle.rooms_val.proofs.+weight.Given as goal

-- the sum so far and what is left weigh together what all weighs
abbrev pub invariant-vals::Vals::weight-loop-item : goal.invariant-vals::Vals::weight-loop-item
invariant-vals::Vals::weight-loop-item l = (l.total ≤ 2 ^ 64 - 1) ×
    (min (l.total + items_weight (items_of (items_view (drop l.item-index l.item-items)))) (2 ^ 64 - 1) ≡ min (items_weight (items_of (items_view l.item-items))) (2 ^ 64 - 1))

abbrev pub invariant-fields::Fields::weight-loop-key : goal.invariant-fields::Fields::weight-loop-key
invariant-fields::Fields::weight-loop-key l = (l.total ≤ 2 ^ 64 - 1) ×
    (min (l.total + members_weight (members_of (pairs_view (drop l.key-index l.key-items)))) (2 ^ 64 - 1) ≡ min (members_weight (members_of (pairs_view l.key-items))) (2 ^ 64 - 1))
