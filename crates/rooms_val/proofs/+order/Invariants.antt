use Rattle.std.proofs.Common.{◌≡◌}
use Rattle.rooms_val.specs.Data.{items_of, members_of}
use Rattle.rooms_val.specs.Order.{items_cmp, members_cmp}
use Rattle.rooms_val.proofs.OrderLemmas.{items_left, members_left}
use Rattle.rooms_val.proofs.+order.Given as goal

-- what is left of both stands as they do
abbrev pub invariant-fields::Fields::compare-fields : goal.invariant-fields::Fields::compare-fields
invariant-fields::Fields::compare-fields l = record {
  place : l.place ≡ l.key-index;
  left : members_cmp (members_of l.fn.self) (members_of l.fn.other) ≡ members_left l.key-items l.fn.other l.key-index;
}

abbrev pub invariant-vals::Vals::compare-items : goal.invariant-vals::Vals::compare-items
invariant-vals::Vals::compare-items l = record {
  place : l.place ≡ l.item-index;
  left : items_cmp (items_of l.fn.self) (items_of l.fn.other) ≡ items_left l.item-items l.fn.other l.item-index;
}
