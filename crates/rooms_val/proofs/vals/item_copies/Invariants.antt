use Rattle.std.proofs.Common.{◌≡◌, take}
use Rattle.rooms_val.specs.View.{items_view}
use Rattle.rooms_val.proofs.vals.item_copies.Given as goal

-- what was copied so far stands for what was read so far
abbrev pub invariant-items : goal.invariant-items
invariant-items l = items_view l.copies.items ≡ items_view (take l.item-index l.items)
