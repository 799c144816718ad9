-- What is reached from an item by steps up.
use Rattle.std.specs.Prelude.{ℕ, zero, suc, List, Bool, ◌||◌}
use Rattle.std.specs.List.{list_any}

-- up are the items one step above an item
module _ {X : Type 0} (up : X → List X) (is_end : X → Bool) where
  -- from the item an end is reached by at most so many steps up; an end reaches itself by none
  unfoldable pub reaches : ℕ → X → Bool
  reaches zero x = is_end x
  reaches (suc n) x = is_end x || list_any (reaches n) (up x)
