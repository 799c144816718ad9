-- Lists in order, by insertion.
use Rattle.std.specs.Prelude.{List, [], ◌∷◌, if◌then◌else◌}
use Rattle.std.specs.declared.cmp.Ordering.{Ordering}
use Rattle.std.specs.Ordering.{is_lt}

module _ {X : Type 0} (cmp : X → X → Ordering) where
  -- the list with one more item, before the first that is greater
  abbrev pub inserted : X → List X → List X
  inserted x [] = x ∷ []
  inserted x (y ∷ ys) = if is_lt (cmp x y) then x ∷ y ∷ ys else y ∷ inserted x ys

  -- the items, each at most those after it
  abbrev pub in_order : List X → List X
  in_order [] = []
  in_order (x ∷ xs) = inserted x (in_order xs)
