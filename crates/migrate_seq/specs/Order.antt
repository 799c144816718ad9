-- Lists in an order where one thing may follow another.
use Rattle.std.specs.Prelude.{◌≡◌, ℕ, zero, suc, List, [], ◌∷◌, Bool, not, ◌&&◌, if◌then◌else◌, Option, Some, None, option_map, length, count_by, IsTrue}
use Rattle.std.specs.List.{list_any}
use Rattle.std.specs.Option.{option_map_or}

-- the first value that the function returns for an element, if it returns one
abbrev pub first_some : {X Y : Type 0} → (X → Option Y) → List X → Option Y
first_some f [] = None
first_some f (x ∷ xs) = option_map_or Some (f x) (first_some f xs)

-- the first that passes a test, and the others
abbrev pub picked : {X : Type 0} → (X → Bool) → List X → Option (X × List X)
picked test [] = None
picked test (x ∷ xs) = if test x then Some (x, xs) else option_map (λ p. (p.0, x ∷ p.1)) (picked test xs)

module _ {X : Type 0} (follows : X → X → Bool) where
  -- it follows none of them
  abbrev pub is_free : List X → X → Bool
  is_free xs x = not (list_any (follows x) xs)

  -- the first free one is taken, at most n times: what was taken, in turn, and what is left
  abbrev pub taken_and_left : ℕ → List X → List X × List X
  taken_and_left zero xs = ([], xs)
  taken_and_left (suc n) xs =
      option_map_or (λ p. let rest = taken_and_left n p.1 in (p.0 ∷ rest.0, rest.1)) (picked (is_free xs) xs) ([], xs)

  -- the list with the first free one taken again and again
  abbrev pub in_order : List X → List X
  in_order xs = (taken_and_left (length xs) xs).0

  -- what is never taken
  abbrev pub never_taken : List X → List X
  never_taken xs = (taken_and_left (length xs) xs).1

  module _ (before : X → X → Bool) where
    -- it is free, and no free one comes before it
    abbrev pub is_least_free : List X → X → Bool
    is_least_free xs x = is_free xs x && not (list_any (λ y. is_free xs y && before y x) xs)

    -- at each place stands the least free one of those from there on
    abbrev pub HasLeastFirst : List X → Type 0
    HasLeastFirst [] = Unit {0}
    HasLeastFirst (x ∷ xs) = IsTrue (is_least_free (x ∷ xs) x) × HasLeastFirst xs

    -- the one list that holds each of xs as often, and at each place the least free one
    pub record IsOrderOf (xs ordered : List X) : Type 0 where
      pub same : (test : X → Bool) → count_by test xs ≡ count_by test ordered
      pub least_first : HasLeastFirst ordered
