-- The law of reaching, the contract of `reaching_is_least` of `reaching.rt`.
use Rattle.std.specs.Prelude.{◌≡◌, List, [], ◌∷◌, Bool, true, ◌⊎◌, length}
use Rattle.side_effects.specs.Reaching.{reaches}

-- the list has the item
abbrev pub IsIn : {X : Type 0} → X → List X → Type 0
IsIn x [] = ⊥
IsIn x (y ∷ ys) = (x ≡ y) ⊎ IsIn x ys

module _ {X : Type 0} (up : X → List X) (is_end : X → Bool) where
  -- only items of a list have something above them
  abbrev pub AreAll : List X → Type 0
  AreAll items = (x : X) → IsIn x items ⊎ (up x ≡ [])

  -- a set has the ends, and each item with something of it one step above
  pub record IsClosed (has : X → Bool) : Type 0 where
    pub ends : (x : X) → is_end x ≡ true → has x ≡ true
    pub below : (x y : X) → IsIn y (up x) → has y ≡ true → has x ≡ true

  -- the items that reach an end are the least such set
  pub record AreLeast (items : List X) : Type 0 where
    pub closed : IsClosed (reaches up is_end (length items))
    pub least : (has : X → Bool) → IsClosed has → (x : X) → reaches up is_end (length items) x ≡ true → has x ≡ true
