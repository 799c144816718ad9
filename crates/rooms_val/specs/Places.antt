-- Where a key stands among rising keys, or where it would go.
use Rattle.std.specs.Prelude.{◌≡◌, ℕ, ◌<◌, ◌≤◌, List, length, slice_index_or}
use Rattle.std.specs.declared.cmp.Ordering.TheVariants.{Less, Equal, Greater}
use Rattle.rooms_val.specs.Maps.{order}

module _ {X : Type 0} (es : List (List ℕ × X)) (key : List ℕ) (place : ℕ) where
  -- the key stands at the place, above the keys before it and below those after it
  pub record IsPlace : Type 0 where
    pub within : place < length es
    pub here : (e : List ℕ × X) → order key (slice_index_or es place e).0 ≡ Equal
    pub before : (i : ℕ) (e : List ℕ × X) → i < place → order key (slice_index_or es i e).0 ≡ Greater
    pub after : (i : ℕ) (e : List ℕ × X) → place < i → i < length es → order key (slice_index_or es i e).0 ≡ Less

  -- the key would go to the place: it is above the keys before it and below those from it on
  pub record IsGap : Type 0 where
    pub within : place ≤ length es
    pub before : (i : ℕ) (e : List ℕ × X) → i < place → order key (slice_index_or es i e).0 ≡ Greater
    pub after : (i : ℕ) (e : List ℕ × X) → place ≤ i → i < length es → order key (slice_index_or es i e).0 ≡ Less
