-- Maps as pairs of a key and a value of any kind, whose keys rise by bytes.
use Rattle.std.specs.Prelude.{◌≡◌, ℕ, List, [], ◌∷◌, Bool, not, T, Option, Some, None}
use Rattle.std.specs.Prelude as std
use Rattle.std.specs.declared.cmp.Ordering.{Ordering}
use Rattle.std.specs.Ordering.{nat_cmp, eq_by_cmp}
use Rattle.std.specs.Cmp.Lexicographic.{slice_cmp}
use Rattle.std.specs.FinMap.Entries as entries

-- the order of two keys, by their bytes
abbrev pub order : List ℕ → List ℕ → Ordering
order = slice_cmp nat_cmp

-- two keys are the same
abbrev pub ties : List ℕ → List ℕ → Bool
ties q k = eq_by_cmp order q k

module _ {V : Type 0} where
  -- the keys rise by bytes, so that none stands twice
  abbrev pub AreRising : List (List ℕ × V) → Type 0
  AreRising es = T (entries.is_sorted order es)

  -- what stands under a key
  abbrev pub value_at : List (List ℕ × V) → List ℕ → Option V
  value_at es key = entries.find order key es

  -- the map with this under a key, in place of what stood there
  abbrev pub with_key : List (List ℕ × V) → List ℕ → V → List (List ℕ × V)
  with_key es key v = entries.put order key v es

  -- the map without a key
  abbrev pub without_key : List (List ℕ × V) → List ℕ → List (List ℕ × V)
  without_key es key = entries.where_key order (λ k. not (ties key k)) es

  -- the map with this or nothing under a key
  abbrev pub set_at : List (List ℕ × V) → List ℕ → Option V → List (List ℕ × V)
  set_at es key None = without_key es key
  set_at es key (Some v) = with_key es key v

  -- the map with this under a key, or as it is where there is nothing to add
  abbrev pub added : List (List ℕ × V) → List ℕ → Option V → List (List ℕ × V)
  added es key None = es
  added es key (Some v) = with_key es key v

  -- found is what stands under the key in a map, and rest is the map without it
  pub record IsTaken (key : List ℕ) (found : Option V) (all rest : List (List ℕ × V)) : Type 0 where
    pub found_is : found ≡ value_at all key
    pub rest_is : rest ≡ without_key all key

  -- the keys, in order
  abbrev pub keys_of : List (List ℕ × V) → List (List ℕ)
  keys_of es = std.map (λ e. e.0) es

  -- each value has the property
  abbrev pub EachValue : (V → Type 0) → List (List ℕ × V) → Type 0
  EachValue P [] = Unit {0}
  EachValue P (e ∷ es) = P e.1 × EachValue P es

-- the map, with the value under each key seen by g
abbrev pub seen : {V W : Type 0} → (V → W) → List (List ℕ × V) → List (List ℕ × W)
seen g es = std.map (λ e. (e.0, g e.1)) es
