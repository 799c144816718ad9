-- What is asked of a key between two others, and of several: said of texts, by the order of their
-- bytes alone.
use Rattle.std.specs.Prelude.{◌≡◌, ℕ, List, Bool, IsTrue, Option, IfSome, All, AllPairs, length}
use Rattle.std.specs.Cmp.Lexicographic.{slice_cmp}
use Rattle.std.specs.Ordering.{is_lt, nat_cmp}
use Rattle.index_keys.specs.Keys.{IsKey}

-- the first is less by bytes
abbrev pub is_less : List ℕ → List ℕ → Bool
is_less first second = is_lt (slice_cmp nat_cmp first second)

-- a valid key, greater than the one below and less than the one above where these are given
pub record IsBetween (below above : Option (List ℕ)) (key : List ℕ) : Type 0 where
  pub valid : IsKey key
  pub from_below : IfSome below (λ end. IsTrue (is_less end key))
  pub to_above : IfSome above (λ end. IsTrue (is_less key end))

-- so many keys that rise, each between the ends
pub record AreBetween (below above : Option (List ℕ)) (count : ℕ) (keys : List (List ℕ))
    : Type 0 where
  pub number : length keys ≡ count
  pub rising : AllPairs (λ first second. IsTrue (is_less first second)) keys
  pub between : All (IsBetween below above) keys
