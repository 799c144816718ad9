-- Watches by number.
use Rattle.std.specs.Prelude.{◌≡◌, ◌≢◌, ℕ, ◌<◌, List, slice_index_or, Option, Some, None, IsSome, IsNone}
use Rattle.signal_core.specs.declared.watch.Watch.{Watch}

-- how many keys may be watched
abbrev pub most_watches : ℕ
most_watches = 64

-- the watch of a number
abbrev pub watch_at : {K V : Type 0} → List (Option (Watch K V)) → ℕ → Option (Watch K V)
watch_at watches number = slice_index_or watches number None

-- the number is watched
abbrev pub IsWatched : {K V : Type 0} → List (Option (Watch K V)) → ℕ → Type 0
IsWatched watches number = IsSome (watch_at watches number)

-- there are as many watches as may be: each number has one
abbrev pub IsFull : {K V : Type 0} → List (Option (Watch K V)) → Type 0
IsFull watches = (number : ℕ) → number < most_watches → IsWatched watches number

-- the least number that isn't watched
pub record IsLeastFree {K V : Type 0} (watches : List (Option (Watch K V))) (number : ℕ) : Type 0 where
  pub free : IsNone (watch_at watches number)
  pub below : (other : ℕ) → other < number → IsWatched watches other

-- a key is watched by a number from now on, and nothing was told of it; the other watches are as they were
pub record AddsWatch {K V : Type 0} (old new : List (Option (Watch K V))) (key : K) (number : ℕ) : Type 0 where
  pub here : watch_at new number ≡ Some (record { key = key; told = None })
  pub others : (other : ℕ) → other ≢ number → watch_at new other ≡ watch_at old other

-- a number is watched no more; the other watches are as they were
pub record DropsWatch {K V : Type 0} (old new : List (Option (Watch K V))) (number : ℕ) : Type 0 where
  pub here : watch_at new number ≡ None
  pub others : (other : ℕ) → other ≢ number → watch_at new other ≡ watch_at old other
