-- Which watches are due, and what counts as told afterwards.
use Rattle.std.specs.Prelude.{◌≡◌, ◌≢◌, ◌↔◌, ℕ, List, Option, Some, option_map, map, Contains}
use Rattle.std.specs.List.Sorted.{IsStrictlyIncreasing}
use Rattle.std.specs.declared.cmp.Ordering.{Ordering}
use Rattle.signal_rules.specs.Meaning.{Meaning}
use Rattle.signal_values.specs.Kept.{IsFreshKey}
use Rattle.signal_values.specs.Seen.{value_in, IsFreshIn}
use Rattle.signal_values.specs.Seen as values
use Rattle.signal_core.specs.declared.watch.Watch.{Watch}
use Rattle.signal_core.specs.declared.watch.WatchId.{WatchId}
use Rattle.signal_core.specs.Seen.{Seen}
use Rattle.signal_core.specs.Watches.{watch_at}

-- a watch is due with a value: the number is watched, the value is that of its key over the atoms, and it isn't what was
-- last told
pub record IsDue {R K V : Type 0} (m : Meaning K V) (cmp : K → K → Ordering) (seen : Seen R K V) (number : ℕ) (v : V) : Type 0 where
  pub watch : Watch K V
  pub at : watch_at seen.watches number ≡ Some watch
  pub value : v ≡ value_in m cmp seen.values watch.key
  pub differs : watch.told ≢ Some v

-- these are the watches that are due, each with its value, by rising number
pub record AreDue {R K V : Type 0} (m : Meaning K V) (cmp : K → K → Ordering) (seen : Seen R K V) (due : List (WatchId × V)) : Type 0 where
  pub which : (number : ℕ) (v : V) → Contains due (record { number = number }, v) ↔ IsDue m cmp seen number v
  pub rising : IsStrictlyIncreasing (map (λ d. d.0.number) due)

-- the watch once its value was told
abbrev pub told_of : {R K V : Type 0} → Meaning K V → (K → K → Ordering) → values.Seen R K V → Watch K V → Watch K V
told_of m cmp values watch = record watch { told = Some (value_in m cmp values watch.key) }

-- each watch was told its value: one that wasn't due is as it was
abbrev pub AreTold : {R K V : Type 0} → Meaning K V → (K → K → Ordering) → Seen R K V → List (Option (Watch K V)) → Type 0
AreTold m cmp old watches = (number : ℕ) → watch_at watches number ≡ option_map (told_of m cmp old.values) (watch_at old.watches number)

-- each key that is watched is fresh
abbrev pub AreFreshKeys : {R K V : Type 0} → List (Option (Watch K V)) → values.Seen R K V → Type 0
AreFreshKeys {R} {K} {V} watches values = (number : ℕ) (watch : Watch K V) → watch_at watches number ≡ Some watch → IsFreshKey values.rows values.fresh watch.key

-- each key that is watched is fresh, and the epoch isn't the last
abbrev pub AreFreshIn : {R K V : Type 0} → List (Option (Watch K V)) → values.Seen R K V → Type 0
AreFreshIn {R} {K} {V} watches values = (number : ℕ) (watch : Watch K V) → watch_at watches number ≡ Some watch → IsFreshIn values watch.key
