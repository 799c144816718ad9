-- What a round over the watches finds, and what counts as told.
use Rattle.std.specs.Prelude.{◌≡◌, ◌≢◌, ℕ, ◌+◌, ◌≤◌, List, [], ◌∷◌, ◌++◌, length, Option, Some, None, slice_index_or}
use Rattle.std.specs.declared.cmp.Ordering.{Ordering}
use Rattle.signal_rules.specs.Meaning.{Meaning}
use Rattle.signal_values.specs.Seen.{value_in}
use Rattle.signal_values.specs.Seen as values
use Rattle.signal_core.specs.declared.watch.Watch.{Watch}
use Rattle.signal_core.specs.declared.watch.WatchId.{WatchId}
use Rattle.signal_core.specs.declared.news.News.{News}
use Rattle.signal_core.specs.Seen.{Seen}
use Rattle.signal_core.specs.Watches.{watch_at}

-- what is to be told in place of what was: nothing where the number isn't watched or its value was told last, and else
-- the value
abbrev pub IsNews : {R K V : Type 0} → Meaning K V → (K → K → Ordering) → values.Seen R K V → Option (Watch K V) → Option V → Type 0
IsNews m cmp values None news = news ≡ None
IsNews m cmp values (Some watch) None = watch.told ≡ Some (value_in m cmp values watch.key)
IsNews m cmp values (Some watch) (Some v) = (v ≡ value_in m cmp values watch.key) × (watch.told ≢ Some v)

-- the news that there are, each with its number, counted from one
abbrev pub numbered : {V : Type 0} → ℕ → List (Option V) → List (WatchId × V)
numbered number [] = []
numbered number (None ∷ news) = numbered (number + 1) news
numbered number (Some v ∷ news) = (record { number = number }, v) ∷ numbered (number + 1) news

-- the news of the next number were added, to those that there are and to those that are due
pub record AddsNews {R K V : Type 0} (m : Meaning K V) (cmp : K → K → Ordering) (values : values.Seen R K V) (slot : Option (Watch K V)) (old new : News V) : Type 0 where
  pub news : Option V
  pub is : IsNews m cmp values slot news
  pub told : new.told.items ≡ old.told.items ++ news ∷ []
  pub due : new.due.items ≡ old.due.items ++ numbered (length old.told.items) (news ∷ [])

-- the news of each number, and those that there are
pub record AreNews {R K V : Type 0} (m : Meaning K V) (cmp : K → K → Ordering) (values : values.Seen R K V) (watches : List (Option (Watch K V))) (told : List (Option V)) (due : List (WatchId × V)) : Type 0 where
  pub each : (number : ℕ) → IsNews m cmp values (watch_at watches number) (slice_index_or told number None)
  pub due_are : due ≡ numbered 0 told

-- these are the news of a graph as it is
pub record AreNewsOf {R K V : Type 0} (m : Meaning K V) (cmp : K → K → Ordering) (seen : Seen R K V) (news : News V) : Type 0 where
  pub are : AreNews m cmp seen.values seen.watches news.told.items news.due.items
  pub within : length news.told.items ≤ length seen.watches

-- a watch with its news, which count as told
abbrev pub told_slot : {K V : Type 0} → Option (Watch K V) → Option V → Option (Watch K V)
told_slot None news = None
told_slot (Some watch) None = Some watch
told_slot (Some watch) (Some v) = Some (record watch { told = Some v })

-- each watch with its news
pub record AreToldBy {K V : Type 0} (old : List (Option (Watch K V))) (news : List (Option V)) (new : List (Option (Watch K V))) : Type 0 where
  pub each : (number : ℕ) → watch_at new number ≡ told_slot (watch_at old number) (slice_index_or news number None)
  pub same_length : length new ≡ length old
