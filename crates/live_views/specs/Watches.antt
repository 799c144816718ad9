-- The watches of a client, and what they have to tell.
use Rattle.std.specs.Prelude.{◌≡◌, ◌≢◌, ℕ, ◌+◌, List, [], ◌∷◌, ◌++◌, Bool, false, Option, Some, None, IfSome, option_map, if◌then◌else◌, slice_index_or, map}
use Rattle.std.specs.Option.{option_map_or}
use Rattle.rooms_val.specs.Data.{Data, Pairs}
use Rattle.shape_tree.specs.Queries.{is_same}
use Rattle.shape_tree.specs.Views.{told}
use Rattle.shape_tree.specs.declared.view.View.{View}
use Rattle.signal_core.specs.declared.watch.Watch.{Watch}
use Rattle.signal_core.specs.Watches.{watch_at}
use Rattle.tl_rules.specs.declared.key.TlKey.{TlKey}
use Rattle.tl_rules.specs.declared.value.TlValue.{TlValue}
use Rattle.live_views.specs.Telling.{key_of, told_of, Answers}

-- a view that is watched, and what was last told of it, if anything was
pub record Watched : Type 0 where
  pub view : View
  pub told : Option Data

-- watches by number: none where a number isn't watched
abbrev pub Watches : Type 0
Watches = List (Option Watched)

-- the view was told last what it tells of a map
abbrev pub is_told : Pairs → Watched → Bool
is_told m watched = option_map_or (λ d. is_same d (told m watched.view)) watched.told false

-- what a watch has to tell of a map, with its number: nothing where it was told last
abbrev pub news_of : Pairs → ℕ → Option Watched → List (ℕ × Data)
news_of m number None = []
news_of m number (Some watched) = if is_told m watched then [] else (number, told m watched.view) ∷ []

-- what all watches have to tell, by rising number counted from one
abbrev pub news_from : Pairs → ℕ → Watches → List (ℕ × Data)
news_from m number [] = []
news_from m number (w ∷ ws) = news_of m number w ++ news_from m (number + 1) ws

abbrev pub news : Pairs → Watches → List (ℕ × Data)
news m watches = news_from m 0 watches

-- a watch, and all of them, once all was told
abbrev pub told_now : Pairs → Watched → Watched
told_now m watched = record watched { told = Some (told m watched.view) }

abbrev pub all_told : Pairs → Watches → Watches
all_told m watches = map {B = Option Watched} (option_map (told_now m)) watches

-- a store's watch stands for one of a client: it has the key of the view, and an answer of its kind that was told so
abbrev pub StandsFor : Option (Watch TlKey TlValue) → Option Watched → Type 0
StandsFor slot None = slot ≡ None
StandsFor slot (Some watched) =
    (v : Option TlValue) × (slot ≡ Some (record { key = key_of watched.view; told = v })) × (option_map told_of v ≡ watched.told) × IfSome v (Answers watched.view)

-- the watches of a store stand for those of a client
abbrev pub Stand : List (Option (Watch TlKey TlValue)) → Watches → Type 0
Stand slots watches = (number : ℕ) → StandsFor (watch_at slots number) (slice_index_or watches number None)

-- a number watches a view, of which nothing was told
abbrev pub IsUntold : Watches → ℕ → View → Type 0
IsUntold watches number view = slice_index_or watches number None ≡ Some (record { view = view; told = None })

-- other numbers watch what they did
abbrev pub OthersWatchOn : Watches → Watches → ℕ → Type 0
OthersWatchOn old new number = (other : ℕ) → other ≢ number → slice_index_or new other None ≡ slice_index_or old other None

-- the watches with one more by a number
abbrev pub IsWatching : Watches → Watches → ℕ → View → Type 0
IsWatching old new number view = IsUntold new number view × OthersWatchOn old new number
