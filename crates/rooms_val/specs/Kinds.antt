-- What a value is where it is of a kind, and what is done to a map alone.
use Rattle.std.specs.Prelude.{ℕ, ℤ, List, Bool, Option, Some, None, option_map, option_and_then}
use Rattle.rooms_val.specs.Data.{Data, null, boolean, whole, text, list, map, Items, Members, Pairs, members_of, pairs_of}
use Rattle.rooms_val.specs.Maps.{value_at}

-- the truth value that the value is
abbrev pub as_truth : Data → Option Bool
as_truth (boolean b) = Some b
as_truth _ = None

-- the whole number that the value is
abbrev pub as_whole : Data → Option ℤ
as_whole (whole z) = Some z
as_whole _ = None

-- the text that the value is
abbrev pub as_text : Data → Option (List ℕ)
as_text (text t) = Some t
as_text _ = None

-- the items of the list that the value is
abbrev pub as_items : Data → Option Items
as_items (list ds) = Some ds
as_items _ = None

-- the members of the map that the value is
abbrev pub as_members : Data → Option Members
as_members (map ms) = Some ms
as_members _ = None

-- the keys and values of the map that the value is
abbrev pub as_map : Data → Option Pairs
as_map d = option_map pairs_of (as_members d)

-- the value with this done to it where it is a map; any other value stays
abbrev pub on_map : (Pairs → Pairs) → Data → Data
on_map change (map ms) = map (members_of (change (pairs_of ms)))
on_map change null = null
on_map change (boolean b) = boolean b
on_map change (whole z) = whole z
on_map change (text t) = text t
on_map change (list ds) = list ds

-- the value under a key, where the value is a map that has the key
abbrev pub field : Data → List ℕ → Option Data
field d key = option_and_then (λ ps. value_at ps key) (as_map d)

-- the text under a key, where there is one
abbrev pub text_at : Pairs → List ℕ → Option (List ℕ)
text_at ps key = option_and_then as_text (value_at ps key)

-- the whole number under a key, where there is one
abbrev pub number_at : Pairs → List ℕ → Option ℤ
number_at ps key = option_and_then as_whole (value_at ps key)
