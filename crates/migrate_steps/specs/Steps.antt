-- What each step of a migration makes of a record, up and down.
use Rattle.std.specs.Prelude.{ℕ, nat_le, true, ◌/◌, ℤ, pos, negsuc, neg_ℤ, ◌*ℤ◌, List, [], ◌∷◌, Bool, if◌then◌else◌, Option, Some, None, is_some}
use Rattle.std.specs.Prelude as std
use Rattle.std.specs.Int.{int_min, int_max}
use Rattle.std.specs.Option.{option_map_or}
use Rattle.std.specs.Str.{bytes_eq}
use Rattle.rooms_val.specs.Data.{Data, null, boolean, whole, text, list, map, pairs_of, members_of, Pairs}
use Rattle.rooms_val.specs.declared.limits.TheConstants.{GREATEST_WHOLE}
use Rattle.rooms_val.specs.Kinds.{on_map}
use Rattle.rooms_val.specs.Maps.{value_at, with_key, without_key}
use Rattle.rooms_val.specs.View.{data_of}
use Rattle.migrate_steps.specs.declared.step.MigStep.{MigStep}
use Rattle.migrate_steps.specs.declared.step.MigStep.TheVariants.{Add, Remove, Rename, MapEnum, Scale, Nest, Unnest}
use Rattle.migrate_steps.specs.declared.step.Way.{Way}
use Rattle.migrate_steps.specs.declared.step.Way.TheVariants.{Up, Down}

-- a map after a change of the value under a key, where it has the key
abbrev pub changed_at : List ℕ → (Data → Data) → Pairs → Pairs
changed_at key change ps = option_map_or (λ d. with_key ps key (change d)) (value_at ps key) ps

-- a value after a change of the map that a path leads to, where it leads to one
abbrev pub at_path : List (List ℕ) → (Pairs → Pairs) → Data → Data
at_path [] change d = on_map change d
at_path (key ∷ path) change d = on_map (changed_at key (at_path path change)) d

-- the value stands under the key where the key was missing
abbrev pub added : List ℕ → Data → Pairs → Pairs
added key d ps = if is_some (value_at ps key) then ps else with_key ps key d

-- the value of one key stands under another alone
abbrev pub renamed : List ℕ → List ℕ → Pairs → Pairs
renamed from to ps = option_map_or (λ d. with_key (without_key ps from) to d) (value_at ps from) ps

-- the second of the first pair that has the text as its first, or the text where there is none
abbrev pub replacement : List (List ℕ × List ℕ) → List ℕ → List ℕ
replacement [] s = s
replacement (p ∷ ps) s = if bytes_eq p.0 s then p.1 else replacement ps s

-- a pair as it is read on the way: down, reversed
abbrev pub as_read : Way → List ℕ × List ℕ → List ℕ × List ℕ
as_read Up p = p
as_read Down p = (p.1, p.0)

abbrev pub toward : Way → List (List ℕ × List ℕ) → List (List ℕ × List ℕ)
toward way pairs = std.map (as_read way) pairs

-- a text becomes what stands for it by the pairs, and another value stays
abbrev pub replaced : List (List ℕ × List ℕ) → Data → Data
replaced pairs (text s) = text (replacement pairs s)
replaced pairs null = null
replaced pairs (boolean b) = boolean b
replaced pairs (whole z) = whole z
replaced pairs (list ds) = list ds
replaced pairs (map ms) = map ms

-- the number nearest to a number within the greatest whole number on either side
abbrev pub clamped : ℤ → ℤ
clamped z = int_max (neg_ℤ GREATEST_WHOLE) (int_min z GREATEST_WHOLE)

-- a number is multiplied and clamped, and another value stays
abbrev pub scaled : ℕ → Data → Data
scaled factor (whole z) = whole (clamped (z *ℤ pos factor))
scaled factor null = null
scaled factor (boolean b) = boolean b
scaled factor (text s) = text s
scaled factor (list ds) = list ds
scaled factor (map ms) = map ms

-- the quotient rounded down, also below 0
abbrev pub quotient : ℤ → ℕ → ℤ
quotient (pos n) factor = pos (n / factor)
quotient (negsuc n) factor = negsuc (n / factor)

-- a number is divided and rounded down, and another value stays
abbrev pub divided : ℕ → Data → Data
divided factor (whole z) = whole (quotient z factor)
divided factor null = null
divided factor (boolean b) = boolean b
divided factor (text s) = text s
divided factor (list ds) = list ds
divided factor (map ms) = map ms

-- two maps after the value of a key moved from the first to the second, where the first has the key
abbrev pub moved_one : List ℕ → Pairs × Pairs → Pairs × Pairs
moved_one key m = option_map_or (λ d. (without_key m.0 key, with_key m.1 key d)) (value_at m.0 key) m

-- two maps after the values of some keys moved from the first to the second
abbrev pub moved : List (List ℕ) → Pairs × Pairs → Pairs × Pairs
moved keys m = std.fold (λ n key. moved_one key n) m keys

-- the first map, with the second under a key where that isn't empty
abbrev pub joined_under : List ℕ → Pairs × Pairs → Pairs
joined_under into (rest, []) = rest
joined_under into (rest, p ∷ inner) = with_key rest into (map (members_of (p ∷ inner)))

-- where one of the keys is there, those move into a new map under a key
abbrev pub nested : List (List ℕ) → List ℕ → Pairs → Pairs
nested keys into ps = joined_under into (moved keys (ps, []))

-- where a key's value is a map, the key goes and the map's values under some keys move out
abbrev pub unnested_from : Option Data → List (List ℕ) → List ℕ → Pairs → Pairs
unnested_from (Some (map ms)) keys into ps = (moved keys (pairs_of ms, without_key ps into)).1
unnested_from (Some null) keys into ps = ps
unnested_from (Some (boolean b)) keys into ps = ps
unnested_from (Some (whole z)) keys into ps = ps
unnested_from (Some (text s)) keys into ps = ps
unnested_from (Some (list ds)) keys into ps = ps
unnested_from None keys into ps = ps

abbrev pub unnested : List (List ℕ) → List ℕ → Pairs → Pairs
unnested keys into ps = unnested_from (value_at ps into) keys into ps

-- what a step makes of the map that its path leads to, up and down
abbrev pub row : Way → MigStep → Pairs → Pairs
row Up (Add path key v) ps = added key (data_of v) ps
row Up (Remove path key v) ps = without_key ps key
row Up (Rename path old new) ps = renamed old new ps
row Up (MapEnum path key pairs) ps = changed_at key (replaced (toward Up pairs.items)) ps
row Up (Scale path key factor) ps = changed_at key (scaled factor) ps
row Up (Nest path keys into) ps = nested keys.items into ps
row Up (Unnest path keys into) ps = unnested keys.items into ps
row Down (Add path key v) ps = without_key ps key
row Down (Remove path key v) ps = added key (data_of v) ps
row Down (Rename path old new) ps = renamed new old ps
row Down (MapEnum path key pairs) ps = changed_at key (replaced (toward Down pairs.items)) ps
row Down (Scale path key factor) ps = changed_at key (divided factor) ps
row Down (Nest path keys into) ps = unnested keys.items into ps
row Down (Unnest path keys into) ps = nested keys.items into ps

-- the path of a step
abbrev pub path_of : MigStep → List (List ℕ)
path_of (Add path key v) = path.items
path_of (Remove path key v) = path.items
path_of (Rename path old new) = path.items
path_of (MapEnum path key pairs) = path.items
path_of (Scale path key factor) = path.items
path_of (Nest path keys into) = path.items
path_of (Unnest path keys into) = path.items

-- a record after a step
abbrev pub stepped : Way → MigStep → Data → Data
stepped way step d = at_path (path_of step) (row way step) d

-- a factor is at least 2
abbrev pub can_scale : MigStep → Bool
can_scale (Scale path key factor) = nat_le 2 factor
can_scale (Add path key v) = true
can_scale (Remove path key v) = true
can_scale (Rename path old new) = true
can_scale (MapEnum path key pairs) = true
can_scale (Nest path keys into) = true
can_scale (Unnest path keys into) = true
