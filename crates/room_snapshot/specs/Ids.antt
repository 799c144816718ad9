-- The ids of saved records.
use Rattle.std.specs.Prelude.{◌≡◌, ℕ, List, [], ◌∷◌, ◌++◌, Bool, false, Option, IsTrue, codes, option_and_then, MatchOption}
use Rattle.std.specs.List.{list_any, fold}
use Rattle.std.specs.Option.{option_map_or, IsSomeAnd}
use Rattle.rooms_val.specs.Data.{Data, Pairs}
use Rattle.rooms_val.specs.Kinds.{as_text, field}
use Rattle.rooms_val.specs.Maps.{ties, with_key}

-- the id of a record: the text under `id`, where the record is a map that has one there
abbrev pub id_in : Data → Option (List ℕ)
id_in d = option_and_then as_text (field d (codes "id"))

-- the record has the id
abbrev pub is_of : List ℕ → Data → Bool
is_of id d = option_map_or (λ own. ties id own) (id_in d) false

-- some of the records has the id
abbrev pub has_id : List Data → List ℕ → Bool
has_id ds id = list_any (is_of id) ds

-- each record is a map with a text as its id, and no later one has the same
abbrev pub HaveIds : List Data → Type 0
HaveIds [] = Unit {0}
HaveIds (d ∷ ds) = IsSomeAnd (id_in d) (λ id. has_id ds id ≡ false) × HaveIds ds

-- a record is at fault where these stood before it: it is no map with a text as its id, which is told by `-`, or it has
-- the id of one of them, which is told
abbrev pub IsFault : List Data → Data → List ℕ → Type 0
IsFault before d told = MatchOption (id_in d) (told ≡ codes "-") (λ id. (told ≡ id) × IsTrue (has_id before id))

-- the first of the records at fault is told
pub record IsFirstFault (ds : List Data) (told : List ℕ) : Type 0 where
  pub before : List Data
  pub bad : Data
  pub after : List Data
  pub split : ds ≡ before ++ bad ∷ after
  pub fine : HaveIds before
  pub fault : IsFault before bad told

-- the map with a record under its id; where that is no text the map stays
abbrev pub with_record : Pairs → Data → Pairs
with_record m d = option_map_or (λ id. with_key m id d) (id_in d) m

-- records under their ids; of two with one id the later one counts
abbrev pub by_id : List Data → Pairs
by_id ds = fold with_record [] ds
