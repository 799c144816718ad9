-- The text by which a client names its room.
use Rattle.std.specs.Prelude.{◌≡◌, ℕ, pos, ◌<◌, ◌∷◌, List, [], codes, Ok}
use Rattle.rooms_val.specs.Data.{Data, boolean, whole, text, map, members_of}
use Rattle.rooms_val.specs.Json.{value_of}
use Rattle.link_texts.specs.declared.join.Join.{Join}

-- the value of a join: whether the session only reads, the number of the room, and the word
abbrev pub join_val : Join → Data
join_val join = map (members_of ((codes "readonly", boolean join.readonly) ∷ (codes "room", whole (pos join.room))
    ∷ (codes "type", text (codes "join")) ∷ []))

-- a text names one of so many rooms: it has the value of the join
pub record IsJoin (rooms : ℕ) (bytes : List ℕ) (join : Join) : Type 0 where
  pub says : value_of bytes ≡ Ok (join_val join)
  pub there : join.room < rooms

-- a text names none of so many rooms
abbrev pub IsNoJoin : ℕ → List ℕ → Type 0
IsNoJoin rooms bytes = (join : Join) → IsJoin rooms bytes join → ⊥
