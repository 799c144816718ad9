-- What the entries of the room's history name, and whose they are.
use Rattle.std.specs.Prelude.{◌≡◌, ℕ, slice_get, true, not, ◌||◌, Some}
use Rattle.std.specs.List.{list_all}
use Rattle.room_model.specs.Schemas.{WorldSchemas, is_own}
use Rattle.room_model.specs.Rooms.{Session, Room}
use Rattle.room_model.specs.Worlds as model
use Rattle.room_model.specs.declared.history.Author.{Author}
use Rattle.room_model.specs.declared.history.Entry.{Entry}
use Rattle.side_effects.specs.declared.fault.EditFault.{EditFault}
use Rattle.world_laws.specs.Presences.{GoesOnByClosing, GoesOnByRemovals}
use Rattle.sync_world.specs.Standing.{Stands}
use Rattle.sync_world.specs.declared.world.World.{World}

-- an entry of a read-only session names no id of the document
abbrev pub ReadonlyEditNothing : World → Type 0
ReadonlyEditNothing code =
    (schemas : WorldSchemas EditFault) (world : model.World) (at : ℕ) (entry : Entry) (author : Author) (session : Session)
    → Stands schemas world code → slice_get world.room.history at ≡ Some entry → entry.author ≡ Some author
    → slice_get world.room.sessions author.session ≡ Some session → session.readonly ≡ true
    → list_all (λ c. not (schemas.room.is_document c.0)) entry.diff ≡ true

-- an entry with an author names ids of the document and the presence of the author's own session alone
abbrev pub AuthorsNameTheirOwn : World → Type 0
AuthorsNameTheirOwn code =
    (schemas : WorldSchemas EditFault) (world : model.World) (at : ℕ) (entry : Entry) (author : Author)
    → Stands schemas world code → slice_get world.room.history at ≡ Some entry → entry.author ≡ Some author
    → list_all (λ c. schemas.room.is_document c.0 || is_own author.session c.0) entry.diff ≡ true

-- an entry without author is one of those with which the room began, or removes the presence of a session that was ended or has left
abbrev pub OthersRemovePresences : World → Type 0
OthersRemovePresences code = (schemas : WorldSchemas EditFault) (world : model.World) → Stands schemas world code → GoesOnByRemovals schemas.room world.room

-- the code stands for a world whose history is that of a room with entries on top, of which each without author removes the presence of a
-- session that was closed meanwhile
pub record ClosesSince (schemas : WorldSchemas EditFault) (before : Room) (code : World) : Type 0 where
  pub world : model.World
  pub stands : Stands schemas world code
  pub closes : GoesOnByClosing before world.room
