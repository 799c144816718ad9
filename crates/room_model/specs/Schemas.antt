-- What schemas decide, as records of functions: what a room's does is the argument of all definitions of rooms, and what it and those
-- of clients do that of definitions of worlds.
use Rattle.std.specs.Prelude.{◌≡◌, ℕ, List, [], ◌++◌, map, filter, codes, decimal, Bool, true, false, Option, Result, Ok}
use Rattle.std.specs.List.{list_all}
use Rattle.std.specs.Str.{bytes_eq}
use Rattle.rooms_val.specs.Data.{Data, Pairs}
use Rattle.rooms_val.specs.Maps.{AreRising}
use Rattle.field_ops.specs.RecordOps.{RecordOps}
use Rattle.migrate_seq.specs.Versions.{Versions}
use Rattle.migrate_seq.specs.declared.place.Place.{Place}
use Rattle.sync_msgs.specs.declared.end_reason.EndReason.{EndReason}
use Rattle.room_model.specs.Clips.{Clipping}

-- the migrations that lead from a client's schema to the room's, in their order
abbrev pub Plan : Type 0
Plan = List Place

-- what the schema of a room decides
pub record Schemas : Type 0 where
  -- which ids name records of the document, and which the presence of a session
  pub is_document : List ℕ → Bool
  pub is_presence : List ℕ → Bool
  -- which records are admitted under which ids
  pub admits : List ℕ → Data → Bool
  -- the newest migration of each sequence, as the room tells it
  pub versions : Versions
  -- the plan from a schema that a client tells, or the reason for which it can't connect: ServerTooOld if it has an unknown sequence or
  -- a newer version, ClientTooOld if a migration doesn't go both ways
  pub plan_for : Versions → Result Plan EndReason
  -- a record taken up along a plan to the room's schema, and down from it
  pub raise : Plan → Data → Data
  pub lower : Plan → Data → Data

-- what the schema of a client decides; the fault of an edit is an F
pub record ClientSchema (F : Type 0) : Type 0 where
  -- which records are admitted under which ids
  pub admits : List ℕ → Data → Bool
  -- the diff to which a wanted edit of a document is completed, or why it is refused
  pub complete : Pairs → RecordOps → Result RecordOps F
  -- why a record can't be the client's presence, if it can't
  pub presence_fault : Data → Option F
  -- the newest migration of each sequence, as the client tells it when it connects
  pub versions : Versions

-- what the schemas of a world decide: the room's, and those of clients by their version; and what is copied and pasted
pub record WorldSchemas (F : Type 0) : Type 0 where
  pub room : Schemas
  pub client : ℕ → ClientSchema F
  pub clips : Clipping

-- a session as accepting and messages know it
pub record Member : Type 0 where
  -- its number, from 0
  pub session : ℕ
  -- whether the room looks at no diff of its pushes
  pub readonly : Bool
  -- the plan from its schema
  pub plan : Plan

-- the id under which a room keeps the presence of a session
abbrev pub presence_id : ℕ → List ℕ
presence_id session = codes "instance_presence:" ++ decimal session

-- an id is that of a session's presence
abbrev pub is_own : ℕ → List ℕ → Bool
is_own session id = bytes_eq id (presence_id session)

-- the records of a map whose ids pass a test
abbrev pub records_with : (List ℕ → Bool) → Pairs → Pairs
records_with test m = filter (λ p. test p.0) m

module _ (schemas : Schemas) where
  -- the document among a room's records
  abbrev pub doc : Pairs → Pairs
  doc m = records_with schemas.is_document m

  -- the presence of sessions among a room's records
  abbrev pub pres : Pairs → Pairs
  pres m = records_with schemas.is_presence m

  -- records as they are seen at the other end of a plan: each taken down
  abbrev pub seen_along : Plan → Pairs → Pairs
  seen_along plan m = map (λ p. (p.0, schemas.lower plan p.1)) m

-- what is asked of what the schema of a room decides
pub record AreLawful (schemas : Schemas) : Type 0 where
  -- no id is both the document's and a presence's, and the id of a session's presence is a presence's
  pub apart : (id : List ℕ) → schemas.is_document id ≡ true → schemas.is_presence id ≡ false
  pub presence : (session : ℕ) → schemas.is_presence (presence_id session) ≡ true
  -- along no migration a record stays as it is
  pub raises_nothing : (d : Data) → schemas.raise [] d ≡ d
  pub lowers_nothing : (d : Data) → schemas.lower [] d ≡ d

-- what is asked of what the schemas of a world decide
pub record AreLawfulTogether {F : Type 0} (schemas : WorldSchemas F) : Type 0 where
  pub room : AreLawful schemas.room
  -- a client from whose schema no migration leads to the room's admits what the room does
  pub same : (version : ℕ) → schemas.room.plan_for (schemas.client version).versions ≡ Ok []
      → (id : List ℕ) (d : Data) → (schemas.client version).admits id d ≡ schemas.room.admits id d
  -- a completed diff names ids of the document alone, in rising order
  pub completed : (version : ℕ) (document : Pairs) (wanted diff : RecordOps)
      → (schemas.client version).complete document wanted ≡ Ok diff
      → list_all (λ c. schemas.room.is_document c.0) diff ≡ true
  pub completed_rises : (version : ℕ) (document : Pairs) (wanted diff : RecordOps)
      → (schemas.client version).complete document wanted ≡ Ok diff → AreRising diff
