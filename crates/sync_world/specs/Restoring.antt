-- When an event brings back what a client showed at a mark.
use Rattle.std.specs.Prelude.{◌≡◌, ℕ, Bool, List, ◌∷◌, ◌++◌, map, slice_get, Some, Ok}
use Rattle.rooms_val.specs.Data.{Pairs}
use Rattle.field_ops.specs.RecordOps.{RecordOps}
use Rattle.doc_model.specs.Marks.{Item, mark, inverse, undo_diff, bail_diff}
use Rattle.doc_model.specs.Restoring.{AreBackAdmitted}
use Rattle.room_model.specs.Schemas.{WorldSchemas}
use Rattle.room_model.specs.Replicas.{Client, schema_of}
use Rattle.room_model.specs.Worlds as model
use Rattle.room_model.specs.Worlds.{Stepped, shown_in, after_event}
use Rattle.room_model.specs.declared.event.Event.{Event}
use Rattle.room_model.specs.declared.event.Event.TheVariants as event
use Rattle.side_effects.specs.declared.fault.EditFault.{EditFault}
use Rattle.world_laws.specs.Restoring.{Spares}
use Rattle.sync_world.specs.Standing.{Stands}
use Rattle.sync_world.specs.declared.world.World.{World}

-- the worlds for which the code stood, one after the other, since a client that shows a document made a mark, as long as each event spares it
pub data IsSinceMark (schemas : WorldSchemas EditFault) (number : ℕ) (name : List ℕ) (before : Pairs) : model.World → Type 0 where
  marked : (trace : Bool) (world : model.World) (client : Client) (made : Stepped) (code after : World)
      → Stands schemas world code → slice_get world.clients number ≡ Some client → shown_in schemas world client ≡ before
      → after_event schemas trace world (event.Mark number name) ≡ Ok made → Stands schemas made.world after
      → IsSinceMark schemas number name before made.world
  went_on : (trace : Bool) (world : model.World) (e : Event) (made : Stepped) (after : World)
      → IsSinceMark schemas number name before world → Spares world number name e → after_event schemas trace world e ≡ Ok made
      → Stands schemas made.world after → IsSinceMark schemas number name before made.world

-- a client bails to a mark, by a diff whose patches are to bring back admitted records
pub record Bails (schemas : WorldSchemas EditFault) (world : model.World) (number : ℕ) (name : List ℕ) (before : Pairs) : Type 0 where
  pub client : Client
  pub there : slice_get world.clients number ≡ Some client
  pub diff : RecordOps
  pub bails : bail_diff name client.marks ≡ Some diff
  pub admitted : AreBackAdmitted (schema_of schemas client).admits diff before

-- the same of an undo, where some inverse and no mark stands after that mark
pub record Undoes (schemas : WorldSchemas EditFault) (world : model.World) (number : ℕ) (name : List ℕ) (before : Pairs) : Type 0 where
  pub client : Client
  pub there : slice_get world.clients number ≡ Some client
  pub earlier : List Item
  pub first : RecordOps
  pub more : List RecordOps
  pub last : client.marks.history ≡ earlier ++ mark name ∷ map inverse (first ∷ more)
  pub diff : RecordOps
  pub undoes : undo_diff client.marks ≡ Some diff
  pub admitted : AreBackAdmitted (schema_of schemas client).admits diff before

-- an event goes back to a client's mark of a name
abbrev pub GoesBack : WorldSchemas EditFault → model.World → ℕ → List ℕ → Pairs → Event → Type 0
GoesBack schemas world number name before (event.Bail client other) = (client ≡ number) × (other ≡ name) × Bails schemas world number name before
GoesBack schemas world number name before (event.Undo client) = (client ≡ number) × Undoes schemas world number name before
GoesBack schemas world number name before other = ⊥

-- a client shows a document, in a world for which the code's stands
pub record Shows (schemas : WorldSchemas EditFault) (number : ℕ) (document : Pairs) (code : World) : Type 0 where
  pub world : model.World
  pub stands : Stands schemas world code
  pub shows : (client : Client) → slice_get world.clients number ≡ Some client → shown_in schemas world client ≡ document
