-- A world with which events begin.
use Rattle.std.proofs.Common.{◌≡◌, ℕ, [], refl, sym, subst}
use Rattle.room_model.specs.Rooms.{Room}
use Rattle.room_model.specs.Reachable.{IsBeginning, begins as from_beginning}
use Rattle.room_model.specs.Worlds.{world_over}
use Rattle.room_model.proofs.BegunLemmas.{nobody_there}
use Rattle.tl_tables.specs.Tables.{IsVersion, IsSchemaAt}
use Rattle.peer_schemas.specs.Clients.{AreOfTables, schemas_of}
use Rattle.sync_room.specs.Standing as room_of
use Rattle.world_laws.specs.Reachable.{begun}
use Rattle.world_laws.specs.Queues.{AreQueues}
use Rattle.world_laws.proofs.QueueLemmas.{queues_begin}
use Rattle.world_queues.specs.Queues.{to_room, to_client}
use Rattle.sync_world.specs.Keeping.{AreKept}
use Rattle.sync_world.specs.Standing.{IsClient, Keeps, IsAtVersion}
use Rattle.sync_world.specs.declared.live.Live.{Live}

module _ (version : ℕ) (known : IsVersion version) (live : Live) (at : IsSchemaAt version (room_of.tree_of live.room)) where
  -- the schemas of the tables where the room has the schema of a version
  abbrev tables_are : AreOfTables (schemas_of (room_of.tree_of live.room))
  tables_are = record { version = version; known = known; room = room_of.tree_of live.room; at = at; are = refl }

  pub is_at_version : IsAtVersion version (schemas_of (room_of.tree_of live.room))
  is_at_version = (tables_are, refl)

  -- the parts with which a world begins
  pub begins : (state : Room) → IsBeginning (schemas_of (room_of.tree_of live.room)).room state → room_of.Stands state live.room → live.clients.items ≡ [] → to_room live.queues ≡ [] → to_client live.queues ≡ []
      → Keeps (schemas_of (room_of.tree_of live.room)) (world_over state) live
  begins state beginning room clients sent given =
      let schemas = schemas_of (room_of.tree_of live.room) in
      record {
        reachable = begun state (from_beginning state beginning) (nobody_there schemas.room state beginning);
        fits = record {
          tables = tables_are;
          decided = refl;
          room = room;
          clients =
              subst (λ ks. AreKept (IsClient schemas state.history) [] ks) (sym clients) (record { long = refl; each = λ n c one at there. absurd (cc) });
          sent = sent;
        };
        given = subst (λ q. AreQueues schemas (world_over state) q) (sym given) (queues_begin schemas state);
      }
