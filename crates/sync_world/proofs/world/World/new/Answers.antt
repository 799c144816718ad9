use Rattle.std.proofs.Common.{refl, sym, subst}
use Rattle.room_model.specs.Reachable.{anew}
use Rattle.room_model.specs.Rooms.{new_room}
use Rattle.room_model.specs.declared.limits.TheConstants.{LAST_CLOCK}
use Rattle.schema_core.specs.SchemaOf.{schema_tree}
use Rattle.table_schemas.proofs.PresenceLemmas.{presences}
use Rattle.tl_tables.specs.Tables.{IsSchemaAt}
use Rattle.peer_schemas.specs.Clients.{schemas_of}
use Rattle.sync_room.specs.Standing as room_of
use Rattle.sync_world.proofs.world.World.new.Goals as goal

pub new-requires-clause-presence : goal.new-requires-clause-presence
new-requires-clause-presence c = presences c.args.version (schema_tree c.in-Ok.schema) c.in-Ok.ensures.known

pub returns-in_ok-new-in-Ok-clause-stands : goal.returns-in_ok-new-in-Ok-clause-stands
returns-in_ok-new-in-Ok-clause-stands c =
    let room = c.in_ok-new-in-Ok.field-0 in
    let at = subst (λ s. IsSchemaAt c.args.version s) (sym c.in_ok-new-in-Ok.ensures.schema) c.in-Ok.ensures.known in
    let over = c.over.ensures.stands c.args.version (new_room LAST_CLOCK) c.requires at (c.in_ok-new-in-Ok.ensures.stands LAST_CLOCK refl) (anew LAST_CLOCK) in
    (schemas_of (room_of.tree_of room), over.0, over.1)
