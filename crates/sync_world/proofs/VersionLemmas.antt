-- The schemas of a version are one.
use Rattle.std.proofs.Common.{◌≡◌, ℕ, sym, subst, ◌∙◌}
use Rattle.room_model.specs.Schemas.{WorldSchemas}
use Rattle.side_effects.specs.declared.fault.EditFault.{EditFault}
use Rattle.schema_core.specs.Tree.{SchemaTree}
use Rattle.tl_tables.specs.Tables.{IsSchemaAt}
use Rattle.peer_schemas.proofs.RoomLemmas.{same_schemas}
use Rattle.sync_world.specs.Standing.{IsAtVersion}

pub one_schemas : (version : ℕ) (a b : WorldSchemas EditFault) → IsAtVersion version a → IsAtVersion version b → a ≡ b
one_schemas version a b one other =
    let at : IsSchemaAt version one.0.room = subst (λ v. IsSchemaAt v one.0.room) one.1 one.0.at in
    let also : IsSchemaAt version other.0.room = subst (λ v. IsSchemaAt v other.0.room) other.1 other.0.at in
    one.0.are ∙ same_schemas version one.0.room other.0.room at also ∙ sym other.0.are
