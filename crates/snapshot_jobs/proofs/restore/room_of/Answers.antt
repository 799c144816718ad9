use Rattle.std.proofs.Common.{◌≡◌, pos, None, refl, sym, ap, subst, ◌∙◌}
use Rattle.peer_schemas.specs.Clients.{schemas_of}
use Rattle.room_model.specs.Reachable.{IsBeginning, loaded}
use Rattle.room_model.specs.Saves.{begun_room, load_fault}
use Rattle.room_model.specs.Worlds.{world_over}
use Rattle.room_model.specs.declared.limits.TheConstants.{LAST_CLOCK}
use Rattle.room_schemas.specs.Decided.{decided}
use Rattle.schema_core.specs.SchemaOf.{schema_tree}
use Rattle.sync_room.specs.Standing.{tree_of}
use Rattle.tl_tables.specs.Tables.{IsSchemaAt}
use Rattle.world_views.specs.Standing.{Stands}
use Rattle.world_views.specs.Views.{nobody_viewing}
use Rattle.snapshot_jobs.proofs.restore.room_of.Goals as goal

pub returns-in-Ok : goal.returns-in-Ok
returns-in-Ok g c =
    let saved = c.args.saved in
    let tree = schema_tree c.args.schema in
    let state = begun_room LAST_CLOCK saved in
    let fits : load_fault (decided tree) (pos LAST_CLOCK) saved ≡ None = c.in-Ok.ensures.fits in
    let same = c.in-Ok.ensures.schema in (
      fits,
      λ version known at.
          let over = c.over.ensures.stands version state known (subst (IsSchemaAt version) (sym same) at) (c.in-Ok.ensures.stands LAST_CLOCK refl)
          (subst (λ t. IsBeginning (decided t) state) (sym same) (loaded LAST_CLOCK saved fits)) in
          subst (λ t. Stands (schemas_of t) (nobody_viewing (world_over state)) c.over-in-Ok.result) same (c.over-in-Ok.ensures (schemas_of (tree_of c.in-Ok.room)) state over.1 c.over.ensures.stores),
    )
