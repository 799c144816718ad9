use Rattle.std.proofs.Common.{◌≡◌, List, ℕ, refl, sym, ap, subst, ◌∙◌}
use Rattle.migrate_seq.specs.Plans.{newest_versions}
use Rattle.schema_core.specs.Tree.{SchemaTree}
use Rattle.room_history.specs.Saving.{IsSavedOf}
use Rattle.room_model.specs.Schemas.{Schemas}
use Rattle.room_schemas.specs.Decided.{decided}
use Rattle.room_snapshot.specs.Lines.{line_val}
use Rattle.room_snapshot.specs.Saved.{saved_tree}
use Rattle.rooms_val.specs.Json.{text_of}
use Rattle.replay_job.specs.Texts.{written_line}
use Rattle.sync_room.specs.Standing.{tree_of}
use Rattle.sync_world.specs.Standing as world_of
use Rattle.snapshot_jobs.specs.Saving.{IsRoomLine}
use Rattle.snapshot_jobs.proofs.save.room_line.Goals as goal

pub returns : goal.returns
returns g c = λ schemas viewed stands.
    let room = c.room-room.result.now in
    let saved = c.in_ok-saved.saved in
    let world = subst (λ w. world_of.Stands schemas viewed.world w) (sym c.world.ensures) stands.world in
    let of_room = c.room-room.ensures.stands schemas viewed.world world in
    let by : schemas.room ≡ decided (tree_of room) = ap (λ s. s.room) (c.room-room.ensures.decided schemas viewed.world world) in
    let held_is : c.in_ok-held.held ≡ schemas.room.versions =
    c.in_ok-held.ensures ∙ ap newest_versions (c.sequences.ensures ∙ ap (λ (s : SchemaTree). s.sequences) c.schema.ensures) ∙ sym (ap (λ (s : Schemas). s.versions) by) in
    record {
      saved = saved;
      of_room = subst (λ (s : Schemas). IsSavedOf s.is_document viewed.world.room.first viewed.world.room.history saved) (sym by) (c.in_ok-saved.ensures viewed.world.room of_room);
      text = c.in_ok-push.ensures.items ∙ ap written_line (c.in_ok-text.ensures.text ∙ ap (λ v. text_of (line_val (saved_tree saved) v)) held_is);
    }
