use Rattle.std.proofs.Common.{◌∷◌, cond, ap, ◌∙◌}
use Rattle.std.proofs.Math.Logic.{∥∥₁_map}
use Rattle.schema_core.specs.SchemaOf.{schema_tree}
use Rattle.room_model.specs.Rooms.{removal}
use Rattle.room_model.specs.Schemas.{presence_id}
use Rattle.room_schemas.specs.Decided.{is_presence}
use Rattle.room_history.proofs.history.RoomHistory.remove_presence.Goals as goal

pub invariant_of-self : goal.invariant_of-self
invariant_of-self c =
    let old = c.args.self.now in
    let entry = removal c.args.removal.session in
    record {
      sound = ∥∥₁_map old.sound (λ k. (k.0, (cond c.remove_presence.result (entry ∷ k.1.0) k.1.0, c.remove_presence.ensures.keeps k.0 k.1.0 k.1.1)));
      presence = λ session. ap (λ s. is_presence (schema_tree s) (presence_id session)) c.remove_presence.ensures.schema ∙ old.presence session;
    }
