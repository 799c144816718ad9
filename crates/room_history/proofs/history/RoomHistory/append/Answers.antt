use Rattle.std.proofs.Common.{◌∷◌, Result, Ok, Err, OnOk, OnErr, ℕ, ap, ◌∙◌}
use Rattle.std.proofs.Math.Logic.{∥∥₁_map}
use Rattle.schema_core.specs.SchemaOf.{schema_tree}
use Rattle.room_model.specs.Histories.{History}
use Rattle.room_model.specs.Schemas.{presence_id}
use Rattle.room_model.specs.declared.history.Entry.{Entry}
use Rattle.room_schemas.specs.Decided.{is_presence}
use Rattle.room_history.specs.Keeps.{Keeps, KeepsSome}
use Rattle.room_history.specs.declared.kept.Kept.{Kept}
use Rattle.room_history.proofs.history.RoomHistory.append.Goals as goal

-- it keeps a history afterwards, whatever the call returns
still_sound : {T E : Type 0} (r : Result T E) (old new : Kept) (entry : Entry) → ∥ KeepsSome old ∥₁ → OnOk r ((first : ℕ) (history : History) → Keeps first history old → Keeps first (entry ∷ history) new)
    → OnErr r ((first : ℕ) (history : History) → Keeps first history old → Keeps first history new) → ∥ KeepsSome new ∥₁
still_sound (Ok x) old new entry some ok err = ∥∥₁_map some (λ k. (k.0, (entry ∷ k.1.0, ok k.0 k.1.0 k.1.1)))
still_sound (Err e) old new entry some ok err = ∥∥₁_map some (λ k. (k.0, (k.1.0, err k.0 k.1.0 k.1.1)))

pub invariant_of-self : goal.invariant_of-self
invariant_of-self g c =
    let old = c.args.self.now in
    record {
      sound = still_sound c.append.result old.kept c.append.new.self c.args.accepted.entry old.sound c.append.ensures.ok c.append.ensures.err;
      presence = λ session. ap (λ s. is_presence (schema_tree s) (presence_id session)) c.append.ensures.schema ∙ old.presence session;
    }
