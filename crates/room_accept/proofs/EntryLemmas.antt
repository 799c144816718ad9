-- The entry of a push, put together from what is accepted of the document and of the presence.
use Rattle.std.proofs.Common.{◌≡◌, ℕ, true, false, ◌&&◌, ◌||◌, cond, List, [], ◌∷◌, Option, Some, None, option_map, refl, sym, ap, ◌∙◌}
use Rattle.std.specs.Option.{option_map_or, option_and_then}
use Rattle.rooms_val.specs.Data.{Pairs}
use Rattle.rooms_val.specs.Maps.{value_at, set_at, added}
use Rattle.field_ops.specs.Patched.{raw}
use Rattle.field_ops.specs.RecordOps.{RecordOpTree, put, patch, remove, RecordOps}
use Rattle.schema_core.specs.Admits.{is_document}
use Rattle.schema_core.specs.Tree.{SchemaTree}
use Rattle.sync_msgs.specs.declared.data_event.Action.{Action}
use Rattle.room_model.specs.Accepting.{Push, is_fit, is_put_admitted, own_presence, is_taken, tried_op, is_accepted, accept_ops, document_part, presence_part, action_of, entry_of}
use Rattle.room_model.specs.Schemas.{Plan, Member, presence_id}
use Rattle.room_model.specs.declared.history.Entry.{Entry}
use Rattle.room_model.proofs.ActingLemmas.{all-accepted}
use Rattle.room_schemas.specs.Decided.{decided}
use Rattle.room_accept.specs.Parts.{are_documents, own_part}

module _ (s : SchemaTree) (member : Member) where
  -- an operation that puts fits under the presence's id as its own does
  own_fits : (o : Option RecordOpTree) → option_map_or (λ c. is_put_admitted (decided s) (presence_id member.session) c) (option_map (own_presence (decided s) member) o) true
      ≡ option_map_or (λ c. is_put_admitted (decided s) (presence_id member.session) (own_presence (decided s) member c)) o true
  own_fits None = refl
  own_fits (Some c) = refl

  -- whether a push is taken, by what happens to the presence under its own id
  pub taken_is : (push : Push) (id : List ℕ) (own : Option RecordOpTree) → id ≡ presence_id member.session → own ≡ option_map (own_presence (decided s) member) push.presence
      → (member.readonly || is_fit (decided s) member.plan push.diff) && option_map_or (λ c. is_put_admitted (decided s) id c) own true ≡ is_taken (decided s) member push
  taken_is push id own id-is own-is =
      (λ i. (member.readonly || is_fit (decided s) member.plan push.diff) && option_map_or (λ c. is_put_admitted (decided s) (id-is i) c) (own-is i) true)
      ∙ ap (λ b. (member.readonly || is_fit (decided s) member.plan push.diff) && b) (own_fits push.presence)

  -- the ids that are accepted are the document's
  pub part_documents : (m : Pairs) (diff : RecordOps) → (member.readonly ≡ false → are_documents s diff ≡ true) → are_documents s (document_part (decided s) member m diff) ≡ true
  part_documents m diff documents = elim member.readonly as (λ b. member.readonly ≡ b → are_documents s (cond b [] (accept_ops (decided s) member.plan m diff)) ≡ true) [
    | true ↦ λ is. refl
    | false ↦ λ is. all-accepted (decided s) member.plan (is_document s) m diff (documents is)
  ] refl

  module _ (m : Pairs) where
    own_is : (c : RecordOpTree) → own_part s m (presence_id member.session) (own_presence (decided s) member c) ≡ presence_part (decided s) member m c
    own_is (put d) = refl
    own_is (patch p) = refl
    own_is remove = refl

    maybe_own_is : (o : Option RecordOpTree) → option_and_then (own_part s m (presence_id member.session)) (option_map (own_presence (decided s) member) o) ≡ option_and_then (presence_part (decided s) member m) o
    maybe_own_is None = refl
    maybe_own_is (Some c) = own_is c

    -- the entry of a push
    pub entry_is : (push : Push) (id : List ℕ) (own : Option RecordOpTree) (part diff : RecordOps) (action : Action) → id ≡ presence_id member.session → own ≡ option_map (own_presence (decided s) member) push.presence
        → part ≡ document_part (decided s) member m push.diff → diff ≡ added part id (option_and_then (own_part s m id) own) → action ≡ action_of member.plan push.diff part
        → ◌≡◌ {A = Entry} (record { diff = diff; author = Some (record { session = member.session; client_clock = push.client_clock; action = action }) }) (entry_of (decided s) member m push)
    entry_is push id own part diff action id-is own-is part-is diff-is action-is =
        let all = diff-is ∙ (λ i. added (part-is i) (id-is i) (option_and_then (own_part s m (id-is i)) (own-is i))) ∙ ap (added (document_part (decided s) member m push.diff) (presence_id member.session)) (maybe_own_is push.presence) in
        let acts = action-is ∙ ap (action_of member.plan push.diff) part-is in
        λ i. record { diff = all i; author = Some (record { session = member.session; client_clock = push.client_clock; action = acts i }) }
