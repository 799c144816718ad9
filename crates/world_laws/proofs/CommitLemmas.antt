-- What an entry answers of a push.
use Rattle.std.proofs.Common.{◌≡◌, inl, inr, ℕ, pos, true, false, ◌||◌, cond, [], Option, Some, None, refl, sym, ap, subst, ◌∙◌}
use Rattle.std.specs.Prelude.{unwrap_or, option_and_then}
use Rattle.std.specs.List.{list_all}
use Rattle.std.proofs.lemmas.Option.{same_Some}
use Rattle.field_ops.specs.RecordOps.{RecordOpTree, RecordOps}
use Rattle.rooms_val.specs.Maps.{added}
use Rattle.room_model.specs.Schemas.{Schemas, AreLawful, Plan, presence_id}
use Rattle.room_model.specs.Histories.{records_of}
use Rattle.room_model.specs.Accepting.{Push, is_fit, is_taken, accept_ops, document_part, presence_part, action_of}
use Rattle.room_model.specs.Acting.{document_ops}
use Rattle.room_model.specs.Closing as closing
use Rattle.room_model.specs.Rooms.{Session, Room}
use Rattle.room_model.specs.Replicas.{Work, edit, presence, diff_in, push_of}
use Rattle.room_model.proofs.AcceptLemmas.{is_commit}
use Rattle.room_model.proofs.ActingLemmas.{filter_all, filter-with_key, presence_apart, fit_documents}
use Rattle.rooms_val.proofs.Truths.{and_left}
use Rattle.room_model.proofs.CallLemmas.{member_of, pushed_by}
use Rattle.sync_msgs.specs.declared.client_message.ClientMessage.{ClientMessage}
use Rattle.sync_msgs.specs.declared.data_event.Action.TheVariants.{Commit}
use Rattle.world_laws.specs.Pending.{IsAnswer}

-- what the push of a work says
pushed_says : (n : ℕ) (work : Work) (push : Push) → closing.push_of (push_of n work) ≡ Some push → (push.client_clock ≡ pos n) × (push.diff ≡ unwrap_or (diff_in work) [])
pushed_says n (edit diff) push is = (sym (ap (λ (p : Push). p.client_clock) (same_Some _ _ is)), sym (ap (λ (p : Push). p.diff) (same_Some _ _ is)))
pushed_says n (presence d) push is = (sym (ap (λ (p : Push). p.client_clock) (same_Some _ _ is)), sym (ap (λ (p : Push). p.diff) (same_Some _ _ is)))

module _ (schemas : Schemas) (lawful : AreLawful schemas) where
  document_added : (n : ℕ) (part : RecordOps) (o : Option RecordOpTree) → list_all (λ c. schemas.is_document c.0) part ≡ true → document_ops schemas (added part (presence_id n) o) ≡ part
  document_added n part None all = filter_all schemas.is_document part all
  document_added n part (Some d) all = filter-with_key schemas.is_document part (presence_id n) d all (presence_apart schemas lawful n)

  -- where the action is a commit, all of the diff was accepted
  pub commit_part : (room : Room) (k : ℕ) (s : Session) (plan : Plan) (push : Push) → is_taken schemas (member_of k s plan) push ≡ true
      → action_of plan push.diff (document_part schemas (member_of k s plan) (records_of room.history) push.diff) ≡ Commit
      → document_ops schemas (pushed_by schemas room k s plan push).diff ≡ push.diff
  commit_part room k s plan push taken is =
      let member = member_of k s plan in
      let m = records_of room.history in
      let part = document_part schemas member m push.diff in
      let o = option_and_then (presence_part schemas member m) push.presence in
      let whole : part ≡ push.diff → list_all (λ c. schemas.is_document c.0) push.diff ≡ true → document_ops schemas (added part (presence_id k) o) ≡ push.diff =
      λ same all. document_added k part o (subst (λ d. list_all (λ c. schemas.is_document c.0) d ≡ true) (sym same) all) ∙ same in
      elim (is_commit schemas member m push.diff is) [
        | inl none ↦
            let empty : part ≡ [] = ap (document_part schemas member m) none ∙ elim s.readonly as (λ b. cond b [] (accept_ops schemas plan m []) ≡ []) [ true ↦ refl | false ↦ refl ] in
            whole (empty ∙ sym none) (ap (list_all (λ c. schemas.is_document c.0)) none)
        | inr all ↦
            let fit : is_fit schemas plan push.diff ≡ true = sym (ap (λ b. b || is_fit schemas plan push.diff) all.0) ∙ and_left _ _ taken in
            whole (ap (λ b. cond b [] (accept_ops schemas plan m push.diff)) all.0 ∙ all.2) (fit_documents schemas plan push.diff fit)
      ]

  -- the entry of a push that is taken answers it
  pub answers_push : (room : Room) (k : ℕ) (s : Session) (plan : Plan) (push : Push) (said : ClientMessage) → is_taken schemas (member_of k s plan) push ≡ true
      → closing.push_of said ≡ Some push → (n : ℕ) (work : Work) → said ≡ push_of n work → IsAnswer schemas n work (pushed_by schemas room k s plan push)
  answers_push room k s plan push said taken says n work is =
      let known = pushed_says n work push (sym (ap closing.push_of is) ∙ says) in
      record { author = _; by = refl; numbered = known.0; commits = λ commit. commit_part room k s plan push taken commit ∙ known.1 }
