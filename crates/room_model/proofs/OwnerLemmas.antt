-- Each presence in a room is that of a session which is in the room and isn't ended: every call keeps it so.
use Rattle.std.proofs.Common.{◌≡◌, ◌⊎◌, inl, inr, ℕ, zero, suc, Bool, true, false, ◌||◌, cond, List, [], ◌∷◌, length, slice_get, slice_set, is_some, is_eq, Option, Some, None, refl, sym, ap, subst, ◌∙◌}
use Rattle.std.specs.List.{list_all}
use Rattle.std.specs.Option.{option_map_or}
use Rattle.std.proofs.lemmas.Slice.Eq.{bytes_eq-Decides}
use Rattle.rooms_val.specs.Data.{Pairs}
use Rattle.rooms_val.specs.Maps.{value_at, ties, set_at}
use Rattle.rooms_val.proofs.MapsLemmas.{order_itself, ties_same, at-set_at}
use Rattle.field_ops.specs.Patched.{raw}
use Rattle.field_ops.specs.RecordOps.{RecordOps}
use Rattle.doc_model.specs.Documents.{fold_raw}
use Rattle.room_model.specs.Schemas.{Schemas, Plan, presence_id, is_own}
use Rattle.room_model.specs.Histories.{records_of}
use Rattle.room_model.specs.Accepting.{Push, is_taken}
use Rattle.room_model.specs.Reachable.{is_over, HasOwner, ArePresencesOwned}
use Rattle.room_model.specs.Rooms.{Phase, new, live, ended, Session, Room, new_room, after_enter, with_session, is_present, removal, close, close_slow, first_slow, without_slow, end_slow, after_close}
use Rattle.room_model.proofs.ActingLemmas.{differ}
use Rattle.rooms_val.proofs.Truths.{and_left, and_right}
use Rattle.room_model.proofs.CallLemmas.{Step, nothing, enters, goes, ends, pushes, member_of, pushed_by}
use Rattle.room_model.proofs.ClosingLemmas.{set_at_place, set_elsewhere, by_number}
use Rattle.room_model.proofs.EntryLemmas.{found_added, push_names}
use Rattle.sync_msgs.specs.declared.client_message.ClientMessage.{ClientMessage}
use Rattle.sync_msgs.specs.declared.end_reason.EndReason.TheVariants.{Slow}

-- a phase that isn't over
still_open : (p q : Phase) → (is_over q ≡ true → is_over p ≡ true) → is_over p ≡ false → is_over q ≡ false
still_open p q over unended = elim (is_over q) as (λ b. is_over q ≡ b → b ≡ false) [
  | true ↦ λ is. absurd (differ (sym (over is) ∙ unended))
  | false ↦ λ is. refl
] refl

-- an owner stays one after a session goes on that isn't over by that
owner_goes : (id : List ℕ) (xs : List Session) (n : ℕ) (s t : Session) → slice_get xs n ≡ Some s → (is_over t.phase ≡ true → is_over s.phase ≡ true)
    → HasOwner id xs → HasOwner id (slice_set xs n t)
owner_goes id xs n s t at over h = by_number (λ b. HasOwner id (slice_set xs n t)) h.number n
    (λ same.
    let some : Some s ≡ Some h.session = sym at ∙ ap (slice_get xs) (sym same) ∙ h.at in
    let it : s ≡ h.session = cc in
    record {
      number = h.number;
      session = t;
      at = ap (slice_get (slice_set xs n t)) same ∙ set_at_place xs n s t at;
      unended = still_open s.phase t.phase over (ap (λ u. is_over u.phase) it ∙ h.unended);
      own = h.own;
    })
    (λ apart. record { number = h.number; session = h.session; at = set_elsewhere xs n h.number t apart ∙ h.at; unended = h.unended; own = h.own })

-- and after another session goes on
owner_apart : (id : List ℕ) (xs : List Session) (n : ℕ) (t : Session) → (id ≡ presence_id n → ⊥) → HasOwner id xs → HasOwner id (slice_set xs n t)
owner_apart id xs n t apart h = record {
  number = h.number;
  session = h.session;
  at = set_elsewhere xs n h.number t (λ same. apart (h.own ∙ ap presence_id same)) ∙ h.at;
  unended = h.unended;
  own = h.own;
}

-- a record is there after a diff that was there before, or whose id is the own presence's, where no other id of presences is named
named_or_there : (schemas : Schemas) (n : ℕ) (id : List ℕ) (diff : RecordOps) (m : Pairs) → schemas.is_document id ≡ false
    → list_all (λ c. schemas.is_document c.0 || is_own n c.0) diff ≡ true → is_some (value_at (fold_raw m diff) id) ≡ true
    → (id ≡ presence_id n) ⊎ (is_some (value_at m id) ≡ true)
named_or_there schemas n id [] m scope names there = inr there
named_or_there schemas n id (c ∷ diff) m scope names there =
    let made = raw c.1 (value_at m c.0) in
    elim (named_or_there schemas n id diff (set_at m c.0 made) scope (and_right _ _ names) there) [
      | inl own ↦ inl own
      | inr later ↦
          elim (ties id c.0) as (λ b. ties id c.0 ≡ b → is_some (cond b made (value_at m id)) ≡ true → (id ≡ presence_id n) ⊎ (is_some (value_at m id) ≡ true)) [
            | true ↦ λ is some.
                let same = ties_same id c.0 is in
                let here : (schemas.is_document id || is_own n id) ≡ true = subst (λ k. (schemas.is_document k || is_own n k) ≡ true) (sym same) (and_left _ _ names) in
                let own : is_own n id ≡ true = sym (ap (λ b. b || is_own n id) scope) ∙ here in
                inl ((bytes_eq-Decides id (presence_id n)).0 own)
            | false ↦ λ is some. inr some
          ] refl (sym (ap is_some (at-set_at m c.0 id made)) ∙ later)
    ]

module _ (schemas : Schemas) where
  abbrev P : Room → Type 0
  P = ArePresencesOwned schemas

  owned_closed : (room : Room) (n : ℕ) (s : Session) (phase : Phase) → P room → P (close n s phase room)
  owned_closed room n s phase h =
      let t : Session = record s { phase = phase } in
      let after : Room = record room { history = removal n ∷ room.history } in
      let m = records_of room.history in
      elim (is_present n room) as (λ b. is_present n room ≡ b → P (with_session n t (cond b after room))) [
        | true ↦ λ is id scope there.
            elim (ties id (presence_id n)) as (λ b. ties id (presence_id n) ≡ b → is_some (cond b None (value_at m id)) ≡ true → HasOwner id (slice_set room.sessions n t)) [
              | true ↦ λ tied none. absurd (differ (sym none))
              | false ↦ λ tied some. owner_apart id room.sessions n t
                  (λ same. differ (sym (ap (λ k. ties k (presence_id n)) same ∙ ap is_eq (order_itself (presence_id n))) ∙ tied)) (h id scope some)
            ] refl (sym (ap is_some (at-set_at m (presence_id n) id None)) ∙ there)
        | false ↦ λ is id scope there. owner_apart id room.sessions n t
            (λ same. differ (sym there ∙ ap (λ k. is_some (value_at m k)) same ∙ is)) (h id scope there)
      ] refl

  owned_slow : (room : Room) (n : ℕ) → P room → P (close_slow room n)
  owned_slow room n h = elim (slice_get room.sessions n) as (λ o. P (option_map_or (λ s. close n s (ended Slow false) room) o room)) [
    | None ↦ h
    | Some s ↦ owned_closed room n s (ended Slow false) h
  ]

  owned_ended : (k : ℕ) (room : Room) → P room → P (without_slow k room)
  owned_ended zero room h = h
  owned_ended (suc k) room h = elim (first_slow room) as (λ o. P (option_map_or (λ n. without_slow k (close_slow room n)) o room)) [
    | None ↦ h
    | Some n ↦ owned_ended k (close_slow room n) (owned_slow room n h)
  ]

  owned_after : (room : Room) (n : ℕ) (s : Session) (phase : Phase) → P room → P (after_close n s phase room)
  owned_after room n s phase h =
      let after = close n s phase room in
      let now = owned_closed room n s phase h in
      elim (is_present n room) as (λ b. P (cond b (end_slow after) after)) [ true ↦ owned_ended (length after.sessions) after now | false ↦ now ]

  owned_entered : (room : Room) (readonly : Bool) → P room → P (after_enter readonly room)
  owned_entered room readonly h id scope there =
      let owner = h id scope there in
      record { number = owner.number; session = owner.session; at = found_added room.sessions owner.number _ owner.session owner.at; unended = owner.unended; own = owner.own }

  owned_pushed : (room : Room) (n : ℕ) (s : Session) (sent : ℕ) (plan : Plan) (push : Push) → slice_get room.sessions n ≡ Some s → s.phase ≡ live sent plan
      → is_taken schemas (member_of n s plan) push ≡ true → P room → P (record room { history = pushed_by schemas room n s plan push ∷ room.history })
  owned_pushed room n s sent plan push at is taken h id scope there =
      elim (named_or_there schemas n id (pushed_by schemas room n s plan push).diff (records_of room.history) scope (push_names schemas room n s plan push taken) there) [
        | inl own ↦ record { number = n; session = s; at = at; unended = ap is_over is; own = own }
        | inr before ↦ h id scope before
      ]

  -- every step keeps it
  pub step_owned : (o : Option (ℕ × ClientMessage)) (room after : Room) → Step schemas o room after → P room → P after
  step_owned o room after (nothing none same) h = subst P (sym same) h
  step_owned o room after (enters readonly none same) h = subst P (sym same) (owned_entered room readonly h)
  step_owned o room after (goes n s t none at on kept same) h = subst P (sym same) (λ id scope there. owner_goes id room.sessions n s t at kept (h id scope there))
  step_owned o room after (ends n s phase none at before over same) h = subst P (sym same) (owned_after room n s phase h)
  step_owned o room after (pushes n s sent plan said push some says at is taken same) h =
      let now : Room = record room { history = pushed_by schemas room n s plan push ∷ room.history } in
      subst P (sym same) (owned_ended (length now.sessions) now (owned_pushed room n s sent plan push at is taken h))
