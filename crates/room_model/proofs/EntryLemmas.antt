-- What holds of the entries of the rooms that calls make: they act, and which ids they name.
use Rattle.std.proofs.Common.{◌≡◌, ℕ, zero, suc, Bool, true, false, ◌||◌, cond, not, List, [], ◌∷◌, ◌++◌, slice_get, slice_set, Option, Some, None, refl, sym, ap, subst, ◌∙◌}
use Rattle.std.specs.List.{list_all}
use Rattle.std.specs.Option.{option_and_then}
use Rattle.std.proofs.lemmas.Slice.Eq.{bytes_eq-Decides}
use Rattle.field_ops.specs.RecordOps.{RecordOpTree, RecordOps}
use Rattle.rooms_val.specs.Maps.{added}
use Rattle.room_model.specs.Schemas.{Schemas, AreLawful, Plan, presence_id, is_own}
use Rattle.room_model.specs.Histories.{History, records_of}
use Rattle.room_model.specs.Accepting.{Push, is_fit, is_taken, accept_ops, presence_part}
use Rattle.room_model.specs.Acting.{AllActing}
use Rattle.room_model.specs.Naming.{IsNamedBy, AllNamed}
use Rattle.room_model.specs.Reachable.{Reachable}
use Rattle.room_model.specs.Rooms.{Session, Room, after_enter}
use Rattle.room_model.proofs.BegunLemmas.{beginning_acts, beginning_named}
use Rattle.room_model.proofs.ActingLemmas.{all-imp, own_itself, all-with_key, presence_apart, all-accepted, fit_documents, push_acts, removal_acts}
use Rattle.rooms_val.proofs.Truths.{or_left, or_right, and_left, and_true}
use Rattle.room_model.proofs.CallLemmas.{member_of, pushed_by, step_keeps, TakenRises, push_rises, everywhere}

-- every entry acts
pub reachable_acts : (schemas : Schemas) (room : Room) → AreLawful schemas → Reachable schemas room → AllActing schemas room.history
reachable_acts schemas room lawful h =
    let P : Room → Type 0 = λ r. AllActing schemas r.history in
    everywhere schemas P (λ r beginning. beginning_acts schemas r beginning)
    (λ o rises. step_keeps P (λ r n s t at on all. all) (λ r n is all. (removal_acts schemas lawful r n, all)) schemas o (λ r readonly all. all)
    (λ r n s sent plan said push some says at is taken all.
    let rising = push_rises said push says (subst TakenRises some rises) in
    (push_acts schemas lawful (member_of n s plan) (records_of r.history) push rising taken, all)))
    room h

-- what is found among sessions is found after one goes on, and after one enters
found_set : (xs : List Session) (n k : ℕ) (s t u : Session) → slice_get xs n ≡ Some s → t.readonly ≡ s.readonly → slice_get xs k ≡ Some u
    → (v : Session) × (slice_get (slice_set xs n t) k ≡ Some v) × (v.readonly ≡ u.readonly)
found_set [] n k s t u at same found = absurd (cc)
found_set (x ∷ xs) zero zero s t u at same found = let it : s ≡ u = cc in (t, refl, same ∙ ap (λ v. v.readonly) it)
found_set (x ∷ xs) zero (suc k) s t u at same found = (u, found, refl)
found_set (x ∷ xs) (suc n) zero s t u at same found = (u, found, refl)
found_set (x ∷ xs) (suc n) (suc k) s t u at same found = found_set xs n k s t u at same found

pub found_added : (xs : List Session) (k : ℕ) (y u : Session) → slice_get xs k ≡ Some u → slice_get (xs ++ y ∷ []) k ≡ Some u
found_added [] k y u found = absurd (cc)
found_added (x ∷ xs) zero y u found = found
found_added (x ∷ xs) (suc k) y u found = found_added xs k y u found

module _ (schemas : Schemas) where
  carried : (old next : List Session) → ((k : ℕ) (u : Session) → slice_get old k ≡ Some u → (v : Session) × (slice_get next k ≡ Some v) × (v.readonly ≡ u.readonly))
      → (history : History) → AllNamed schemas old history → AllNamed schemas next history
  carried old next on [] all = tt
  carried old next on (entry ∷ history) all = (
    λ author is.
        let h = all.0 author is in
        let later = on author.session h.session h.entered in
        record { session = later.0; entered = later.1; names = h.names; readonly = λ ro. h.readonly (sym later.2 ∙ ro) },
    carried old next on history all.1,
  )

  names_mixed : (n : ℕ) (part : RecordOps) → list_all (λ c. schemas.is_document c.0) part ≡ true → list_all (λ c. schemas.is_document c.0 || is_own n c.0) part ≡ true
  names_mixed n part all = all-imp (λ c. schemas.is_document c.0) (λ c. schemas.is_document c.0 || is_own n c.0) (λ c is. or_left _ _ is) part all

  names_added : (n : ℕ) (part : RecordOps) (o : Option RecordOpTree) → list_all (λ c. schemas.is_document c.0) part ≡ true
      → list_all (λ c. schemas.is_document c.0 || is_own n c.0) (added part (presence_id n) o) ≡ true
  names_added n part None all = names_mixed n part all
  names_added n part (Some d) all =
      all-with_key (λ c. schemas.is_document c.0 || is_own n c.0) part (presence_id n) d (names_mixed n part all)
      (or_right _ _ (own_itself n))

  -- the entry of a push names ids of the document and the presence of its session alone
  pub push_names : (room : Room) (n : ℕ) (s : Session) (plan : Plan) (push : Push) → is_taken schemas (member_of n s plan) push ≡ true
      → list_all (λ c. schemas.is_document c.0 || is_own n c.0) (pushed_by schemas room n s plan push).diff ≡ true
  push_names room n s plan push taken =
      let m = records_of room.history in
      let part = accept_ops schemas plan m push.diff in
      let o = option_and_then (presence_part schemas (member_of n s plan) m) push.presence in
      elim s.readonly as (λ b. (b || is_fit schemas plan push.diff) ≡ true → list_all (λ c. schemas.is_document c.0 || is_own n c.0) (added (cond b [] part) (presence_id n) o) ≡ true) [
        | true ↦ λ fit. names_added n [] o refl
        | false ↦ λ fit. names_added n part o (all-accepted schemas plan schemas.is_document m push.diff (fit_documents schemas plan push.diff fit))
      ] (and_left _ _ taken)

  module _ (lawful : AreLawful schemas) where
    none_added : (n : ℕ) (o : Option RecordOpTree) → list_all (λ c. not (schemas.is_document c.0)) (added [] (presence_id n) o) ≡ true
    none_added n None = refl
    none_added n (Some d) = and_true _ _ (ap not (presence_apart schemas lawful n)) refl

    pushed_names : (room : Room) (n : ℕ) (s : Session) (plan : Plan) (push : Push) → slice_get room.sessions n ≡ Some s → is_taken schemas (member_of n s plan) push ≡ true
        → IsNamedBy schemas room.sessions n (pushed_by schemas room n s plan push).diff
    pushed_names room n s plan push at taken =
        let m = records_of room.history in
        let part = accept_ops schemas plan m push.diff in
        let o = option_and_then (presence_part schemas (member_of n s plan) m) push.presence in
        record {
          session = s;
          entered = at;
          names = push_names room n s plan push taken;
          readonly = λ ro. subst (λ b. list_all (λ c. not (schemas.is_document c.0)) (added (cond b [] part) (presence_id n) o) ≡ true) (sym ro) (none_added n o);
        }

    pub reachable_names : (room : Room) → Reachable schemas room → AllNamed schemas room.sessions room.history
    reachable_names room h =
        let P : Room → Type 0 = λ r. AllNamed schemas r.sessions r.history in
        everywhere schemas P (λ r beginning. beginning_named schemas r beginning)
        (λ o rises. step_keeps P (λ r n s t at on all. carried r.sessions (slice_set r.sessions n t) (λ k u found. found_set r.sessions n k s t u at on.same found) r.history all)
        (λ r n is all. (λ author by. absurd (cc), all)) schemas o
        (λ r readonly all. carried r.sessions (after_enter readonly r).sessions (λ k u found. (u, found_added r.sessions k _ u found, refl)) r.history all)
        (λ r n s sent plan said push some says at is taken all. (λ author by. let same : n ≡ author.session = cc in subst (λ k. IsNamedBy schemas r.sessions k (pushed_by schemas r n s plan push).diff) same (pushed_names r n s plan push at taken), all)))
        room h
