-- What a session is told of an entry is what it is to be told, by the records after the entry.
use Rattle.std.proofs.Common.{◌≡◌, ℕ, suc, ◌==◌, pos, Bool, true, false, ◌&&◌, not, cond, T, List, [], ◌∷◌, ◌++◌, map, filter, Option, Some, None, refl, sym, ap, subst, ◌∙◌, append_assoc}
use Rattle.std.specs.Ordering.{is_lt}
use Rattle.std.specs.FinMap.Entries.{is_sorted, below_all}
use Rattle.rooms_val.specs.Data.{Data, Pairs}
use Rattle.rooms_val.specs.Maps.{order, AreRising, value_at, with_key}
use Rattle.rooms_val.proofs.MapsLemmas.{first, second, put_last}
use Rattle.rooms_val.proofs.Truths.{and_holds}
use Rattle.field_ops.specs.RecordOps.{RecordOpTree, RecordOps}
use Rattle.room_model.specs.Schemas.{Schemas, Plan, Member, is_own}
use Rattle.room_model.specs.Acting.{document_ops, IsActionOf}
use Rattle.room_model.specs.Messages.{told_op, told_diff, told_action, result_event, patch_event, event_by}
use Rattle.room_model.specs.declared.history.Author.{Author}
use Rattle.sync_msgs.specs.declared.data_event.Action.{Action}
use Rattle.sync_msgs.specs.declared.data_event.Action.TheVariants.{Commit, Discard, Rebase}
use Rattle.sync_msgs.specs.declared.data_event.DataEvent.TheVariants.{Patch, PushResult}
use Rattle.room_messages.specs.declared.told.Part.{Part}
use Rattle.room_messages.specs.declared.told.Part.TheVariants.{Whole, Document}
use Rattle.room_messages.specs.Told.{told_of, is_told, told_part, told_result, told_by}
use Rattle.room_messages.proofs.ListLemmas.{and_true, filter-same, filter-both}

module _ (schemas : Schemas) where
  -- what stands in records under the ids of a diff
  abbrev pub under : Pairs → RecordOps → List (List ℕ × Option Data)
  under m diff = map (λ c. (c.0, value_at m c.0)) diff

  told_of-op : (plan : Plan) (m : Pairs) (id : List ℕ) (c : RecordOpTree) → told_of schemas plan (value_at m id) c ≡ told_op schemas plan m id c
  told_of-op [] m id c = refl
  told_of-op (place ∷ plan) m id c = refl

  module _ (member : Member) where
    part : (some : Part) (m : Pairs) (diff : RecordOps)
        → told_part schemas member some diff (under m diff) ≡ map (λ c. (c.0, told_op schemas member.plan m c.0 c.1)) (filter (λ c. is_told schemas member some c.0) diff)
    part some m [] = refl
    part some m (c ∷ diff) =
        let told : List ℕ × RecordOpTree → List ℕ × RecordOpTree = λ c. (c.0, told_op schemas member.plan m c.0 c.1) in
        let kept = filter (λ c. is_told schemas member some c.0) diff in
        let rest = told_part schemas member some diff (under m diff) in
        elim (is_told schemas member some c.0) as (λ b. cond b ((c.0, told_of schemas member.plan (value_at m c.0) c.1) ∷ rest) rest ≡ map told (cond b (c ∷ kept) kept)) [
          | true ↦ λ i. (c.0, told_of-op member.plan m c.0 c.1 i) ∷ part some m diff i
          | false ↦ part some m diff
        ]

    whole : (m : Pairs) (diff : RecordOps) → told_part schemas member Whole diff (under m diff) ≡ told_diff schemas member m diff
    whole m diff =
        part Whole m diff
        ∙ ap (map (λ c. (c.0, told_op schemas member.plan m c.0 c.1)))
        (filter-same (λ c. is_told schemas member Whole c.0) (λ c. not (is_own member.session c.0)) (λ c. and_true (not (is_own member.session c.0))) diff)

    of_document : (m : Pairs) (diff : RecordOps) → told_part schemas member Document diff (under m diff) ≡ told_diff schemas member m (document_ops schemas diff)
    of_document m diff =
        part Document m diff
        ∙ ap (map (λ c. (c.0, told_op schemas member.plan m c.0 c.1))) (sym (filter-both (λ c. not (is_own member.session c.0)) (λ c. schemas.is_document c.0) diff))

    result : (m : Pairs) (diff : RecordOps) (action : Action) → IsActionOf (document_ops schemas diff) action → told_result schemas member diff (under m diff) action ≡ told_action schemas member m action
    result m diff Commit is = refl
    result m diff Discard is = refl
    result m diff (Rebase accepted) is = ap (λ d. Rebase d) (of_document m diff ∙ ap (told_diff schemas member m) (sym is))

    -- an entry is told by what stood under its ids afterwards
    pub told : (m : Pairs) (clock : ℕ) (diff : RecordOps) (author : Option Author) → ((a : Author) → author ≡ Some a → IsActionOf (document_ops schemas diff) a.action)
        → told_by schemas member diff (under m diff) (pos clock) author ≡ event_by schemas member m clock diff author
    told m clock diff None are = ap (λ d. Patch d (pos clock)) (whole m diff)
    told m clock diff (Some author) are =
        elim (author.session == member.session) as (λ b. cond b (PushResult author.client_clock (pos clock) (told_result schemas member diff (under m diff) author.action)) (Patch (told_part schemas member Whole diff (under m diff)) (pos clock))
        ≡ cond b (result_event schemas member m clock author) (patch_event schemas member m clock diff)) [
          | true ↦ ap (λ action. PushResult author.client_clock (pos clock) action) (result m diff author.action (are author refl))
          | false ↦ ap (λ d. Patch d (pos clock)) (whole m diff)
        ]

    -- the ids of what is told rise as those of the diff
    below-part : (some : Part) (k : List ℕ) (diff : RecordOps) (after : List (List ℕ × Option Data)) → T (below_all order k diff) → T (below_all order k (told_part schemas member some diff after))
    below-part some k [] after below = tt
    below-part some k (c ∷ diff) [] below = tt
    below-part some k (c ∷ diff) (r ∷ after) below =
        let rest = told_part schemas member some diff after in
        let ih = below-part some k diff after (second _ _ below) in
        elim (is_told schemas member some c.0) as (λ b. T (below_all order k (cond b ((c.0, told_of schemas member.plan r.1 c.1) ∷ rest) rest))) [
          | true ↦ and_holds (is_lt (order k c.0)) (below_all order k rest) (first _ _ below) ih
          | false ↦ ih
        ]

    pub rising-part : (some : Part) (diff : RecordOps) (after : List (List ℕ × Option Data)) → AreRising diff → AreRising (told_part schemas member some diff after)
    rising-part some [] after rising = tt
    rising-part some (c ∷ diff) [] rising = tt
    rising-part some (c ∷ diff) (r ∷ after) rising =
        let rest = told_part schemas member some diff after in
        let ih = rising-part some diff after (second _ _ rising) in
        elim (is_told schemas member some c.0) as (λ b. AreRising (cond b ((c.0, told_of schemas member.plan r.1 c.1) ∷ rest) rest)) [
          | true ↦ and_holds (below_all order c.0 rest) (is_sorted order rest) (below-part some c.0 diff after (first _ _ rising)) ih
          | false ↦ ih
        ]

    -- what is told so far and what is still to be told come to the whole, one operation further
    module _ (some : Part) (target done : RecordOps) (c : List ℕ × RecordOpTree) (diff : RecordOps) (r : List ℕ × Option Data) (after : List (List ℕ × Option Data))
        (rising : AreRising target) (is : done ++ told_part schemas member some (c ∷ diff) (r ∷ after) ≡ target) where
      pub told_further : is_told schemas member some c.0 ≡ true → with_key done c.0 (told_of schemas member.plan r.1 c.1) ++ told_part schemas member some diff after ≡ target
      told_further it =
          let v = told_of schemas member.plan r.1 c.1 in
          let rest = told_part schemas member some diff after in
          let so : done ++ (c.0, v) ∷ rest ≡ target = ap (λ b. done ++ cond b ((c.0, v) ∷ rest) rest) (sym it) ∙ is in
          ap (λ d. d ++ rest) (put_last done c.0 v rest (subst AreRising (sym so) rising)) ∙ append_assoc done ((c.0, v) ∷ []) rest ∙ so

      pub not_told : is_told schemas member some c.0 ≡ false → done ++ told_part schemas member some diff after ≡ target
      not_told not_it =
          let v = told_of schemas member.plan r.1 c.1 in
          let rest = told_part schemas member some diff after in
          ap (λ b. done ++ cond b ((c.0, v) ∷ rest) rest) (sym not_it) ∙ is
