-- A newer inverse that is joined to an older one, id by id.
use Rattle.std.proofs.Common.{◌≡◌, ℕ, List, [], ◌∷◌, ◌++◌, false, cond, is_eq, Option, Some, None, option_map, Result, Ok, Err, IfOk, OnErr, refl, sym, ap, subst, ◌∙◌}
use Rattle.std.specs.Prelude.{unwrap_or}
use Rattle.std.specs.Option.{ForSome, option_to_list}
use Rattle.std.proofs.Common.{Bor}
use Rattle.rooms_val.specs.Maps.{value_at, AreRising, with_key}
use Rattle.rooms_val.specs.declared.memory.OutOfMemory.{OutOfMemory}
use Rattle.rooms_val.proofs.MapsLemmas.{by_tie, order_itself, at-with_key, rising-with_key, rising_rest, none_later, same_pairs, each-with_key}
use Rattle.field_ops.specs.RecordOps.{RecordOpTree, RecordOps, has_append}
use Rattle.field_ops.specs.Compose.{in_turn}
use Rattle.field_ops.specs.ViewRecordOps.{change_of}
use Rattle.field_ops.specs.declared.record_op.RecordOp.{RecordOp}
use Rattle.doc_model.specs.Merging.{both_in_turn, diff_after, merge}
use Rattle.doc_model.specs.Marks.{merge_some}
use Rattle.doc_model.proofs.PlainLemmas.{each_at}
use Rattle.undo_marks.specs.Inverses.{diff_has_append, IsInverse, AreInverses}
use Rattle.undo_marks.proofs.TurnLemmas.{both_itself}
use Rattle.undo_marks.proofs.MergeLemmas.{each_plain, plain_each, plain_if, sound_if, plain_turn, merge_one}
use Rattle.doc_model.proofs.MergeLemmas.{at-diff_after, rising-diff_after}

-- a newer inverse is joined to an older one, which is now so far, but for a rest of the newer one
pub record Joining (rest newer older now : RecordOps) : Type 0 where
  pub rising : AreRising rest
  pub rises : AreRising now
  pub plain : diff_has_append now ≡ false
  pub left : (q : List ℕ) (c : RecordOpTree) → value_at rest q ≡ Some c → value_at newer q ≡ Some c
  pub done : (q : List ℕ) → both_in_turn (value_at rest q) (value_at now q) ≡ both_in_turn (value_at newer q) (value_at older q)

pub joining_first : (newer older : RecordOps) → AreRising newer → AreRising older → diff_has_append older ≡ false → Joining newer newer older older
joining_first newer older rising rises plain = record { rising = rising; rises = rises; plain = plain; left = λ q c is. is; done = λ q. refl }

module _ (e : List ℕ × RecordOpTree) (rest newer older now : RecordOps) (h : Joining (e ∷ rest) newer older now) where
  there : value_at (e ∷ rest) e.0 ≡ Some e.1
  there = ap (λ o. cond (is_eq o) (Some e.1) (value_at rest e.0)) (order_itself e.0)

  -- the operation that is next has no append
  pub plain_next : diff_has_append newer ≡ false → has_append e.1 ≡ false
  plain_next plain = each_at (λ c. has_append c ≡ false) newer e.0 e.1 (each_plain newer plain) (h.left e.0 e.1 there)

  next_done : (c : RecordOpTree) → Some c ≡ both_in_turn (Some e.1) (value_at now e.0) → (q : List ℕ)
      → both_in_turn (value_at rest q) (value_at (with_key now e.0 c) q) ≡ both_in_turn (value_at (e ∷ rest) q) (value_at now q)
  next_done c made q =
      ap (λ o. both_in_turn (value_at rest q) o) (at-with_key now e.0 q c)
      ∙ by_tie (λ t. both_in_turn (value_at rest q) (cond t (Some c) (value_at now q)) ≡ both_in_turn (cond t (Some e.1) (value_at rest q)) (value_at now q)) q e.0
      (λ same. ap (λ o. both_in_turn o (Some c)) (ap (value_at rest) same ∙ none_later e rest h.rising) ∙ made ∙ ap (λ id. both_in_turn (Some e.1) (value_at now id)) (sym same)) refl

  next_left : (q : List ℕ) (c : RecordOpTree) → value_at rest q ≡ Some c → value_at (e ∷ rest) q ≡ Some c
  next_left q c is = by_tie (λ t. cond t (Some e.1) (value_at rest q) ≡ Some c) q e.0
      (λ same. absurd (let no : None ≡ Some c = sym (none_later e rest h.rising) ∙ ap (value_at rest) (sym same) ∙ is in cc)) is

  pub joining_next : (c : RecordOpTree) (after : RecordOps) → Some c ≡ both_in_turn (Some e.1) (value_at now e.0) → has_append c ≡ false → after ≡ with_key now e.0 c → Joining rest newer older after
  joining_next c after made plain is = subst (λ d. Joining rest newer older d) (sym is) (record {
    rising = rising_rest e rest h.rising;
    rises = rising-with_key now e.0 c h.rises;
    plain = plain_each (with_key now e.0 c) (each-with_key (λ c. has_append c ≡ false) now e.0 c (each_plain now h.plain) plain);
    left = λ q d at. h.left q d (next_left q d at);
    done = λ q. next_done c made q ∙ h.done q;
  })

-- where nothing is left, both are one
pub joined_all : (newer older now : RecordOps) → AreRising newer → Joining [] newer older now → now ≡ diff_after newer older
joined_all newer older now rising h = same_pairs _ _ h.rises (rising-diff_after newer older rising) (λ q. h.done q ∙ sym (at-diff_after newer older q))

-- and on the way, the newer one and then what is joined so far do the same
pub joined_some : (rest newer older now : RecordOps) → IsInverse newer → diff_has_append older ≡ false → Joining rest newer older now → diff_after newer now ≡ diff_after newer older
joined_some rest newer older now is plain h =
    same_pairs _ _ (rising-diff_after newer now is.0.0) (rising-diff_after newer older is.0.0) (λ q.
    at-diff_after newer now q
    ∙ (elim (value_at rest q) as (λ o. value_at rest q ≡ o → both_in_turn (value_at newer q) (value_at now q) ≡ both_in_turn (value_at newer q) (value_at older q)) [
      | None ↦ λ none.
          let same : value_at now q ≡ both_in_turn (value_at newer q) (value_at older q) = ap (λ o. both_in_turn o (value_at now q)) (sym none) ∙ h.done q in
          ap (both_in_turn (value_at newer q)) same
          ∙ both_itself (value_at newer q) (value_at older q) (plain_if newer q is) (sound_if newer q is) (λ c at. each_at (λ c. has_append c ≡ false) older q c (each_plain older plain) at)
      | Some c ↦ λ some. ap (λ o. both_in_turn o (value_at now q)) (h.left q c some ∙ sym some) ∙ h.done q
    ] refl)
    ∙ sym (at-diff_after newer older q))

-- what a diff has at an id has no append
pub plain_found : (now : RecordOps) (k : List ℕ) (o : Option (Bor RecordOp)) → diff_has_append now ≡ false → option_map (λ op. change_of op.now) o ≡ value_at now k → ForSome o (λ op. has_append (change_of op.now) ≡ false)
plain_found now k o plain found = λ op is. each_at (λ c. has_append c ≡ false) now k (change_of op.now) (each_plain now plain) (sym found ∙ ap (option_map (λ op. change_of op.now)) is)

pub plain_then : (r : Result RecordOp OutOfMemory) (a b : RecordOpTree) → has_append a ≡ false → has_append b ≡ false → IfOk r (λ op. change_of op ≡ in_turn a b) → IfOk r (λ op. has_append (change_of op) ≡ false)
plain_then (Ok op) a b first later is = ap has_append is ∙ plain_turn a b first later (in_turn a b) refl
plain_then (Err e) a b first later is = tt

-- two inverses that become one merge to the same

pub settled : (older newer now : RecordOps) → AreRising older → AreRising newer → now ≡ diff_after newer older → merge_some (now ∷ []) ≡ merge_some (older ∷ newer ∷ [])
settled older newer now rising rises is =
    ap Some (merge_one now (subst AreRising (sym is) (rising-diff_after newer older rises)) ∙ is ∙ ap (λ d. diff_after d older) (sym (merge_one newer rises)))

pub unsettled : (older newer now : RecordOps) → AreRising newer → diff_after newer now ≡ diff_after newer older → merge_some (now ∷ newer ∷ []) ≡ merge_some (older ∷ newer ∷ [])
unsettled older newer now rises same = ap Some (ap (λ d. diff_after d now) (merge_one newer rises) ∙ same ∙ ap (λ d. diff_after d older) (sym (merge_one newer rises)))

-- what holds anyway holds of a fault
pub on_err : {A E : Type 0} (P : Type 0) (r : Result A E) → P → OnErr r P
on_err P (Ok x) p = tt
on_err P (Err e) p = p

-- a stretch as one diff

pub merged_none : (r : Result RecordOps OutOfMemory) (joined latest : Option RecordOps) → latest ≡ None → AreInverses (option_to_list joined ++ option_to_list latest) → IfOk r (λ d. d ≡ unwrap_or joined [])
    → IfOk r (λ d. d ≡ merge (option_to_list joined ++ option_to_list latest))
merged_none (Err e) joined latest none each is = tt
merged_none (Ok d) None latest none each is = is ∙ ap (λ o. merge (option_to_list o)) (sym none)
merged_none (Ok d) (Some j) latest none each is = is ∙ sym (merge_one j each.0.0.0) ∙ ap (λ o. merge (j ∷ option_to_list o)) (sym none)

merged_with : (joined : Option RecordOps) (last : RecordOps) → AreInverses (option_to_list joined ++ last ∷ []) → diff_after last (unwrap_or joined []) ≡ merge (option_to_list joined ++ last ∷ [])
merged_with None last each = sym (merge_one last each.0.0.0)
merged_with (Some j) last each = ap (λ d. diff_after d j) (sym (merge_one last each.1.0.0.0))

pub merged_some : (joined latest : Option RecordOps) (last : RecordOps) → latest ≡ Some last → AreInverses (option_to_list joined ++ option_to_list latest)
    → diff_after last (unwrap_or joined []) ≡ merge (option_to_list joined ++ option_to_list latest)
merged_some joined latest last is each =
    merged_with joined last (subst (λ o. AreInverses (option_to_list joined ++ option_to_list o)) is each) ∙ ap (λ o. merge (option_to_list joined ++ option_to_list o)) (sym is)
