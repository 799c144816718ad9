-- What an accepted push and a removal make of what is kept.
use Rattle.std.proofs.Common.{◌≡◌, ℕ, ◌+◌, ◌≤◌, ◌^◌, pos, ◌<ℤ◌, true, false, ◌&&◌, ◌||◌, cond, not, List, [], ◌∷◌, length, map, sum, Option, Some, None, is_some, refl, sym, ap, subst, ◌∙◌, arith}
use Rattle.std.specs.List.{list_all}
use Rattle.std.proofs.lemmas.Int.{ints}
use Rattle.rooms_val.specs.Data.{Data, Pairs}
use Rattle.rooms_val.specs.Maps.{value_at, without_key, ties, AreRising, seen}
use Rattle.rooms_val.specs.Weight.{weight}
use Rattle.rooms_val.proofs.MapsLemmas.{ties_same}
use Rattle.field_ops.specs.RecordOps.{RecordOps}
use Rattle.field_ops.specs.Patched.{raw}
use Rattle.field_ops.specs.View.{maybe_data}
use Rattle.doc_model.specs.Documents.{fold_raw}
use Rattle.schema_core.specs.Admits.{is_document}
use Rattle.schema_core.specs.SchemaOf.{schema_tree}
use Rattle.room_model.specs.Histories.{History, records_of}
use Rattle.room_model.specs.Rooms.{removal}
use Rattle.room_model.specs.Schemas.{presence_id, records_with}
use Rattle.room_model.proofs.ActingLemmas.{differ}
use Rattle.rooms_val.proofs.Truths.{and_left as first, and_right, and_true}
use Rattle.room_model.proofs.HistoryLemmas.{filter_twice, at_most-filter}
use Rattle.room_model.proofs.LookUpLemmas.{at-filter, rising-mapped}
use Rattle.room_schemas.specs.Decided.{is_presence}
use Rattle.room_schemas.proofs.ApartLemmas.{presence_apart}
use Rattle.room_accept.specs.Sizes.{size_of}
use Rattle.room_accept.specs.Suiting.{AreAdmitted, Suits, HasPresences, left_under, each_changes}
use Rattle.room_accept.specs.declared.accepted.Accepted.{Accepted}
use Rattle.room_accept.proofs.AdmittedLemmas.{admitted-set_at}
use Rattle.room_history.specs.Keeps.{Keeps, KeepsSome}
use Rattle.room_history.specs.Marks.{is_listed, marks_of}
use Rattle.room_history.specs.declared.kept.Kept.{Kept}
use Rattle.room_history.proofs.FilterLemmas.{filter_passing}
use Rattle.room_history.proofs.KeepLemmas.{IsStep, appended, presences}
use Rattle.room_history.proofs.UsableLemmas.{live_some}

-- the marks of what a diff leaves rise
pub marks_rise : (m : Pairs) (diff : RecordOps) → AreRising diff → AreRising (marks_of (left_under m diff))
marks_rise m diff rising =
    rising-mapped (λ id (r : Option Data). is_some r) (left_under m diff) (rising-mapped (λ id c. raw c (value_at m id)) diff rising)

-- what is removed is live
pub marks_can : (kept : Kept) → ∥ KeepsSome kept ∥₁ → (diff : RecordOps) → each_changes kept.records.0 diff ≡ true
    → list_all (λ mark. mark.1 || is_listed kept.changes.live mark.0) (marks_of (left_under kept.records.0 diff)) ≡ true
marks_can kept some [] changes = refl
marks_can kept some (c ∷ diff) changes =
    and_true _ _
    (elim (is_some (raw c.1 (value_at kept.records.0 c.0))) as (λ b. b || is_some (value_at kept.records.0 c.0) ≡ true → b || is_listed kept.changes.live c.0 ≡ true) [
      | true ↦ λ h. refl
      | false ↦ λ h. live_some kept some c.0 h
    ] (first _ _ changes))
    (marks_can kept some diff (and_right _ _ changes))

-- an accepted push
module _ (first : ℕ) (history : History) (old new : Kept) (accepted : Accepted) (keeps : Keeps first history old) (suits : Suits (schema_tree old.schema) old.records.0 accepted) where
  pub pushed : AreRising accepted.entry.diff → IsStep old new accepted.entry (seen maybe_data accepted.after.items) → new.size ≡ accepted.size → old.clock <ℤ pos (2 ^ 53) → Keeps first (accepted.entry ∷ history) new
  pushed rising step size below =
      let m = records_of history in
      let at : old.records.0 ≡ m = ap (λ r. r.0) keeps.records in
      let s = schema_tree old.schema in
      let same : schema_tree new.schema ≡ s = ap schema_tree step.schema in
      let few : presences new (accepted.entry ∷ history) ≤ presences old history + 1 =
      subst (λ t. length (records_with (is_presence t) (records_of (accepted.entry ∷ history))) ≤ presences old history + 1) (sym same)
      (subst (λ (r : Pairs). length (records_with (is_presence s) (fold_raw r accepted.entry.diff)) ≤ length (records_with (is_presence s) r) + 1) at suits.presences) in
      let was = keeps.presences in
      let clock = keeps.clock in
      appended first history old new accepted.entry (seen maybe_data accepted.after.items) keeps step rising
      (suits.after ∙ ap (λ r. left_under r accepted.entry.diff) at)
      (ap (λ r. each_changes r accepted.entry.diff) (sym at) ∙ suits.changing)
      (subst (λ t. AreAdmitted t (fold_raw m accepted.entry.diff)) (sym same) (subst (λ r. AreAdmitted s (fold_raw r accepted.entry.diff)) at suits.admitted))
      (size ∙ suits.size ∙ (λ i. size_of (is_document (sym same i)) (fold_raw (at i) accepted.entry.diff)))
      (omega arith) (omega (arith, ints))

-- who is there is one fewer without
fewer : (m : Pairs) (k : List ℕ) → is_some (value_at m k) ≡ true → length (without_key m k) + 1 ≤ length m
fewer [] k has = absurd (cc)
fewer (e ∷ m) k has =
    let rest = at_most-filter (λ (d : List ℕ × Data). not (ties k d.0)) m in
    elim (ties k e.0) as (λ b. ties k e.0 ≡ b → is_some (cond b (Some e.1) (value_at m k)) ≡ true → length (cond (not b) (e ∷ without_key m k) (without_key m k)) + 1 ≤ length (e ∷ m)) [
      | true ↦ λ is h. omega arith
      | false ↦ λ is h. let less = fewer m k h in omega arith
    ] refl has

-- a presence that is removed
module _ (first : ℕ) (history : History) (old new : Kept) (session : ℕ) (keeps : Keeps first history old) (ours : HasPresences (schema_tree old.schema)) where
  abbrev Id : List ℕ
  Id = presence_id session

  abbrev M : Pairs
  M = records_of history

  pub removed : IsStep old new (removal session) ((presence_id session, None) ∷ []) → new.size ≡ old.size → is_some (value_at old.records.0 (presence_id session)) ≡ true → Keeps first (removal session ∷ history) new
  removed step size has =
      let s = schema_tree old.schema in
      let same : schema_tree new.schema ≡ s = ap schema_tree step.schema in
      let here : is_some (value_at M Id) ≡ true = ap (λ r. is_some (value_at r.0 Id)) (sym keeps.records) ∙ has in
      let document : records_with (is_document s) (without_key M Id) ≡ records_with (is_document s) M =
      filter_twice (λ (e : List ℕ × Data). is_document s e.0) (λ e. not (ties Id e.0)) M
      ∙ filter_passing (λ (e : List ℕ × Data). not (ties Id e.0)) (λ e. is_document s e.0) (λ e is.
      elim (ties Id e.0) as (λ b. ties Id e.0 ≡ b → not b ≡ true) [
        | true ↦ λ tie. absurd (differ (sym (ap (is_document s) (ties_same Id e.0 tie) ∙ is) ∙ presence_apart s Id (ours session)))
        | false ↦ λ tie. refl
      ] refl) M in
      let there : is_some (value_at (records_with (is_presence s) M) Id) ≡ true =
      ap is_some (at-filter (is_presence s) M Id ∙ ap (λ b. cond b (value_at M Id) None) (ours session)) ∙ here in
      let less : presences new (removal session ∷ history) + 1 ≤ presences old history =
      subst (λ t. length (records_with (is_presence t) (without_key M Id)) + 1 ≤ presences old history) (sym same)
      (subst (λ (r : Pairs). length r + 1 ≤ presences old history) (sym (filter_twice (λ (e : List ℕ × Data). is_presence s e.0) (λ e. not (ties Id e.0)) M)) (fewer (records_with (is_presence s) M) Id there)) in
      let was = keeps.presences in
      let bound = keeps.bounded in
      appended first history old new (removal session) ((Id, None) ∷ []) keeps step tt refl
      (ap (λ b. b && true) here)
      (subst (λ t. AreAdmitted t (without_key M Id)) (sym same) (admitted-set_at s M Id None keeps.admitted tt))
      (size ∙ keeps.size ∙ (λ i. record { count = length (sym document i); weight = sum (map (λ p. weight p.1) (sym document i)) }) ∙ ap (λ t. size_of (is_document t) (without_key M Id)) (sym same))
      (omega arith) (omega arith)
