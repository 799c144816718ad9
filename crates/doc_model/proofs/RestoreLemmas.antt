-- A mark brings a document back to what it was when the mark was made, however often it was edited since.
use Rattle.std.proofs.Common.{◌≡◌, ◌≢◌, ℕ, List, [], ◌∷◌, ◌++◌, filter_map, Bool, true, false, ◌||◌, cond, map, Option, Some, None, refl, sym, ap, subst, ◌∙◌, arith}
use Rattle.std.specs.List.{list_any}
use Rattle.std.specs.Option.{option_map_or, option_and_then}
use Rattle.std.specs.Str.{bytes_eq}
use Rattle.std.proofs.lemmas.List.{append_assoc, append-nil}
use Rattle.std.proofs.lemmas.List.Elements.{filter_map-append}
use Rattle.std.proofs.lemmas.Option.{same_Some}
use Rattle.std.proofs.lemmas.Slice.Eq.{bytes_eq-Decides}
use Rattle.rooms_val.specs.Data.{Data, Pairs, map as map_data, members_of, IsSound, IsSoundRecord}
use Rattle.rooms_val.specs.Kinds.{on_map}
use Rattle.rooms_val.specs.Maps.{value_at, AreRising}
use Rattle.rooms_val.proofs.MapsLemmas.{same_pairs}
use Rattle.rooms_val.proofs.DataLemmas.{rising_pairs, sound_at}
use Rattle.field_ops.specs.ValueOps.{Patch, edits_of}
use Rattle.field_ops.specs.RecordOps as change
use Rattle.field_ops.specs.RecordOps.{RecordOpTree, RecordOps}
use Rattle.field_ops.specs.Patched.{raw, patched}
use Rattle.field_ops.specs.Laws.{raw_after}
use Rattle.field_ops.specs.Inverses.{inverse}
use Rattle.field_ops.proofs.ComposeLemmas.{brings_back, does_both}
use Rattle.doc_model.specs.Documents.{acts_on, fold_raw, step}
use Rattle.doc_model.specs.Inverses.{record_after, inverse_on, inverse_diff}
use Rattle.doc_model.specs.Merging.{both_in_turn, merge, merged_at}
use Rattle.doc_model.specs.Marks.{Item, mark, inverse as back, Marks, diff_in, is_inverse, is_named, undo_diff, bail_diff, after_mark, after_edit}
use Rattle.doc_model.specs.Restoring.{IsPlain, ArePlain, Restores, AreBackAdmitted}
use Rattle.doc_model.proofs.InverseLemmas.{at-step, rising-step, rising-inverse_diff, at-inverse_diff}
use Rattle.doc_model.proofs.MergeLemmas.{at-fold_raw, rising-fold_raw, at-merge, rising-merge}
use Rattle.doc_model.proofs.MarkLemmas.{diffs-inverses, suffix_none, undo_diff-append, bail_diff-append}
use Rattle.doc_model.proofs.PlainLemmas.{PlainIf, plain_at, plain_merged, plain_inverse_diff}

-- a further diff of those that are merged is done first

both_raw : (o p : Option RecordOpTree) (r : Option Data) → PlainIf o → PlainIf p → IsSoundRecord r → raw_after (both_in_turn o p) r ≡ raw_after p (raw_after o r)
both_raw None p r first later sound = refl
both_raw (Some c) None r first later sound = refl
both_raw (Some c) (Some d) r first later sound = does_both c d r (first c refl) (later d refl) sound

plain_added : (diffs : List RecordOps) (diff : RecordOps) → ArePlain diffs → IsPlain diff → ArePlain (diffs ++ diff ∷ [])
plain_added [] diff plain new = (new, tt)
plain_added (d ∷ diffs) diff plain new = (plain.0, plain_added diffs diff plain.1 new)

merged_raw : (diffs : List RecordOps) (diff : RecordOps) (q : List ℕ) (r : Option Data) → ArePlain diffs → IsPlain diff → IsSoundRecord r → IsSoundRecord (raw_after (value_at diff q) r)
    → raw_after (merged_at (diffs ++ diff ∷ []) q) r ≡ raw_after (merged_at diffs q) (raw_after (value_at diff q) r)
merged_raw [] diff q r plain new sound then = refl
merged_raw (d ∷ diffs) diff q r plain new sound then =
    let one = plain_at d q plain.0 in
    both_raw (merged_at (diffs ++ diff ∷ []) q) (value_at d q) r (plain_merged (diffs ++ diff ∷ []) q (plain_added diffs diff plain.1 new)) one sound
    ∙ ap (raw_after (value_at d q)) (merged_raw diffs diff q r plain.1 new sound then)
    ∙ sym (both_raw (merged_at diffs q) (value_at d q) (raw_after (value_at diff q) r) (plain_merged diffs q plain.1) one then)

merge_first : (diffs : List RecordOps) (diff : RecordOps) (m : Pairs) → ArePlain diffs → IsPlain diff → IsSound (map_data (members_of m)) → IsSound (map_data (members_of (fold_raw m diff)))
    → fold_raw m (merge (diffs ++ diff ∷ [])) ≡ fold_raw (fold_raw m diff) (merge diffs)
merge_first diffs diff m plain new sound then =
    let rising = rising_pairs m sound in
    let all = merge (diffs ++ diff ∷ []) in
    same_pairs _ _ (rising-fold_raw all m rising) (rising-fold_raw (merge diffs) (fold_raw m diff) (rising-fold_raw diff m rising)) (λ q.
    let at = at-fold_raw diff m q new.0 in
    at-fold_raw all m q (rising-merge (diffs ++ diff ∷ []))
    ∙ ap (λ o. raw_after o (value_at m q)) (at-merge (diffs ++ diff ∷ []) q)
    ∙ merged_raw diffs diff q (value_at m q) plain new (sound_at m q sound.1) (subst IsSoundRecord at (sound_at (fold_raw m diff) q then.1))
    ∙ sym (λ i. raw_after (at-merge diffs q i) (at i))
    ∙ sym (at-fold_raw (merge diffs) (fold_raw m diff) q (rising-merge diffs)))

module _ (admits : List ℕ → Data → Bool) where
  -- an inverse that is done whatever is admitted brings a document back

  back_raw : (q : List ℕ) (o : Option RecordOpTree) (r : Option Data) → IsSoundRecord r → raw_after (option_and_then (λ c. inverse_on admits q c r) o) (record_after admits q o r) ≡ r
  back_raw q None r sound = refl
  back_raw q (Some c) r sound = elim (acts_on admits q c r) as (λ b. raw_after (cond b (inverse c r) None) (cond b (raw c r) r) ≡ r) [ true ↦ brings_back c r sound | false ↦ refl ]

  fold-inverse_diff : (m : Pairs) (diff : RecordOps) → IsSound (map_data (members_of m)) → AreRising diff → fold_raw (step admits m diff) (inverse_diff admits m diff) ≡ m
  fold-inverse_diff m diff sound rising =
      let rises = rising_pairs m sound in
      let undone = inverse_diff admits m diff in
      same_pairs _ m (rising-fold_raw undone (step admits m diff) (rising-step admits diff m rises)) rises (λ q.
      at-fold_raw undone (step admits m diff) q (rising-inverse_diff admits m diff)
      ∙ (λ i. raw_after (at-inverse_diff admits m diff q i) (at-step admits diff m q rising i))
      ∙ back_raw q (value_at diff q) (value_at m q) (sound_at m q sound.1))

  -- what is done whatever is admitted is done by the step, if what patches leave is admitted
  step_raw : (q : List ℕ) (o : Option RecordOpTree) (r : Option Data) → ((p : Patch) → o ≡ Some (change.patch p) → option_map_or (admits q) (raw_after o r) true ≡ true)
      → record_after admits q o r ≡ raw_after o r
  step_raw q None r fit = refl
  step_raw q (Some (change.put d)) r fit = refl
  step_raw q (Some change.remove) None fit = refl
  step_raw q (Some change.remove) (Some x) fit = refl
  step_raw q (Some (change.patch p)) None fit = refl
  step_raw q (Some (change.patch p)) (Some x) fit = let y = on_map (λ f. patched (edits_of p) f) x in ap (λ b. cond b (Some y) (Some x)) (fit p refl)

  pub step_back : (m before : Pairs) (diff : RecordOps) → AreRising m → AreRising diff → fold_raw m diff ≡ before → AreBackAdmitted admits diff before → step admits m diff ≡ before
  step_back m before diff rising rises gives fit =
      same_pairs _ _ (rising-step admits diff m rising) (rising-fold_raw diff m rising) (λ q.
      let at = at-fold_raw diff m q rises in
      let left : raw_after (value_at diff q) (value_at m q) ≡ value_at before q = sym at ∙ ap (λ b. value_at b q) gives in
      at-step admits diff m q rises
      ∙ step_raw q (value_at diff q) (value_at m q) (λ p is. ap (λ r. option_map_or (admits q) r true) left ∙ fit q p is)
      ∙ sym at)
      ∙ gives

-- marks

none_added : (name : List ℕ) (items : List Item) (item : Item) → list_any (is_named name) items ≡ false → is_named name item ≡ false → list_any (is_named name) (items ++ item ∷ []) ≡ false
none_added name [] item none new = ap (λ b. b || false) new
none_added name (i ∷ items) item none new = elim (is_named name i) as (λ b. (b || list_any (is_named name) items) ≡ false → (b || list_any (is_named name) (items ++ item ∷ [])) ≡ false) [
  | true ↦ λ no. no
  | false ↦ λ rest. none_added name items item rest new
] none

none_inverse : (name : List ℕ) (diffs : List RecordOps) → list_any (is_named name) (map back diffs) ≡ false
none_inverse name [] = refl
none_inverse name (diff ∷ diffs) = none_inverse name diffs

diffs_marked : (items : List Item) (name : List ℕ) → filter_map diff_in (items ++ mark name ∷ []) ≡ filter_map diff_in items
diffs_marked items name = filter_map-append diff_in items (mark name ∷ []) ∙ append-nil (filter_map diff_in items)

diffs_added : (items : List Item) (diff : RecordOps) → filter_map diff_in (items ++ back diff ∷ []) ≡ filter_map diff_in items ++ diff ∷ []
diffs_added items diff = filter_map-append diff_in items (back diff ∷ [])

pub mark_restores : (name : List ℕ) (marks : Marks) (document : Pairs) → Restores name (after_mark name marks) document document
mark_restores name marks document = record { earlier = marks.history; later = []; there = refl; last = refl; plain = tt; brings = refl }

pub other_keeps : (name other : List ℕ) (marks : Marks) (document before : Pairs) → name ≢ other → Restores name marks document before → Restores name (after_mark other marks) document before
other_keeps name other marks document before apart h =
    let differs : bytes_eq name other ≡ false = elim (bytes_eq name other) as (λ b. bytes_eq name other ≡ b → b ≡ false) [ true ↦ λ is. absurd (apart ((bytes_eq-Decides name other).0 is)) | false ↦ λ is. refl ] refl in
    let same = diffs_marked h.later other in
    record {
      earlier = h.earlier;
      later = h.later ++ mark other ∷ [];
      there = ap (λ items. items ++ mark other ∷ []) h.there ∙ append_assoc h.earlier (mark name ∷ h.later) (mark other ∷ []);
      last = none_added name h.later (mark other) h.last differs;
      plain = subst ArePlain (sym same) h.plain;
      brings = ap (λ diffs. fold_raw document (merge diffs)) same ∙ h.brings;
    }

-- the inverse of what acted joins the marks
pub edit_keeps : (admits : List ℕ → Data → Bool) (name : List ℕ) (marks : Marks) (document before : Pairs) (diff : RecordOps) → IsSound (map_data (members_of document))
    → IsSound (map_data (members_of (step admits document diff))) → AreRising diff → Restores name marks document before
    → Restores name (after_edit (inverse_diff admits document diff) marks) (step admits document diff) before
edit_keeps admits name marks document before diff sound then rising h =
    let after = step admits document diff in
    elim (inverse_diff admits document diff) as (λ d. IsPlain d → fold_raw after d ≡ document → Restores name (after_edit d marks) after before) [
      | [] ↦ λ plain goes. record {
        earlier = h.earlier;
        later = h.later;
        there = append-nil marks.history ∙ h.there;
        last = h.last;
        plain = h.plain;
        brings = ap (λ m. fold_raw m (merge (filter_map diff_in h.later))) goes ∙ h.brings;
      }
      | (c ∷ d) ↦ λ plain goes.
          let undone : RecordOps = c ∷ d in
          let diffs = filter_map diff_in h.later in
          let same = diffs_added h.later undone in
          record {
            earlier = h.earlier;
            later = h.later ++ back undone ∷ [];
            there = ap (λ items. items ++ back undone ∷ []) h.there ∙ append_assoc h.earlier (mark name ∷ h.later) (back undone ∷ []);
            last = none_added name h.later (back undone) h.last refl;
            plain = subst ArePlain (sym same) (plain_added diffs undone h.plain plain);
            brings = ap (λ ds. fold_raw after (merge ds)) same ∙ merge_first diffs undone after h.plain plain then (subst (λ m. IsSound (map_data (members_of m))) (sym goes) sound)
                ∙ ap (λ m. fold_raw m (merge diffs)) goes ∙ h.brings;
          }
    ] (plain_inverse_diff admits document diff) (fold-inverse_diff admits document diff sound rising)

pub bail_restores : (admits : List ℕ → Data → Bool) (name : List ℕ) (marks : Marks) (document before : Pairs) (diff : RecordOps) → AreRising document → Restores name marks document before
    → bail_diff name marks ≡ Some diff → AreBackAdmitted admits diff before → step admits document diff ≡ before
bail_restores admits name marks document before diff rising h is fit =
    let diffs = filter_map diff_in h.later in
    let found : bail_diff name marks ≡ Some (merge diffs) = ap (λ items. bail_diff name (record marks { history = items })) h.there ∙ bail_diff-append name h.earlier h.later marks.redos h.last in
    let same : merge diffs ≡ diff = same_Some _ _ (sym found ∙ is) in
    step_back admits document before diff rising (subst AreRising same (rising-merge diffs)) (ap (fold_raw document) (sym same) ∙ h.brings) fit

pub undo_is_bail : (name : List ℕ) (marks : Marks) (earlier : List Item) (first : RecordOps) (more : List RecordOps) → marks.history ≡ earlier ++ mark name ∷ map back (first ∷ more)
    → undo_diff marks ≡ bail_diff name marks
undo_is_bail name marks earlier first more is =
    let taken : List RecordOps = first ∷ more in
    let items : List Item = map back taken in
    let kept : List Item = earlier ++ mark name ∷ [] in
    let parts : marks.history ≡ kept ++ items ++ [] = is ∙ sym (append_assoc earlier (mark name ∷ []) items) ∙ sym (append-nil (kept ++ items)) in
    let undone : undo_diff marks ≡ Some (merge taken) = ap (λ items. undo_diff (record marks { history = items })) parts
    ∙ undo_diff-append kept taken [] marks.redos (suffix_none is_inverse earlier (mark name ∷ []) refl (omega arith)) (λ no. absurd (cc)) in
    let bailed : bail_diff name marks ≡ Some (merge taken) = ap (λ items. bail_diff name (record marks { history = items })) is
    ∙ bail_diff-append name earlier items marks.redos (none_inverse name taken) ∙ ap (λ ds. Some (merge ds)) (diffs-inverses taken) in
    undone ∙ sym bailed
