-- Inverses that are merged in parts.
use Rattle.std.proofs.Common.{◌≡◌, ℕ, List, [], ◌∷◌, ◌++◌, false, ◌||◌, Some, None, refl, sym, ap, ◌∙◌}
use Rattle.std.specs.Prelude.{unwrap_or}
use Rattle.rooms_val.proofs.Truths.{or_false_left, or_false_right}
use Rattle.rooms_val.specs.Maps.{value_at, AreRising, EachValue}
use Rattle.rooms_val.proofs.MapsLemmas.{same_pairs}
use Rattle.field_ops.specs.RecordOps.{RecordOpTree, RecordOps, has_append, IsSoundChange}
use Rattle.doc_model.specs.Merging.{both_in_turn, diff_after, merge, merged_at}
use Rattle.doc_model.specs.Marks.{merge_some}
use Rattle.doc_model.specs.Restoring.{IsPlain, ArePlain}
use Rattle.doc_model.proofs.MergeLemmas.{at-merge, rising-merge, at-diff_after, rising-diff_after}
use Rattle.doc_model.proofs.PlainLemmas.{each_at, plain_at, plain_merged}
use Rattle.undo_marks.specs.Inverses.{diff_has_append, IsInverse, AreInverses}
use Rattle.undo_marks.proofs.TurnLemmas.{PlainIf, SoundIf, both_in_turn-in_turn, sound_both_in_turn}

pub each_plain : (diff : RecordOps) → diff_has_append diff ≡ false → EachValue (λ c. has_append c ≡ false) diff
each_plain [] none = tt
each_plain (c ∷ diff) none = (or_false_left (has_append c.1) (diff_has_append diff) none, each_plain diff (or_false_right (has_append c.1) (diff_has_append diff) none))

pub plain_each : (diff : RecordOps) → EachValue (λ c. has_append c ≡ false) diff → diff_has_append diff ≡ false
plain_each [] each = refl
plain_each (c ∷ diff) each = ap (λ b. b || diff_has_append diff) each.0 ∙ plain_each diff each.1

pub is_plain : (diff : RecordOps) → IsInverse diff → IsPlain diff
is_plain diff is = (is.0.0, each_plain diff is.1)

are_plain : (diffs : List RecordOps) → AreInverses diffs → ArePlain diffs
are_plain [] each = tt
are_plain (diff ∷ diffs) each = (is_plain diff each.0, are_plain diffs each.1)

pub plain_if : (diff : RecordOps) (q : List ℕ) → IsInverse diff → PlainIf (value_at diff q)
plain_if diff q is = plain_at diff q (is_plain diff is)

pub sound_if : (diff : RecordOps) (q : List ℕ) → IsInverse diff → SoundIf (value_at diff q)
sound_if diff q is = λ c at. each_at IsSoundChange diff q c is.0.1 at

plain_in : (diffs : List RecordOps) (q : List ℕ) → AreInverses diffs → PlainIf (merged_at diffs q)
plain_in diffs q each = plain_merged diffs q (are_plain diffs each)

sound_in : (diffs : List RecordOps) (q : List ℕ) → AreInverses diffs → SoundIf (merged_at diffs q)
sound_in [] q each = λ c is. absurd (cc)
sound_in (diff ∷ diffs) q each = sound_both_in_turn (merged_at diffs q) (value_at diff q) (sound_in diffs q each.1) (sound_if diff q each.0)

-- what does two in turn, of which neither has an append, has none
pub plain_turn : (a b : RecordOpTree) → has_append a ≡ false → has_append b ≡ false → PlainIf (both_in_turn (Some a) (Some b))
plain_turn a b first later = plain_merged ((([], b) ∷ []) ∷ (([], a) ∷ []) ∷ []) [] ((tt, (later, tt)), ((tt, (first, tt)), tt))

-- at each id

at-append : (older newer : List RecordOps) (q : List ℕ) → AreInverses older → AreInverses newer → merged_at (older ++ newer) q ≡ both_in_turn (merged_at newer q) (merged_at older q)
at-append [] newer q olds news = elim (merged_at newer q) as (λ o. o ≡ both_in_turn o None) [ None ↦ refl | Some c ↦ refl ]
at-append (diff ∷ older) newer q olds news =
    ap (λ o. both_in_turn o (value_at diff q)) (at-append older newer q olds.1 news)
    ∙ both_in_turn-in_turn (merged_at newer q) (merged_at older q) (value_at diff q) (plain_if diff q olds.0) (plain_in older q olds.1) (sound_in newer q news)

-- the merge of older inverses and newer ones is that of the older ones after that of the newer ones
pub merge-append : (older newer : List RecordOps) → AreInverses older → AreInverses newer → merge (older ++ newer) ≡ diff_after (merge newer) (merge older)
merge-append older newer olds news =
    same_pairs _ _ (rising-merge (older ++ newer)) (rising-diff_after (merge newer) (merge older) (rising-merge newer)) (λ q.
    at-merge (older ++ newer) q ∙ at-append older newer q olds news
    ∙ sym (at-diff_after (merge newer) (merge older) q ∙ (λ i. both_in_turn (at-merge newer q i) (at-merge older q i))))

-- one inverse is merged to itself
after_none : (diff : RecordOps) → AreRising diff → diff_after [] diff ≡ diff
after_none diff rising = same_pairs _ _ (rising-diff_after [] diff tt) rising (λ q. at-diff_after [] diff q)

pub merge_one : (diff : RecordOps) → AreRising diff → merge (diff ∷ []) ≡ diff
merge_one diff rising = after_none diff rising

-- where parts merge to the same, so does the whole

pub merged_is : (diffs : List RecordOps) → merge diffs ≡ unwrap_or (merge_some diffs) []
merged_is [] = refl
merged_is (diff ∷ diffs) = refl

pub same_merge : (xs ys : List RecordOps) → merge_some xs ≡ merge_some ys → merge xs ≡ merge ys
same_merge xs ys same = merged_is xs ∙ ap (λ o. unwrap_or o []) same ∙ sym (merged_is ys)

pub merges_append : (xs ys us vs : List RecordOps) → AreInverses xs → AreInverses ys → AreInverses us → AreInverses vs → merge xs ≡ merge us → merge ys ≡ merge vs → merge (xs ++ ys) ≡ merge (us ++ vs)
merges_append xs ys us vs x y u v first later =
    merge-append xs ys x y ∙ (λ i. diff_after (later i) (first i)) ∙ sym (merge-append us vs u v)

pub no_inverse : (xs ys : List RecordOps) → merge_some xs ≡ merge_some ys → ys ≡ [] → xs ≡ []
no_inverse [] ys same none = refl
no_inverse (x ∷ xs) ys same none = absurd (let no : Some (merge (x ∷ xs)) ≡ None = same ∙ ap merge_some none in cc)

pub some_inverse : (xs ys : List RecordOps) → merge_some xs ≡ merge_some ys → ¬ (ys ≡ []) → ¬ (xs ≡ [])
some_inverse xs [] same some none = some refl
some_inverse [] (y ∷ ys) same some none = let no : None ≡ Some (merge (y ∷ ys)) = same in cc
some_inverse (x ∷ xs) (y ∷ ys) same some none = cc
