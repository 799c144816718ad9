-- Marks that are passed from the newest on.
use Rattle.std.proofs.Common.{◌≡◌, ◌≢◌, ℕ, zero, suc, ◌+◌, List, [], ◌∷◌, ◌++◌, false, refl, sym, ap, subst, ◌∙◌, arith, zero-add}
use Rattle.std.proofs.lemmas.List.{append_assoc, append-nil}
use Rattle.field_ops.specs.RecordOps.{RecordOps}
use Rattle.doc_model.specs.Merging.{diff_after, merge}
use Rattle.undo_marks.specs.Inverses.{diff_has_append, AreInverses}
use Rattle.undo_marks.specs.Histories.{Section, AreTaken, HasNone, IsLastNamed, NamesNone, inverses_since}
use Rattle.undo_marks.proofs.HistoryLemmas.{inverses_append}
use Rattle.undo_marks.proofs.MergeLemmas.{merge-append}

one_more : (k n : ℕ) → k + suc n ≡ (k + 1) + n
one_more k n = omega arith

-- the last inverses are looked for: so many marks are passed
pub record Passing (first : List Section) (all : List RecordOps) (now : List Section) (last : List RecordOps) (dropped : ℕ) : Type 0 where
  pub taken : (n : ℕ) (t : List RecordOps) → AreTaken n now last t → AreTaken (dropped + n) first all t
  pub none : HasNone now last → HasNone first all

pub passing_first : (ss : List Section) (last : List RecordOps) → Passing ss last ss last 0
passing_first ss last = record { taken = λ n t h. subst (λ k. AreTaken k ss last t) (sym (zero-add n)) h; none = λ h. h }

pub passing_next : (first : List Section) (all : List RecordOps) (s : Section) (older : List Section) (last : List RecordOps) (dropped : ℕ) → last ≡ []
    → Passing first all (s ∷ older) last dropped → Passing first all older s.before (dropped + 1)
passing_next first all s older last dropped none h = record {
  taken = λ n t there. subst (λ k. AreTaken k first all t) (one_more dropped n) (h.taken (suc n) t (none, there));
  none = λ there. h.none (none, there);
}

pub passed : (first : List Section) (all : List RecordOps) (now : List Section) (last : List RecordOps) (dropped : ℕ) → last ≢ [] → Passing first all now last dropped → AreTaken dropped first all last
passed first all now last dropped some h = subst (λ k. AreTaken k first all last) (add_zero dropped) (h.taken zero last (refl, some)) where
  add_zero : (k : ℕ) → k + 0 ≡ k
  add_zero k = omega arith

pub passed_all : (first : List Section) (all : List RecordOps) (last : List RecordOps) (dropped : ℕ) → last ≡ [] → Passing first all [] last dropped → HasNone first all
passed_all first all last dropped none h = h.none none

-- the last mark of a name is looked for, and the inverses on the way are merged
pub record Seeking (name : List ℕ) (first : List Section) (all : List RecordOps) (now : List Section) (last : List RecordOps) (newer : ℕ) (diff : RecordOps) : Type 0 where
  pub passed : List RecordOps
  pub each : AreInverses passed
  pub merges : diff ≡ merge passed
  pub plain : diff_has_append diff ≡ false
  pub named : (n : ℕ) → IsLastNamed n name now → IsLastNamed (newer + n) name first
  pub none : NamesNone name now → NamesNone name first
  pub since : (n : ℕ) → inverses_since n now last ++ passed ≡ inverses_since (newer + n) first all

pub seeking_first : (name : List ℕ) (ss : List Section) (last : List RecordOps) (diff : RecordOps) → diff ≡ [] → Seeking name ss last ss last 0 diff
seeking_first name ss last diff empty = record {
  passed = [];
  each = tt;
  merges = empty;
  plain = ap diff_has_append empty;
  named = λ n h. subst (λ k. IsLastNamed k name ss) (sym (zero-add n)) h;
  none = λ h. h;
  since = λ n. append-nil (inverses_since n ss last) ∙ ap (λ k. inverses_since k ss last) (sym (zero-add n));
}

module _ (name : List ℕ) (first : List Section) (all : List RecordOps) (s : Section) (older : List Section) (last : List RecordOps) (newer : ℕ) (diff next : RecordOps) (each : AreInverses last)
    (is : next ≡ diff_after diff (merge last)) (h : Seeking name first all (s ∷ older) last newer diff) where
  merged : next ≡ merge (last ++ h.passed)
  merged = is ∙ ap (λ d. diff_after d (merge last)) h.merges ∙ sym (merge-append last h.passed each h.each)

  -- it is this one
  pub sought : name ≡ s.name → IsLastNamed newer name first × (next ≡ merge (inverses_since newer first all)) × AreInverses (inverses_since newer first all)
  sought same =
      let here : last ++ h.passed ≡ inverses_since newer first all = h.since zero ∙ ap (λ k. inverses_since k first all) (add_zero newer) in
      (subst (λ k. IsLastNamed k name first) (add_zero newer) (h.named zero same), merged ∙ ap merge here, subst AreInverses here (inverses_append last h.passed each h.each)) where
        add_zero : (k : ℕ) → k + 0 ≡ k
        add_zero k = omega arith

  -- it is an older one
  pub seeking_next : name ≢ s.name → diff_has_append next ≡ false → Seeking name first all older s.before (newer + 1) next
  seeking_next apart plain = record {
    passed = last ++ h.passed;
    each = inverses_append last h.passed each h.each;
    merges = merged;
    plain = plain;
    named = λ n there. subst (λ k. IsLastNamed k name first) (one_more newer n) (h.named (suc n) (apart, there));
    none = λ there. h.none (apart, there);
    since = λ n. sym (append_assoc (inverses_since n older s.before) last h.passed) ∙ h.since (suc n) ∙ ap (λ k. inverses_since k first all) (one_more newer n);
  }
