-- What undo, redo and bail make of a history, by what is kept of it.
use Rattle.std.proofs.Common.{◌≡◌, ◌≢◌, ℕ, zero, suc, List, [], ◌∷◌, ◌++◌, map, drop, filter_map, true, false, ◌||◌, Some, None, cond, refl, sym, ap, subst, ◌∙◌}
use Rattle.std.specs.List.{list_any, after_last}
use Rattle.std.specs.Str.{bytes_eq}
use Rattle.std.proofs.lemmas.List.{append_assoc, append-nil}
use Rattle.std.proofs.lemmas.List.Elements.{filter_map-append}
use Rattle.std.proofs.lemmas.Slice.Eq.{bytes_eq-Decides}
use Rattle.field_ops.specs.RecordOps.{RecordOps}
use Rattle.doc_model.specs.Merging.{merge}
use Rattle.doc_model.specs.Marks.{Item, mark, inverse, Marks, diff_in, is_named, undo_diff, after_undo, bail_diff, after_bail}
use Rattle.doc_model.proofs.MarkLemmas.{diffs-inverses, undo_diff-append, after_undo-append, undo_diff-marks, bail_diff-append, after_bail-append}
use Rattle.undo_marks.specs.Inverses.{AreInverses}
use Rattle.undo_marks.specs.Histories.{Section, IsKept, AreTaken, HasNone, IsLastNamed, NamesNone, inverses_since}
use Rattle.undo_marks.proofs.MergeLemmas.{same_merge, merges_append}
use Rattle.undo_marks.proofs.HistoryLemmas.{EndsIn, ends_in, ends, unmarked, no_stretch, inverses_append}

-- a history is a shorter one, of which this is kept, and marks after it
pub record Before (ss : List Section) (last : List RecordOps) (history : List Item) (dropped : List (List ℕ)) : Type 0 where
  pub shorter : List Item
  pub kept : IsKept ss last shorter
  pub is : history ≡ shorter ++ map mark dropped

pub before_all : (ss : List Section) (last : List RecordOps) (history : List Item) → IsKept ss last history → Before ss last history []
before_all ss last history is = record { shorter = history; kept = is; is = sym (append-nil history) }

-- one mark more is dropped
pub before_one : (s : Section) (older : List Section) (last : List RecordOps) (history : List Item) (dropped : List (List ℕ)) → last ≡ [] → Before (s ∷ older) last history dropped
    → Before older s.before history (s.name ∷ dropped)
before_one s older last history dropped none h =
    let one = unmarked s older last h.shorter none h.kept in
    record {
      shorter = one.0;
      kept = one.1;
      is = h.is ∙ ap (λ i. i ++ map mark dropped) one.2 ∙ append_assoc one.0 (mark s.name ∷ []) (map mark dropped);
    }

-- a history that ends in inverses, but for marks after them: what an undo does
module _ (ss : List Section) (last : List RecordOps) (m : Marks) (dropped : List (List ℕ)) (some : last ≢ []) (h : Before ss last m.history dropped) where
  abbrev pub end : EndsIn ss last h.shorter
  end = ends_in ss last h.shorter some h.kept

  whole : m.history ≡ end.stays ++ map inverse end.inverses ++ map mark dropped
  whole = h.is ∙ ap (λ i. i ++ map mark dropped) end.is

  seen : m ≡ record { history = end.stays ++ map inverse end.inverses ++ map mark dropped; redos = m.redos }
  seen = ap (λ i. record m { history = i }) whole

  pub undo_diff_is : undo_diff m ≡ Some (merge last)
  undo_diff_is =
      ap undo_diff seen ∙ undo_diff-append end.stays end.inverses dropped m.redos (ends ss end.stays end.kept) end.some
      ∙ ap Some (same_merge end.inverses last end.same)

  pub after_undo_is : (back : RecordOps) → after_undo back m ≡ record { history = end.stays; redos = record { diff = back; dropped = dropped } ∷ m.redos }
  after_undo_is back = ap (after_undo back) seen ∙ after_undo-append end.stays end.inverses dropped m.redos back (ends ss end.stays end.kept) end.some

-- where the last inverses stand before marks, an undo does those
pub undoes : (n : ℕ) (ss : List Section) (last taken : List RecordOps) (m : Marks) (dropped : List (List ℕ)) → AreTaken n ss last taken → Before ss last m.history dropped
    → undo_diff m ≡ Some (merge taken)
undoes zero ss last taken m dropped there h =
    undo_diff_is ss last m dropped there.1 h ∙ ap (λ ds. Some (merge ds)) (sym there.0)
undoes (suc n) [] last taken m dropped there h = absurd there
undoes (suc n) (s ∷ older) last taken m dropped there h = undoes n older s.before taken m (s.name ∷ dropped) there.1 (before_one s older last m.history dropped there.0 h)

-- where there is none, it does nothing
pub undoes_nothing : (ss : List Section) (last : List RecordOps) (m : Marks) (dropped : List (List ℕ)) → HasNone ss last → Before ss last m.history dropped → undo_diff m ≡ None
undoes_nothing [] last m dropped none h =
    let made : List Item → Marks = λ i. record { history = i; redos = m.redos } in
    ap (λ i. undo_diff (made i)) (h.is ∙ ap (λ i. i ++ map mark dropped) (no_stretch last h.shorter h.kept none)) ∙ undo_diff-marks dropped m.redos
undoes_nothing (s ∷ older) last m dropped none h = undoes_nothing older s.before m (s.name ∷ dropped) none.1 (before_one s older last m.history dropped none.0 h)

-- bail

-- what is kept of a history from a section on
abbrev pub KeptFrom : List Section → List Item → Type 0
KeptFrom [] history = ⊥
KeptFrom (s ∷ older) history = IsKept older s.before history

pub record Bails (n : ℕ) (name : List ℕ) (ss : List Section) (last : List RecordOps) (history : List Item) : Type 0 where
  pub before : List Item
  pub after : List Item
  pub stays : KeptFrom (drop n ss) before
  pub is : history ≡ before ++ mark name ∷ after
  pub last_one : list_any (is_named name) after ≡ false
  pub inverses : AreInverses (filter_map diff_in after)
  pub merges : merge (filter_map diff_in after) ≡ merge (inverses_since n ss last)

none_inverse : (name : List ℕ) (diffs : List RecordOps) → list_any (is_named name) (map inverse diffs) ≡ false
none_inverse name [] = refl
none_inverse name (diff ∷ diffs) = none_inverse name diffs

any-append : (name : List ℕ) (xs ys : List Item) → list_any (is_named name) xs ≡ false → list_any (is_named name) ys ≡ false → list_any (is_named name) (xs ++ ys) ≡ false
any-append name [] ys first later = later
any-append name (x ∷ xs) ys first later =
    elim (is_named name x) as (λ b. (b || list_any (is_named name) xs) ≡ false → (b || list_any (is_named name) (xs ++ ys)) ≡ false) [
      | true ↦ λ no. absurd (cc)
      | false ↦ λ rest. any-append name xs ys rest later
    ] first

differs : (name other : List ℕ) → name ≢ other → bytes_eq name other ≡ false
differs name other apart =
    elim (bytes_eq name other) as (λ b. bytes_eq name other ≡ b → b ≡ false) [ true ↦ λ is. absurd (apart ((bytes_eq-Decides name other).0 is)) | false ↦ λ is. refl ] refl

inverses_left : (xs ys : List RecordOps) → AreInverses (xs ++ ys) → AreInverses xs
inverses_left [] ys each = tt
inverses_left (x ∷ xs) ys each = (each.0, inverses_left xs ys each.1)

inverses_right : (xs ys : List RecordOps) → AreInverses (xs ++ ys) → AreInverses ys
inverses_right [] ys each = each
inverses_right (x ∷ xs) ys each = inverses_right xs ys each.1

since_now : (s : Section) (older : List Section) (last : List RecordOps) (history : List Item) → AreInverses last → IsKept (s ∷ older) last history → Bails zero s.name (s ∷ older) last history
since_now s older last history each is =
    let same : filter_map diff_in is.after ≡ is.stretch.inverses = ap (filter_map diff_in) is.stretch.are ∙ diffs-inverses is.stretch.inverses in
    record {
      before = is.before;
      after = is.after;
      stays = is.older;
      is = is.is;
      last_one = ap (list_any (is_named s.name)) is.stretch.are ∙ none_inverse s.name is.stretch.inverses;
      inverses = subst AreInverses (sym same) is.stretch.each;
      merges = ap merge same ∙ same_merge is.stretch.inverses last is.stretch.same;
    }

since_older : (n : ℕ) (name : List ℕ) (s : Section) (older : List Section) (last : List RecordOps) (history : List Item) (is : IsKept (s ∷ older) last history) → name ≢ s.name
    → AreInverses (inverses_since n older s.before) → AreInverses last → Bails n name older s.before is.before → Bails (suc n) name (s ∷ older) last history
since_older n name s older last history is apart each also h =
    let tail : List Item = mark s.name ∷ is.after in
    let same : filter_map diff_in is.after ≡ is.stretch.inverses = ap (filter_map diff_in) is.stretch.are ∙ diffs-inverses is.stretch.inverses in
    let all : filter_map diff_in (h.after ++ tail) ≡ filter_map diff_in h.after ++ is.stretch.inverses =
    filter_map-append diff_in h.after tail ∙ ap (λ ds. filter_map diff_in h.after ++ ds) same in
    record {
      before = h.before;
      after = h.after ++ tail;
      stays = h.stays;
      is = is.is ∙ ap (λ i. i ++ tail) h.is ∙ append_assoc h.before (mark name ∷ h.after) tail;
      last_one = any-append name h.after tail h.last_one
          (ap (λ b. b || list_any (is_named name) is.after) (differs name s.name apart) ∙ ap (list_any (is_named name)) is.stretch.are ∙ none_inverse name is.stretch.inverses);
      inverses = subst AreInverses (sym all) (inverses_append (filter_map diff_in h.after) is.stretch.inverses h.inverses is.stretch.each);
      merges = ap merge all
          ∙ merges_append (filter_map diff_in h.after) is.stretch.inverses (inverses_since n older s.before) last h.inverses is.stretch.each each also h.merges
          (same_merge is.stretch.inverses last is.stretch.same);
    }

bails : (n : ℕ) (name : List ℕ) (ss : List Section) (last : List RecordOps) (history : List Item) → IsLastNamed n name ss → AreInverses (inverses_since n ss last)
    → IsKept ss last history → Bails n name ss last history
bails n name [] last history there each is = absurd there
bails zero name (s ∷ older) last history there each is = subst (λ k. Bails zero k (s ∷ older) last history) (sym there) (since_now s older last history each is)
bails (suc n) name (s ∷ older) last history there each is =
    let before = inverses_left (inverses_since n older s.before) last each in
    since_older n name s older last history is there.0 before (inverses_right (inverses_since n older s.before) last each)
    (bails n name older s.before is.before there.1 before is.older)

-- of the mark itself, whatever was merged
named : (n : ℕ) (name : List ℕ) (ss : List Section) (last : List RecordOps) (history : List Item) → IsLastNamed n name ss → IsKept ss last history
    → (before : List Item) × (after : List Item) × KeptFrom (drop n ss) before × (history ≡ before ++ mark name ∷ after) × (list_any (is_named name) after ≡ false)
named n name [] last history there is = absurd there
named zero name (s ∷ older) last history there is =
    (is.before, is.after, is.older, is.is ∙ ap (λ k. is.before ++ mark k ∷ is.after) (sym there), ap (list_any (is_named name)) is.stretch.are ∙ none_inverse name is.stretch.inverses)
named (suc n) name (s ∷ older) last history there is =
    let h = named n name older s.before is.before there.1 is.older in
    let tail : List Item = mark s.name ∷ is.after in (
      h.0,
      h.1 ++ tail,
      h.2,
      is.is ∙ ap (λ i. i ++ tail) h.3 ∙ append_assoc h.0 (mark name ∷ h.1) tail,
      any-append name h.1 tail h.4
          (ap (λ b. b || list_any (is_named name) is.after) (differs name s.name there.0) ∙ ap (list_any (is_named name)) is.stretch.are ∙ none_inverse name is.stretch.inverses),
    )

module _ (n : ℕ) (name : List ℕ) (ss : List Section) (last : List RecordOps) (m : Marks) (there : IsLastNamed n name ss) (is : IsKept ss last m.history) where
  pub bail_diff_is : AreInverses (inverses_since n ss last) → bail_diff name m ≡ Some (merge (inverses_since n ss last))
  bail_diff_is each =
      let h = bails n name ss last m.history there each is in
      ap (λ i. bail_diff name (record m { history = i })) h.is ∙ bail_diff-append name h.before h.after m.redos h.last_one ∙ ap Some h.merges

  pub after_bail_is : (before : List Item) × KeptFrom (drop n ss) before × (after_bail name m ≡ record { history = before; redos = [] })
  after_bail_is =
      let h = named n name ss last m.history there is in
      (h.0, h.2, ap (λ i. after_bail name (record m { history = i })) h.3 ∙ after_bail-append name h.0 h.1 m.redos h.4)

none_named : (name : List ℕ) (ss : List Section) (last : List RecordOps) (history : List Item) → NamesNone name ss → IsKept ss last history → list_any (is_named name) history ≡ false
none_named name [] last history none is = ap (list_any (is_named name)) is.are ∙ none_inverse name is.inverses
none_named name (s ∷ older) last history none is =
    ap (list_any (is_named name)) is.is
    ∙ any-append name is.before (mark s.name ∷ is.after) (none_named name older s.before is.before none.1 is.older)
    (ap (λ b. b || list_any (is_named name) is.after) (differs name s.name none.0) ∙ ap (list_any (is_named name)) is.stretch.are ∙ none_inverse name is.stretch.inverses)

pub bails_nothing : (name : List ℕ) (ss : List Section) (last : List RecordOps) (m : Marks) → NamesNone name ss → IsKept ss last m.history → bail_diff name m ≡ None
bails_nothing name ss last m none is = ap (λ b. cond b (Some (merge (filter_map diff_in (after_last (is_named name) m.history)))) None) (none_named name ss last m.history none is)
