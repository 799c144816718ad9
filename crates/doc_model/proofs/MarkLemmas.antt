-- How a history falls into what stays, the inverses that an undo takes back, and the marks that it drops.
use Rattle.std.proofs.Common.{◌≡◌, ℕ, suc, ◌+◌, ◌-◌, ◌<◌, List, [], ◌∷◌, ◌++◌, length, map, reverse, take, drop, filter_map, Bool, true, false, not, ◌&&◌, ◌||◌, ◌≢◌, cond, Some, None, refl, sym, ap, subst, ◌∙◌, arith}
use Rattle.std.proofs.Math.Seq.{drop-append_seam, take-append_seam}
use Rattle.std.specs.List.{prefix_len, suffix_len, list_all, list_any, before_last, after_last}
use Rattle.std.proofs.lemmas.List.{reverse-append, length-append, length-reverse, append_assoc}
use Rattle.std.proofs.lemmas.List.Folds.{list_all-append}
use Rattle.field_ops.specs.RecordOps.{RecordOps}
use Rattle.doc_model.specs.Merging.{merge}
use Rattle.doc_model.specs.Marks.{Item, mark, inverse, Redo, Marks, is_mark, is_inverse, is_named, diff_in, name_in, at_end, before_end, Parts, parts_of, merge_some, undo_diff, after_undo, bail_diff, after_bail}
use Rattle.rooms_val.proofs.Truths.{bytes_eq_itself}

module _ {X : Type 0} (p : X → Bool) where
  -- where all of a first part pass, the count goes on behind it
  prefix_all : (xs ys : List X) → list_all p xs ≡ true → prefix_len p (xs ++ ys) ≡ length xs + prefix_len p ys
  prefix_all [] ys all = omega arith
  prefix_all (x ∷ xs) ys all =
      elim (p x) as (λ b. (b && list_all p xs) ≡ true → cond b (1 + prefix_len p (xs ++ ys)) 0 ≡ suc (length xs) + prefix_len p ys) [
        | true ↦ λ rest. let later : prefix_len p (xs ++ ys) ≡ length xs + prefix_len p ys = prefix_all xs ys rest in omega arith
        | false ↦ λ rest. absurd cc
      ] all

  -- where the first doesn't pass, nothing is counted
  prefix_none : (xs ys : List X) → list_all (λ x. not (p x)) xs ≡ true → 0 < length xs → prefix_len p (xs ++ ys) ≡ 0
  prefix_none [] ys none some = absurd (omega arith)
  prefix_none (x ∷ xs) ys none some =
      elim (p x) as (λ b. (not b && list_all (λ x. not (p x)) xs) ≡ true → cond b (1 + prefix_len p (xs ++ ys)) 0 ≡ 0) [
        | true ↦ λ rest. absurd cc
        | false ↦ λ rest. refl
      ] none

  both_sides : (a b : Bool) → (a && (b && true)) ≡ (b && a)
  both_sides true true = refl
  both_sides true false = refl
  both_sides false true = refl
  both_sides false false = refl

  all-reverse : (xs : List X) → list_all p (reverse xs) ≡ list_all p xs
  all-reverse [] = refl
  all-reverse (x ∷ xs) =
      ap (list_all p) (reverse-append (x ∷ []) xs) ∙ list_all-append p (reverse xs) (x ∷ []) ∙ both_sides (list_all p (reverse xs)) (p x) ∙ ap (λ b. p x && b) (all-reverse xs)

  -- where the first part has nothing at its end that passes, and all of the second passes, that is what stands at the end
  suffix-append : (xs ys : List X) → list_all p ys ≡ true → suffix_len p xs ≡ 0 → suffix_len p (xs ++ ys) ≡ length ys
  suffix-append xs ys all ends =
      ap (prefix_len p) (reverse-append xs ys) ∙ prefix_all (reverse ys) (reverse xs) (all-reverse ys ∙ all)
      ∙ (let same : length (reverse ys) ≡ length ys = length-reverse ys in omega (arith, same, ends))

  place : (xs ys : List X) → list_all p ys ≡ true → suffix_len p xs ≡ 0 → length (xs ++ ys) - suffix_len p (xs ++ ys) ≡ length xs
  place xs ys all ends =
      let n : suffix_len p (xs ++ ys) ≡ length ys = suffix-append xs ys all ends in
      let m : length (xs ++ ys) ≡ length xs + length ys = length-append xs ys in
      omega (arith, n, m)

-- nothing passes at the end of a list whose last part has something, none of which passes
pub suffix_none : {X : Type 0} (p : X → Bool) (xs ys : List X) → list_all (λ y. not (p y)) ys ≡ true → 0 < length ys → suffix_len p (xs ++ ys) ≡ 0
suffix_none p xs ys none some =
    let there : 0 < length (reverse ys) = subst (λ n. 0 < n) (sym (length-reverse ys)) some in
    ap (prefix_len p) (reverse-append xs ys) ∙ prefix_none p (reverse ys) (reverse xs) (all-reverse (λ y. not (p y)) ys ∙ none) there

at_end-append : (p : Item → Bool) (xs ys : List Item) → list_all p ys ≡ true → suffix_len p xs ≡ 0 → at_end p (xs ++ ys) ≡ ys
at_end-append p xs ys all ends = ap (λ n. drop n (xs ++ ys)) (place p xs ys all ends) ∙ drop-append_seam xs ys

before_end-append : (p : Item → Bool) (xs ys : List Item) → list_all p ys ≡ true → suffix_len p xs ≡ 0 → before_end p (xs ++ ys) ≡ xs
before_end-append p xs ys all ends = ap (λ n. take n (xs ++ ys)) (place p xs ys all ends) ∙ take-append_seam xs ys

are_marks : (names : List (List ℕ)) → list_all is_mark (map mark names) ≡ true
are_marks [] = refl
are_marks (name ∷ names) = are_marks names

are_inverses : (diffs : List RecordOps) → list_all is_inverse (map inverse diffs) ≡ true
are_inverses [] = refl
are_inverses (diff ∷ diffs) = are_inverses diffs

are_no_marks : (diffs : List RecordOps) → list_all (λ i. not (is_mark i)) (map inverse diffs) ≡ true
are_no_marks [] = refl
are_no_marks (diff ∷ diffs) = are_no_marks diffs

names-marks : (names : List (List ℕ)) → filter_map name_in (map mark names) ≡ names
names-marks [] = refl
names-marks (name ∷ names) = ap (λ rest. name ∷ rest) (names-marks names)

pub diffs-inverses : (diffs : List RecordOps) → filter_map diff_in (map inverse diffs) ≡ diffs
diffs-inverses [] = refl
diffs-inverses (diff ∷ diffs) = ap (λ rest. diff ∷ rest) (diffs-inverses diffs)

-- the parts of a history that is put together of what is empty or ends in a mark, of some inverses, and of marks
pub parts_of-append : (kept : List Item) (first : RecordOps) (more : List RecordOps) (dropped : List (List ℕ)) → suffix_len is_inverse kept ≡ 0
    → parts_of (kept ++ map inverse (first ∷ more) ++ map mark dropped) ≡ record { kept = kept; taken = first ∷ more; dropped = dropped }
parts_of-append kept first more dropped ends =
    let taken : List Item = map inverse (first ∷ more) in
    let marks : List Item = map mark dropped in
    let some : 0 < length taken = omega arith in
    let no_mark : suffix_len is_mark (kept ++ taken) ≡ 0 = suffix_none is_mark kept taken (are_no_marks (first ∷ more)) some in
    let before : before_end is_mark (kept ++ taken ++ marks) ≡ kept ++ taken = before_end-append is_mark (kept ++ taken) marks (are_marks dropped) no_mark in
    let end : at_end is_mark (kept ++ taken ++ marks) ≡ marks = at_end-append is_mark (kept ++ taken) marks (are_marks dropped) no_mark in
    let left : before_end is_inverse (before_end is_mark (kept ++ taken ++ marks)) ≡ kept =
    ap (before_end is_inverse) before ∙ before_end-append is_inverse kept taken (are_inverses (first ∷ more)) ends in
    let found : filter_map diff_in (at_end is_inverse (before_end is_mark (kept ++ taken ++ marks))) ≡ first ∷ more =
    ap (filter_map diff_in) (ap (at_end is_inverse) before ∙ at_end-append is_inverse kept taken (are_inverses (first ∷ more)) ends) ∙ diffs-inverses (first ∷ more) in
    let names : filter_map name_in (at_end is_mark (kept ++ taken ++ marks)) ≡ dropped = ap (filter_map name_in) end ∙ names-marks dropped in
    λ i. record { kept = left i; taken = found i; dropped = names i }

pub undo_diff-append : (kept : List Item) (taken : List RecordOps) (dropped : List (List ℕ)) (redos : List Redo) → suffix_len is_inverse kept ≡ 0 → taken ≢ []
    → undo_diff (record { history = kept ++ map inverse taken ++ map mark dropped; redos = redos }) ≡ Some (merge taken)
undo_diff-append kept [] dropped redos ends some = absurd (some refl)
undo_diff-append kept (first ∷ more) dropped redos ends some = ap (λ (parts : Parts). merge_some parts.taken) (parts_of-append kept first more dropped ends)

pub after_undo-append : (kept : List Item) (taken : List RecordOps) (dropped : List (List ℕ)) (redos : List Redo) (back : RecordOps) → suffix_len is_inverse kept ≡ 0 → taken ≢ []
    → after_undo back (record { history = kept ++ map inverse taken ++ map mark dropped; redos = redos }) ≡ record { history = kept; redos = record { diff = back; dropped = dropped } ∷ redos }
after_undo-append kept [] dropped redos back ends some = absurd (some refl)
after_undo-append kept (first ∷ more) dropped redos back ends some =
    let made : Parts → Marks = λ parts. record { history = parts.kept; redos = record { diff = back; dropped = parts.dropped } ∷ redos } in
    ap made (parts_of-append kept first more dropped ends)

-- a history of marks alone
pub undo_diff-marks : (names : List (List ℕ)) (redos : List Redo) → undo_diff (record { history = map mark names; redos = redos }) ≡ None
undo_diff-marks names redos = ap (λ rest. merge_some (filter_map diff_in (at_end is_inverse rest))) (before_end-append is_mark [] (map mark names) (are_marks names) refl)

-- the last item that passes
module _ {X : Type 0} (p : X → Bool) (before after : List X) (x : X) (passes : p x ≡ true) (last : list_any p after ≡ false) where
  none_any : (xs : List X) → list_any p xs ≡ false → list_all (λ y. not (p y)) xs ≡ true
  none_any [] none = refl
  none_any (y ∷ ys) none = elim (p y) as (λ b. (b || list_any p ys) ≡ false → (not b && list_all (λ y. not (p y)) ys) ≡ true) [
    | true ↦ λ is. absurd cc
    | false ↦ λ is. none_any ys is
  ] none

  one_end : suffix_len (λ y. not (p y)) (before ++ x ∷ []) ≡ 0
  one_end = suffix_none (λ y. not (p y)) before (x ∷ []) (ap (λ b. not (not b) && true) passes) (omega arith)

  seam : before ++ x ∷ after ≡ (before ++ x ∷ []) ++ after
  seam = sym (append_assoc before (x ∷ []) after)

  after_it : length ((before ++ x ∷ []) ++ after) - suffix_len (λ y. not (p y)) ((before ++ x ∷ []) ++ after) ≡ length (before ++ x ∷ [])
  after_it = place (λ y. not (p y)) (before ++ x ∷ []) after (none_any after last) one_end

  pub after_last-append : after_last p (before ++ x ∷ after) ≡ after
  after_last-append = ap (after_last p) seam ∙ ap (λ n. drop n ((before ++ x ∷ []) ++ after)) after_it ∙ drop-append_seam (before ++ x ∷ []) after

  one_less : length (before ++ x ∷ []) - 1 ≡ length before
  one_less = let n : length (before ++ x ∷ []) ≡ length before + 1 = length-append before (x ∷ []) in omega (arith, n)

  pub before_last-append : before_last p (before ++ x ∷ after) ≡ before
  before_last-append =
      ap (λ xs. take (length xs - suffix_len (λ y. not (p y)) xs - 1) (before ++ x ∷ after)) seam
      ∙ ap (λ n. take (n - 1) (before ++ x ∷ after)) after_it ∙ ap (λ n. take n (before ++ x ∷ after)) one_less ∙ take-append_seam before (x ∷ after)

any_in : {X : Type 0} (p : X → Bool) (before after : List X) (x : X) → p x ≡ true → list_any p (before ++ x ∷ after) ≡ true
any_in p [] after x passes = ap (λ b. b || list_any p after) passes
any_in p (y ∷ before) after x passes = elim (p y) as (λ b. (b || list_any p (before ++ x ∷ after)) ≡ true) [ true ↦ refl | false ↦ any_in p before after x passes ]

pub bail_diff-append : (name : List ℕ) (before after : List Item) (redos : List Redo) → list_any (is_named name) after ≡ false
    → bail_diff name (record { history = before ++ mark name ∷ after; redos = redos }) ≡ Some (merge (filter_map diff_in after))
bail_diff-append name before after redos last =
    let same : is_named name (mark name) ≡ true = bytes_eq_itself name in
    ap (λ b. cond b (Some (merge (filter_map diff_in (after_last (is_named name) (before ++ mark name ∷ after))))) None) (any_in (is_named name) before after (mark name) same)
    ∙ ap (λ items. Some (merge (filter_map diff_in items))) (after_last-append (is_named name) before after (mark name) same last)

pub after_bail-append : (name : List ℕ) (before after : List Item) (redos : List Redo) → list_any (is_named name) after ≡ false
    → after_bail name (record { history = before ++ mark name ∷ after; redos = redos }) ≡ record { history = before; redos = [] }
after_bail-append name before after redos last =
    let made : List Item → Marks = λ items. record { history = items; redos = [] } in
    ap made (before_last-append (is_named name) before after (mark name) (bytes_eq_itself name) last)
