-- What a `Marks` keeps, as its calls change it.
use Rattle.std.proofs.Common.{◌≡◌, ◌≢◌, ℕ, zero, suc, ◌+◌, ◌-◌, ◌<◌, ◌≤◌, List, [], ◌∷◌, ◌++◌, length, map, reverse, take, drop, None, refl, sym, ap, subst, ◌∙◌, arith, vec_len, vec_capacity}
use Rattle.std.specs.Global.{Vec}
use Rattle.std.proofs.Math.Seq.{drop-append_seam}
use Rattle.std.proofs.lemmas.List.{append_assoc, append-nil, map-append, reverse-append, length-reverse, length-map, length-drop, take-append-drop}
use Rattle.field_ops.specs.RecordOps.{RecordOps}
use Rattle.doc_model.specs.Marks as model
use Rattle.doc_model.specs.Marks.{Item, mark, Redo, merge_some, after_edit, after_undo, after_redo, after_bail}
use Rattle.undo_marks.specs.Inverses.{IsInverse, AreInverses, unless_empty}
use Rattle.undo_marks.specs.Histories.{Section, IsKept, AreTaken, IsLastNamed}
use Rattle.undo_marks.specs.Kept.{diffs_of, section_of, sections_of, redo_of}
use Rattle.undo_marks.specs.Begun.{nothing, edit, undo, redo, bail, KeepsBegun}
use Rattle.undo_marks.specs.Standing.{Stands, KeepsStanding}
use Rattle.undo_marks.specs.declared.marks.Begun.TheVariants as begun_as
use Rattle.undo_marks.specs.declared.marks.Marked.{Marked}
use Rattle.undo_marks.specs.declared.marks.Undone.{Undone}
use Rattle.undo_marks.specs.declared.marks.Marks.{Marks}
use Rattle.undo_marks.proofs.MergeLemmas.{no_inverse, some_inverse}
use Rattle.undo_marks.proofs.HistoryLemmas.{same_kept, marked, joined_kept}
use Rattle.undo_marks.proofs.BackLemmas.{Before, before_one, end, after_undo_is, KeptFrom, after_bail_is}

-- the newest mark comes first
pub newest_section : (xs : List Marked) (x : Marked) → reverse (map section_of (xs ++ x ∷ [])) ≡ section_of x ∷ reverse (map section_of xs)
newest_section xs x = ap reverse (map-append section_of xs (x ∷ [])) ∙ reverse-append (map section_of xs) (section_of x ∷ [])

-- and what was taken back last
newest_redo : (xs : List Undone) (x : Undone) → reverse (map redo_of (xs ++ x ∷ [])) ≡ redo_of x ∷ reverse (map redo_of xs)
newest_redo xs x = ap reverse (map-append redo_of xs (x ∷ [])) ∙ reverse-append (map redo_of xs) (redo_of x ∷ [])

-- what changes while something begins: nothing that counts
pub stays : (old new : Marks) → new.marked.items ≡ old.marked.items → merge_some (diffs_of new.last) ≡ merge_some (diffs_of old.last) → new.undone.items ≡ old.undone.items → KeepsStanding old new
stays old new same merges also marks h = record {
  history = subst (λ ss. IsKept ss (diffs_of new.last) marks.history) (sym (ap (λ xs. reverse (map section_of xs)) same))
      (same_kept (sections_of old) (diffs_of old.last) (diffs_of new.last) marks.history (sym merges) h.history);
  redos = ap (λ xs. reverse (map redo_of xs)) also ∙ h.redos;
}

pub record IsLike (old new : Marks) : Type 0 where
  pub begun : new.begun ≡ old.begun
  pub settles : old.last.latest ≡ None → new.last.latest ≡ None
  pub merges : merge_some (diffs_of new.last) ≡ merge_some (diffs_of old.last)
  pub marked : new.marked.items ≡ old.marked.items
  pub marked_len : vec_len new.marked ≡ vec_len old.marked
  pub marked_room : vec_capacity old.marked ≤ vec_capacity new.marked
  pub undone : new.undone.items ≡ old.undone.items
  pub undone_len : vec_len new.undone ≡ vec_len old.undone
  pub undone_room : vec_capacity old.undone ≤ vec_capacity new.undone

other_taken : (n : ℕ) (ss : List Section) (last other taken : List RecordOps) → merge_some other ≡ merge_some last → AreTaken n ss last taken → (t : List RecordOps) × AreTaken n ss other t
other_taken zero ss last other taken merges there = (other, (refl, some_inverse other last merges there.1))
other_taken (suc n) [] last other taken merges there = absurd there
other_taken (suc n) (s ∷ older) last other taken merges there = (taken, (no_inverse other last merges there.0, there.1))

pub keeps : (old new : Marks) → IsLike old new → KeepsBegun old new
keeps old new h nothing is = h.begun ∙ is
keeps old new h edit is = record { is = h.begun ∙ is.is; settled = h.settles is.settled }
keeps old new h undo is =
    let found = other_taken is.dropped (sections_of old) (diffs_of old.last) (diffs_of new.last) is.taken h.merges is.there in
    let len = h.undone_len in
    let room = h.undone_room in
    let before = is.for_undone in
    record {
      names = is.names;
      is = h.begun ∙ is.is;
      none = is.none;
      dropped = is.dropped;
      taken = found.0;
      there = subst (λ ss. AreTaken is.dropped ss (diffs_of new.last) found.0) (sym (ap (λ xs. reverse (map section_of xs)) h.marked)) found.1;
      for_names = is.for_names;
      for_undone = omega (arith, len, room, before);
    }
keeps old new h redo is =
    let len = h.marked_len in
    let room = h.marked_room in
    let before = is.for_marks in
    record {
      is = h.begun ∙ is.is;
      settled = h.settles is.settled;
      older = is.older;
      newest = is.newest;
      there = h.undone ∙ is.there;
      for_marks = omega (arith, len, room, before);
    }
keeps old new h (bail name) is = record {
  newer = is.newer;
  is = h.begun ∙ is.is;
  there = subst (λ ss. IsLastNamed is.newer name ss) (sym (ap (λ xs. reverse (map section_of xs)) h.marked)) is.there;
}

-- an edit is done
pub recorded : (old new : Marks) (back : RecordOps) (marks : model.Marks) → new.marked.items ≡ old.marked.items → diffs_of new.last ≡ diffs_of old.last ++ unless_empty back → AreInverses (diffs_of old.last)
    → IsInverse back → new.undone.items ≡ [] → Stands marks old → Stands (after_edit back marks) new
recorded old new back marks same added each is none h = record {
  history = subst (λ ss. IsKept ss (diffs_of new.last) (after_edit back marks).history) (sym (ap (λ xs. reverse (map section_of xs)) same))
      (subst (λ last. IsKept (sections_of old) last (after_edit back marks).history) (sym added) (joined_kept (sections_of old) (diffs_of old.last) back marks.history each is h.history));
  redos = ap (λ xs. reverse (map redo_of xs)) none;
}

-- an undo goes back over marks

pub record Unwinding (first now : Marks) (names : Vec (List ℕ)) : Type 0 where
  pub left : ℕ
  pub taken : List RecordOps
  pub there : AreTaken left (sections_of now) (diffs_of now.last) taken
  pub room : left + vec_len names ≤ vec_capacity names
  pub undone : now.undone ≡ first.undone
  pub begun : now.begun ≡ begun_as.Nothing
  pub histories : (marks : model.Marks) → Stands marks first → Before (sections_of now) (diffs_of now.last) marks.history (reverse names.items)

taken_next : (n : ℕ) (s : Section) (older : List Section) (last taken : List RecordOps) → last ≡ [] → AreTaken n (s ∷ older) last taken → (k : ℕ) × (n ≡ suc k) × AreTaken k older s.before taken
taken_next zero s older last taken none there = absurd (there.1 none)
taken_next (suc n) s older last taken none there = (n, refl, there.1)

taken_none : (n : ℕ) (last taken : List RecordOps) → last ≡ [] → AreTaken n [] last taken → ⊥
taken_none zero last taken none there = there.1 none
taken_none (suc n) last taken none there = there

-- there is a mark where nothing stands after the last
pub unwinds : (first now : Marks) (names : Vec (List ℕ)) → Unwinding first now names → diffs_of now.last ≡ [] → now.marked.items ≡ [] → ⊥
unwinds first now names h none empty =
    taken_none h.left (diffs_of now.last) h.taken none (subst (λ xs. AreTaken h.left (reverse (map section_of xs)) (diffs_of now.last) h.taken) empty h.there)

module _ (first now next : Marks) (names more : Vec (List ℕ)) (x : Marked) (h : Unwinding first now names) (none : diffs_of now.last ≡ []) (split : now.marked.items ≡ next.marked.items ++ x ∷ []) where
  abbrev parts : sections_of now ≡ section_of x ∷ sections_of next
  parts = ap (λ xs. reverse (map section_of xs)) split ∙ newest_section next.marked.items x

  step : (k : ℕ) × (h.left ≡ suc k) × AreTaken k (sections_of next) (diffs_of x.before) h.taken
  step = taken_next h.left (section_of x) (sections_of next) (diffs_of now.last) h.taken none (subst (λ ss. AreTaken h.left ss (diffs_of now.last) h.taken) parts h.there)

  -- there is place for its name
  pub room_next : vec_len names < vec_capacity names
  room_next = let one = step.1 in let room = h.room in omega (arith, one, room)

  pub unwinding_next : next.begun ≡ now.begun → next.last ≡ x.before → next.undone ≡ now.undone → more.items ≡ names.items ++ x.name ∷ [] → vec_len more ≡ vec_len names + 1 → vec_capacity more ≡ vec_capacity names → Unwinding first next more
  unwinding_next begun last undone named len capacity =
      let one = step.1 in
      let room = h.room in
      record {
        left = step.0;
        taken = h.taken;
        there = subst (λ l. AreTaken step.0 (sections_of next) (diffs_of l) h.taken) (sym last) step.2;
        room = omega (arith, one, room, len, capacity);
        undone = undone ∙ h.undone;
        begun = begun ∙ h.begun;
        histories = λ marks is.
            subst (λ l. Before (sections_of next) (diffs_of l) marks.history (reverse more.items)) (sym last)
            (subst (λ ns. Before (sections_of next) (diffs_of x.before) marks.history ns) (sym (ap reverse named ∙ reverse-append names.items (x.name ∷ [])))
            (before_one (section_of x) (sections_of next) (diffs_of now.last) marks.history (reverse names.items) none
            (subst (λ ss. Before ss (diffs_of now.last) marks.history (reverse names.items)) parts (h.histories marks is))));
      }

-- an undo is done
pub unwound : (first now new : Marks) (names : Vec (List ℕ)) (back : RecordOps) (u : Undone) (marks : model.Marks) → Unwinding first now names → diffs_of now.last ≢ []
    → new.marked.items ≡ now.marked.items → diffs_of new.last ≡ [] → u.diff ≡ back → u.names ≡ names → new.undone.items ≡ now.undone.items ++ u ∷ [] → Stands marks first → Stands (after_undo back marks) new
unwound first now new names back u marks h some same none diff named undone is =
    let before = h.histories marks is in
    let ended = end (sections_of now) (diffs_of now.last) marks (reverse names.items) some before in
    subst (λ m. Stands m new) (sym (after_undo_is (sections_of now) (diffs_of now.last) marks (reverse names.items) some before back)) (record {
      history = subst (λ ss. IsKept ss (diffs_of new.last) ended.stays) (sym (ap (λ xs. reverse (map section_of xs)) same)) (subst (λ l. IsKept (sections_of now) l ended.stays) (sym none) ended.kept);
      redos = ap (λ xs. reverse (map redo_of xs)) undone ∙ newest_redo now.undone.items u
          ∙ (λ i. record { diff = diff i; dropped = reverse (named i).items } ∷ reverse (map redo_of (h.undone i).items))
          ∙ ap (λ rs. record { diff = back; dropped = reverse names.items } ∷ rs) is.redos;
    })

-- a redo puts marks back

pub record Rewinding (first now : Marks) (names : Vec (List ℕ)) (all : List (List ℕ)) : Type 0 where
  pub done : List (List ℕ)
  pub split : all ≡ done ++ reverse names.items
  pub room : vec_len now.marked + vec_len names ≤ vec_capacity now.marked
  pub undone : now.undone ≡ first.undone
  pub histories : (history : List Item) → IsKept (sections_of first) (diffs_of first.last) history → IsKept (sections_of now) (diffs_of now.last) (history ++ map mark done)

pub rewinding_first : (first : Marks) (names : Vec (List ℕ)) → vec_len first.marked + vec_len names ≤ vec_capacity first.marked → Rewinding first first names (reverse names.items)
rewinding_first first names room = record {
  done = [];
  split = refl;
  room = room;
  undone = refl;
  histories = λ history is. subst (λ h. IsKept (sections_of first) (diffs_of first.last) h) (sym (append-nil history)) is;
}

pub rewinding_next : (first now next : Marks) (names more : Vec (List ℕ)) (all : List (List ℕ)) (x : Marked) → Rewinding first now names all → names.items ≡ more.items ++ x.name ∷ []
    → vec_len more + 1 ≡ vec_len names → x.before ≡ now.last → next.marked.items ≡ now.marked.items ++ x ∷ [] → vec_len next.marked ≡ vec_len now.marked + 1
    → vec_capacity next.marked ≡ vec_capacity now.marked → diffs_of next.last ≡ [] → next.undone ≡ now.undone → Rewinding first next more all
rewinding_next first now next names more all x h named shorter before added longer capacity none undone =
    let room = h.room in
    record {
      done = h.done ++ x.name ∷ [];
      split = h.split ∙ ap (λ ns. h.done ++ ns) (ap reverse named ∙ reverse-append more.items (x.name ∷ [])) ∙ sym (append_assoc h.done (x.name ∷ []) (reverse more.items));
      room = omega (arith, room, shorter, longer, capacity);
      undone = undone ∙ h.undone;
      histories = λ history is.
          subst (λ ss. IsKept ss (diffs_of next.last) (history ++ map mark (h.done ++ x.name ∷ []))) (sym (ap (λ xs. reverse (map section_of xs)) added ∙ newest_section now.marked.items x))
          (subst (λ l. IsKept (section_of x ∷ sections_of now) l (history ++ map mark (h.done ++ x.name ∷ []))) (sym none)
          (subst (λ l. IsKept (record { before = diffs_of l; name = x.name } ∷ sections_of now) [] (history ++ map mark (h.done ++ x.name ∷ []))) (sym before)
          (subst (λ i. IsKept (record { before = diffs_of now.last; name = x.name } ∷ sections_of now) [] i)
          (append_assoc history (map mark h.done) (mark x.name ∷ []) ∙ ap (λ i. history ++ i) (sym (map-append mark h.done (x.name ∷ []))))
          (marked (sections_of now) (diffs_of now.last) x.name (history ++ map mark h.done) (h.histories history is)))));
    }

-- a redo is done: first is the `Marks` with the inverse and without the newest of what was taken back
pub rewound : (old first now : Marks) (names : Vec (List ℕ)) (all : List (List ℕ)) (back : RecordOps) (newest : Undone) (marks : model.Marks) → Rewinding first now names all → names.items ≡ []
    → all ≡ reverse newest.names.items → first.marked.items ≡ old.marked.items → diffs_of first.last ≡ diffs_of old.last ++ unless_empty back → AreInverses (diffs_of old.last) → IsInverse back
    → old.undone.items ≡ first.undone.items ++ newest ∷ [] → (new : Marks) → new.marked ≡ now.marked → new.last ≡ now.last → new.undone ≡ now.undone → Stands marks old → Stands (after_redo back marks) new
rewound old first now names all back newest marks h empty listed same added each is split new as_marked as_last as_undone stands =
    let redos : redo_of newest ∷ reverse (map redo_of first.undone.items) ≡ marks.redos = sym (newest_redo first.undone.items newest) ∙ ap (λ xs. reverse (map redo_of xs)) (sym split) ∙ stands.redos in
    let done : h.done ≡ reverse newest.names.items = sym (append-nil h.done) ∙ ap (λ ns. h.done ++ reverse ns) (sym empty) ∙ sym h.split ∙ listed in
    let start : IsKept (sections_of first) (diffs_of first.last) (after_edit back marks).history =
    subst (λ ss. IsKept ss (diffs_of first.last) (after_edit back marks).history) (sym (ap (λ xs. reverse (map section_of xs)) same))
    (subst (λ last. IsKept (sections_of old) last (after_edit back marks).history) (sym added) (joined_kept (sections_of old) (diffs_of old.last) back marks.history each is stands.history)) in
    subst (λ rs. Stands (after_redo back (record marks { redos = rs })) new) redos (record {
      history = subst (λ ns. IsKept (sections_of new) (diffs_of new.last) ((after_edit back marks).history ++ map mark ns)) done
          (subst (λ v. IsKept (reverse (map section_of v.items)) (diffs_of new.last) ((after_edit back marks).history ++ map mark h.done)) (sym as_marked)
          (subst (λ l. IsKept (sections_of now) (diffs_of l) ((after_edit back marks).history ++ map mark h.done)) (sym as_last) (h.histories (after_edit back marks).history start)));
      redos = ap (λ v. reverse (map redo_of v.items)) (as_undone ∙ h.undone);
    })

-- a bail is done

within : (n : ℕ) (name : List ℕ) (ss : List Section) → IsLastNamed n name ss → n < length ss
within n name [] there = absurd there
within zero name (s ∷ older) there = omega arith
within (suc n) name (s ∷ older) there = let more = within n name older there.1 in omega arith

pub mark_within : (n : ℕ) (name : List ℕ) (xs : List Marked) → IsLastNamed n name (reverse (map section_of xs)) → n < length xs
mark_within n name xs there = subst (λ k. n < k) (length-reverse (map section_of xs) ∙ length-map xs section_of) (within n name (reverse (map section_of xs)) there)

-- the first marks are the last of the newest first
front : (n : ℕ) (xs : List Marked) → n ≤ length xs → reverse (map section_of (take (length xs - n) xs)) ≡ drop n (reverse (map section_of xs))
front n xs fits =
    let k = length xs - n in
    let tail = reverse (map section_of (drop k xs)) in
    let long : length tail ≡ n = length-reverse (map section_of (drop k xs)) ∙ length-map (drop k xs) section_of ∙ length-drop k xs ∙ omega arith in
    sym (ap (λ l. drop n (reverse (map section_of l))) (sym (take-append-drop k xs))
    ∙ ap (λ l. drop n (reverse l)) (map-append section_of (take k xs) (drop k xs))
    ∙ ap (drop n) (reverse-append (map section_of (take k xs)) (map section_of (drop k xs)))
    ∙ ap (λ m. drop m (tail ++ reverse (map section_of (take k xs)))) (sym long)
    ∙ drop-append_seam tail (reverse (map section_of (take k xs))))

pub bailed : (old new : Marks) (n : ℕ) (name : List ℕ) (x : Marked) (marks : model.Marks) → IsLastNamed n name (sections_of old) → take (length old.marked.items - n) old.marked.items ≡ new.marked.items ++ x ∷ []
    → new.last ≡ x.before → new.undone.items ≡ [] → Stands marks old → Stands (after_bail name marks) new
bailed old new n name x marks there split last none h =
    let fits = mark_within n name old.marked.items there in
    let kept = after_bail_is n name (sections_of old) (diffs_of old.last) marks there h.history in
    let parts : drop n (sections_of old) ≡ section_of x ∷ sections_of new =
    sym (front n old.marked.items (omega arith)) ∙ ap (λ xs. reverse (map section_of xs)) split ∙ newest_section new.marked.items x in
    subst (λ m. Stands m new) (sym kept.2) (record {
      history = subst (λ l. IsKept (sections_of new) (diffs_of l) kept.0) (sym last) (subst (λ ss. KeptFrom ss kept.0) parts kept.1);
      redos = ap (λ xs. reverse (map redo_of xs)) none;
    })
