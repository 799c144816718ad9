-- What is kept of a history, as it changes at its end.
use Rattle.std.proofs.Common.{◌≡◌, ◌≢◌, ℕ, List, [], ◌∷◌, ◌++◌, map, Some, refl, sym, ap, subst, ◌∙◌, arith}
use Rattle.std.specs.List.{suffix_len}
use Rattle.std.proofs.lemmas.List.{append_assoc, append-nil}
use Rattle.field_ops.specs.RecordOps.{RecordOps}
use Rattle.doc_model.specs.Merging.{merge}
use Rattle.doc_model.specs.Marks.{Item, mark, inverse, is_inverse, merge_some, inverse_items}
use Rattle.doc_model.proofs.MarkLemmas.{suffix_none}
use Rattle.undo_marks.specs.Inverses.{IsInverse, AreInverses, unless_empty}
use Rattle.undo_marks.specs.Histories.{Section, IsStretch, IsKept}
use Rattle.undo_marks.proofs.MergeLemmas.{same_merge, merges_append, no_inverse, some_inverse}

-- nothing is a stretch of nothing
pub no_items : IsStretch [] []
no_items = record { inverses = []; each = tt; same = refl; are = refl }

-- what merges to the same is kept as well
same_stretch : (kept other : List RecordOps) (items : List Item) → merge_some kept ≡ merge_some other → IsStretch kept items → IsStretch other items
same_stretch kept other items same is = record { inverses = is.inverses; each = is.each; same = is.same ∙ same; are = is.are }

pub same_kept : (ss : List Section) (last other : List RecordOps) (history : List Item) → merge_some last ≡ merge_some other → IsKept ss last history → IsKept ss other history
same_kept [] last other history same is = same_stretch last other history same is
same_kept (s ∷ older) last other history same is =
    record { before = is.before; after = is.after; older = is.older; stretch = same_stretch last other is.after same is.stretch; is = is.is }

-- a mark begins a stretch
pub marked : (ss : List Section) (last : List RecordOps) (name : List ℕ) (history : List Item) → IsKept ss last history
    → IsKept (record { before = last; name = name } ∷ ss) [] (history ++ mark name ∷ [])
marked ss last name history is = record { before = history; after = []; older = is; stretch = no_items; is = refl }

-- an inverse joins the last stretch

inverses_added : (xs : List RecordOps) (x : RecordOps) → AreInverses xs → IsInverse x → AreInverses (xs ++ x ∷ [])
inverses_added [] x each new = (new, tt)
inverses_added (y ∷ xs) x each new = (each.0, inverses_added xs x each.1 new)

pub inverses_append : (xs ys : List RecordOps) → AreInverses xs → AreInverses ys → AreInverses (xs ++ ys)
inverses_append [] ys each also = also
inverses_append (x ∷ xs) ys each also = (each.0, inverses_append xs ys each.1 also)

map-added : (xs : List RecordOps) (x : RecordOps) → map inverse (xs ++ x ∷ []) ≡ map inverse xs ++ inverse x ∷ []
map-added [] x = refl
map-added (y ∷ xs) x = ap (λ rest. inverse y ∷ rest) (map-added xs x)

-- what is merged with something more is something
some_merge : (xs : List RecordOps) (x : RecordOps) → merge_some (xs ++ x ∷ []) ≡ Some (merge (xs ++ x ∷ []))
some_merge [] x = refl
some_merge (y ∷ xs) x = refl

added_stretch : (kept : List RecordOps) (x : RecordOps) (items : List Item) → AreInverses kept → IsInverse x → IsStretch kept items → IsStretch (kept ++ x ∷ []) (items ++ inverse x ∷ [])
added_stretch kept x items each new is = record {
  inverses = is.inverses ++ x ∷ [];
  each = inverses_added is.inverses x is.each new;
  same = some_merge is.inverses x
      ∙ ap Some (merges_append is.inverses (x ∷ []) kept (x ∷ []) is.each (new, tt) each (new, tt) (same_merge is.inverses kept is.same) refl)
      ∙ sym (some_merge kept x);
  are = ap (λ i. i ++ inverse x ∷ []) is.are ∙ sym (map-added is.inverses x);
}

pub added_kept : (ss : List Section) (last : List RecordOps) (x : RecordOps) (history : List Item) → AreInverses last → IsInverse x → IsKept ss last history
    → IsKept ss (last ++ x ∷ []) (history ++ inverse x ∷ [])
added_kept [] last x history each new is = added_stretch last x history each new is
added_kept (s ∷ older) last x history each new is = record {
  before = is.before;
  after = is.after ++ inverse x ∷ [];
  older = is.older;
  stretch = added_stretch last x is.after each new is.stretch;
  is = ap (λ i. i ++ inverse x ∷ []) is.is ∙ append_assoc is.before (mark s.name ∷ is.after) (inverse x ∷ []);
}

-- where nothing is kept after a mark, the mark is the end of the history
pub no_stretch : (last : List RecordOps) (items : List Item) → IsStretch last items → last ≡ [] → items ≡ []
no_stretch last items is none = is.are ∙ ap (map inverse) (no_inverse is.inverses last is.same none)

-- a history ends in a mark, or is empty
pub ends : (ss : List Section) (history : List Item) → IsKept ss [] history → suffix_len is_inverse history ≡ 0
ends [] history is = ap (suffix_len is_inverse) (no_stretch [] history is refl)
ends (s ∷ older) history is =
    ap (suffix_len is_inverse) (is.is ∙ ap (λ i. is.before ++ mark s.name ∷ i) (no_stretch [] is.after is.stretch refl))
    ∙ suffix_none is_inverse is.before (mark s.name ∷ []) refl (omega arith)

-- a history ends in inverses that merge to those kept
pub record EndsIn (ss : List Section) (last : List RecordOps) (history : List Item) : Type 0 where
  pub stays : List Item
  pub kept : IsKept ss [] stays
  pub inverses : List RecordOps
  pub same : merge_some inverses ≡ merge_some last
  pub some : inverses ≢ []
  pub is : history ≡ stays ++ map inverse inverses

pub ends_in : (ss : List Section) (last : List RecordOps) (history : List Item) → last ≢ [] → IsKept ss last history → EndsIn ss last history
ends_in [] last history some is = record {
  stays = [];
  kept = no_items;
  inverses = is.inverses;
  same = is.same;
  some = some_inverse is.inverses last is.same some;
  is = is.are;
}
ends_in (s ∷ older) last history some is = record {
  stays = is.before ++ mark s.name ∷ [];
  kept = record { before = is.before; after = []; older = is.older; stretch = no_items; is = refl };
  inverses = is.stretch.inverses;
  same = is.stretch.same;
  some = some_inverse is.stretch.inverses last is.stretch.same some;
  is = is.is ∙ ap (λ i. is.before ++ mark s.name ∷ i) is.stretch.are ∙ sym (append_assoc is.before (mark s.name ∷ []) (map inverse is.stretch.inverses));
}

-- the inverse of an edit joins, unless it is empty
pub joined_kept : (ss : List Section) (last : List RecordOps) (x : RecordOps) (history : List Item) → AreInverses last → IsInverse x → IsKept ss last history
    → IsKept ss (last ++ unless_empty x) (history ++ inverse_items x)
joined_kept ss last [] history each new is = subst (λ l. IsKept ss l (history ++ [])) (sym (append-nil last)) (subst (λ h. IsKept ss last h) (sym (append-nil history)) is)
joined_kept ss last (c ∷ x) history each new is = added_kept ss last (c ∷ x) history each new is

-- a mark after what nothing is kept of comes back off the history
pub unmarked : (s : Section) (older : List Section) (last : List RecordOps) (history : List Item) → last ≡ [] → IsKept (s ∷ older) last history
    → (before : List Item) × IsKept older s.before before × (history ≡ before ++ mark s.name ∷ [])
unmarked s older last history none is = (is.before, is.older, is.is ∙ ap (λ i. is.before ++ mark s.name ∷ i) (no_stretch last is.after is.stretch none))
