-- New shapes placed one after another.
use Rattle.std.proofs.Common.{◌≡◌, ℕ, suc, ◌+◌, Bool, true, false, ◌&&◌, cond, List, [], ◌∷◌, ◌++◌, append_assoc, length, Option, Some, None, Result, Ok, Err, refl, sym, ap, ◌∙◌, arith}
use Rattle.std.specs.Prelude.{filter, is_some, not, codes}
use Rattle.rooms_val.proofs.Truths.{and_left, and_right}
use Rattle.rooms_val.specs.Data.{Data, Pairs, text, members_of, map as map_data}
use Rattle.rooms_val.proofs.DataLemmas.{pairs_of-members_of}
use Rattle.rooms_val.specs.Maps.{value_at, with_key, ties, AreRising}
use Rattle.rooms_val.proofs.MapsLemmas.{ties_same, at-with_key, rising-with_key, none_later, rising_rest, same_pairs, put_last}
use Rattle.field_ops.specs.Laws.{raw_after}
use Rattle.field_ops.specs.RecordOps.{RecordOpTree, put, RecordOps}
use Rattle.schema_core.specs.Tree.{SchemaTree}
use Rattle.doc_model.specs.Documents.{fold_raw}
use Rattle.doc_model.proofs.MergeLemmas.{at-fold_raw, rising-fold_raw}
use Rattle.shape_tree.specs.Records.{is_shape}
use Rattle.side_effects.specs.Records.{parent_of, index_of, lacks_index, has}
use Rattle.side_effects.specs.Placed.{is_unplaced, unplaced, placed, with_index, greatest_index, put_behind, and_then, all_placed}
use Rattle.side_effects.specs.Tops.{top_in, raised, AreTops, IsPlacing}
use Rattle.side_effects.specs.declared.fault.EditFault.{EditFault}
use Rattle.side_effects.proofs.FilterLemmas.{ties_with, rising-filter, at-filter, kept_at}
use Rattle.side_effects.proofs.TopLemmas.{greatest_more}

none_there : {A : Type 0} (o : Option A) → not (is_some o) ≡ true → o ≡ None
none_there None is = refl
none_there (Some x) is = absurd (let no : false ≡ true = is in (cc))

-- an operation that stands later has another id than the first
apart : (c : List ℕ × RecordOpTree) (left : RecordOps) (q : List ℕ) (d : RecordOpTree) → AreRising (c ∷ left) → value_at left q ≡ Some d → ties q c.0 ≡ false
apart c left q d rising is = elim (ties q c.0) as (λ b. ties q c.0 ≡ b → b ≡ false) [
  | true ↦ λ same. absurd (let no : None ≡ Some d = sym (none_later c left rising) ∙ ap (value_at left) (sym (ties_same q c.0 same)) ∙ is in (cc))
  | false ↦ λ _. refl
] refl

later_at : (c : List ℕ × RecordOpTree) (left : RecordOps) (q : List ℕ) (d : RecordOpTree) → AreRising (c ∷ left) → value_at left q ≡ Some d → value_at (c ∷ left) q ≡ Some d
later_at c left q d rising is = ap (λ b. cond b (Some c.1) (value_at left q)) (apart c left q d rising is) ∙ is

module _ (m tops : Pairs) (diff : RecordOps) (c : List ℕ × RecordOpTree) (left : RecordOps) (stands : IsPlacing m tops diff (c ∷ left)) where
  pub passes : is_unplaced m c.0 c.1 ≡ false → IsPlacing m tops diff left
  passes isnt = record {
    tops_are = stands.tops_are;
    rising = (stands.rising.0, stands.rising.1, rising_rest c left stands.rising.2);
    fresh = λ q d is unplaced. stands.fresh q d (later_at c left q d stands.rising.2 is) unplaced;
  }

  pub passes_next : (s : SchemaTree) → is_unplaced m c.0 c.1 ≡ false → all_placed s m diff (unplaced m (c ∷ left)) ≡ all_placed s m diff (unplaced m left)
  passes_next s isnt = ap (λ b. all_placed s m diff (cond b (c ∷ unplaced m left) (unplaced m left))) isnt

module _ (m tops : Pairs) (diff : RecordOps) (id : List ℕ) (d : Data) (left : RecordOps) (stands : IsPlacing m tops diff ((id, put d) ∷ left)) (is : is_unplaced m id (put d) ≡ true) where
  absent : value_at m id ≡ None
  absent = none_there (value_at m id) (and_right (is_shape id) (not (has m id)) (and_left (is_shape id && not (has m id)) (lacks_index d) is))

  is_one : is_shape id ≡ true
  is_one = and_left (is_shape id) (not (has m id)) (and_left (is_shape id && not (has m id)) (lacks_index d) is)

  fresh_here : value_at diff id ≡ None
  fresh_here = stands.fresh id (put d) (ap (λ b. cond b (Some (put d)) (value_at left id)) (ties_with id id refl)) is

  absent_so_far : value_at (fold_raw m diff) id ≡ None
  absent_so_far = at-fold_raw diff m id stands.rising.1 ∙ ap (λ o. raw_after o (value_at m id)) fresh_here ∙ absent

  module _ (e : Data) where
    -- the document gets the shape
    after_put : fold_raw m (with_key diff id (put e)) ≡ with_key (fold_raw m diff) id e
    after_put =
        same_pairs _ _ (rising-fold_raw (with_key diff id (put e)) m stands.rising.0) (rising-with_key (fold_raw m diff) id e (rising-fold_raw diff m stands.rising.0)) (λ q.
        at-fold_raw (with_key diff id (put e)) m q (rising-with_key diff id (put e) stands.rising.1)
        ∙ ap (λ o. raw_after o (value_at m q)) (at-with_key diff id q (put e))
        ∙ elim (ties q id) as (λ b. raw_after (cond b (Some (put e)) (value_at diff q)) (value_at m q) ≡ cond b (Some e) (raw_after (value_at diff q) (value_at m q))) [ true ↦ refl | false ↦ refl ]
        ∙ ap (λ o. cond (ties q id) (Some e) o) (sym (at-fold_raw diff m q stands.rising.1))
        ∙ sym (at-with_key (fold_raw m diff) id q e))

    pub puts : (new_tops : Pairs) → ((other : List ℕ) → top_in new_tops other ≡ raised (parent_of e) (index_of e) other (top_in tops other)) → IsPlacing m new_tops (with_key diff id (put e)) left
    puts new_tops are = record {
      tops_are = λ parent.
          are parent
          ∙ ap (raised (parent_of e) (index_of e) parent) (stands.tops_are parent)
          ∙ sym (greatest_more (fold_raw m diff) id e parent absent_so_far (rising-fold_raw diff m stands.rising.0) is_one)
          ∙ ap (λ after. greatest_index after parent) (sym after_put);
      rising = (stands.rising.0, rising-with_key diff id (put e) stands.rising.1, rising_rest (id, put d) left stands.rising.2);
      fresh = λ q c there unplaced.
          at-with_key diff id q (put e)
          ∙ ap (λ b. cond b (Some (put e)) (value_at diff q)) (apart (id, put d) left q c stands.rising.2 there)
          ∙ stands.fresh q c (later_at (id, put d) left q c stands.rising.2 there) unplaced;
    }

  next_is : (s : SchemaTree) (answer : Result RecordOpTree EditFault) → put_behind s id d (top_in tops (parent_of d)) ≡ answer
      → all_placed s m diff (unplaced m ((id, put d) ∷ left)) ≡ and_then answer (λ op. all_placed s m (with_key diff id op) (unplaced m left))
  next_is s answer given =
      ap (λ b. all_placed s m diff (cond b ((id, put d) ∷ unplaced m left) (unplaced m left))) is
      ∙ ap (λ top. and_then (put_behind s id d top) (λ op. all_placed s m (with_key diff id op) (unplaced m left))) (sym (stands.tops_are (parent_of d)))
      ∙ ap (λ a. and_then a (λ op. all_placed s m (with_key diff id op) (unplaced m left))) given

  pub puts_next : (s : SchemaTree) (e : Data) → put_behind s id d (top_in tops (parent_of d)) ≡ Ok (put e) → all_placed s m diff (unplaced m ((id, put d) ∷ left)) ≡ all_placed s m (with_key diff id (put e)) (unplaced m left)
  puts_next s e given = next_is s (Ok (put e)) given

  pub refuses : (s : SchemaTree) (fault : EditFault) → put_behind s id d (top_in tops (parent_of d)) ≡ Err fault → all_placed s m diff (unplaced m ((id, put d) ∷ left)) ≡ Err fault
  refuses s fault given = next_is s (Err fault) given

kept_none : (b : Bool) (o : RecordOpTree) → b ≡ true → cond (not b) (Some o) None ≡ None
kept_none true o is = refl
kept_none false o is = absurd (let no : false ≡ true = is in (cc))

-- at the start nothing is placed
pub starts_placing : (m tops : Pairs) (wanted : RecordOps) → AreRising m → AreRising wanted → AreTops (fold_raw m (placed m wanted)) tops → IsPlacing m tops (placed m wanted) wanted
starts_placing m tops wanted m_rising rising are = record {
  tops_are = are;
  rising = (m_rising, rising-filter (λ x. not (is_unplaced m x.0 x.1)) wanted rising, rising);
  fresh = λ q c is unplaced.
      at-filter (λ x. not (is_unplaced m x.0 x.1)) wanted q rising ∙ ap (kept_at (λ x. not (is_unplaced m x.0 x.1)) q) is ∙ kept_none (is_unplaced m q c) c unplaced;
}

parted : (p : List ℕ × RecordOpTree → Bool) (xs : RecordOps) → length (filter (λ x. not (p x)) xs) ≡ length xs → filter p xs ≡ []
parted p xs same = none_left (filter p xs) (let all = both_lengths xs in omega arith)
  where
    none_left : (ys : RecordOps) → length ys ≡ 0 → ys ≡ []
    none_left [] is = refl
    none_left (y ∷ ys) is = absurd (omega arith)

    both_lengths : (zs : RecordOps) → length (filter p zs) + length (filter (λ x. not (p x)) zs) ≡ length zs
    both_lengths [] = refl
    both_lengths (z ∷ zs) = let rest = both_lengths zs in elim (p z) as (λ b. length (cond b (z ∷ filter p zs) (filter p zs)) + length (cond (not b) (z ∷ filter (λ x. not (p x)) zs) (filter (λ x. not (p x)) zs)) ≡ suc (length zs)) [
      | true ↦ omega arith
      | false ↦ omega arith
    ]

-- where all operations are placed, no new shape lacks an index
pub all_are_placed : (s : SchemaTree) (m : Pairs) (wanted : RecordOps) → length (placed m wanted) ≡ length wanted → all_placed s m (placed m wanted) (unplaced m wanted) ≡ Ok (placed m wanted)
all_are_placed s m wanted same = ap (all_placed s m (placed m wanted)) (parted (λ c. is_unplaced m c.0 c.1) wanted same)

-- one more operation is kept, or passed over
pub kept_next : (m : Pairs) (done new : RecordOps) (c : List ℕ × RecordOpTree) (left : RecordOps) → AreRising (done ++ placed m (c ∷ left)) → new ≡ cond (is_unplaced m c.0 c.1) done (with_key done c.0 c.1)
    → new ++ placed m left ≡ done ++ placed m (c ∷ left)
kept_next m done new c left rising is =
    ap (λ d. d ++ placed m left) is
    ∙ elim (is_unplaced m c.0 c.1) as (λ b. AreRising (done ++ cond (not b) (c ∷ placed m left) (placed m left)) → cond b done (with_key done c.0 c.1) ++ placed m left ≡ done ++ cond (not b) (c ∷ placed m left) (placed m left)) [
      | true ↦ λ _. refl
      | false ↦ λ rises. ap (λ d. d ++ placed m left) (put_last done c.0 c.1 (placed m left) rises) ∙ append_assoc done (c ∷ []) (placed m left)
    ] rising

pub rising-placed : (m : Pairs) (wanted : RecordOps) → AreRising wanted → AreRising (placed m wanted)
rising-placed m wanted rising = rising-filter (λ x. not (is_unplaced m x.0 x.1)) wanted rising

pub indexed_map : (fields new : Pairs) (d : Data) (key k : List ℕ) → map_data (members_of fields) ≡ d → k ≡ codes "index" → new ≡ with_key fields k (text key) → map_data (members_of new) ≡ with_index d key
indexed_map fields new d key k is index done =
    ap (λ ps. map_data (members_of ps)) (done ∙ ap (λ i. with_key fields i (text key)) index)
    ∙ ap (λ ps. map_data (members_of (with_key ps (codes "index") (text key)))) (sym (pairs_of-members_of fields))
    ∙ ap (λ x. with_index x key) is
