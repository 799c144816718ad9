-- What can be told of values and diffs: whether two values are the same, and whether a diff is sound.
use Rattle.std.proofs.Common.{◌≡◌, ℕ, zero, suc, ◌<◌, ◌≤◌, ◌^◌, ℤ, length, T, true, false, Bool, List, [], ◌∷◌, ◌⊎◌, inl, inr, Ordering, Less, Equal, Greater, refl, sym, ap, ◌∙◌, arith}
use Rattle.std.proofs.lemmas.Bool.{cases_lt}
use Rattle.std.proofs.lemmas.Slice.Eq.{bytes_eq-Decides}
use Rattle.std.specs.Cmp.{tied_itself}
use Rattle.std.specs.FinMap.Entries.{is_sorted}
use Rattle.std.specs.Prelude.{◌≤ℤ◌, slice_index_or, Contains}
use Rattle.std.specs.Str.{bytes_eq}
use lib.Signed.{le_z}
use Rattle.rooms_val.specs.Data as value
use Rattle.rooms_val.specs.Data.{Data, Items, Members, IsSound, AreSoundItems, AreSoundMembers, items_of, pairs_of}
use Rattle.rooms_val.specs.Maps.{order}
use Rattle.rooms_val.specs.Order.{data_cmp}
use Rattle.rooms_val.specs.OrderLaws.{same_data, data_total}
use Rattle.field_ops.specs.ValueOps as edit
use Rattle.field_ops.specs.ValueOps.{ValueOpTree, ValueOpTrees, patch_of, edits_of, IsSoundEdit, AreSoundEdits}
use Rattle.field_ops.specs.RecordOps as change
use Rattle.field_ops.specs.RecordOps.{RecordOpTree, RecordOps, IsSoundChange, AreSoundChanges, IsSoundDiff}

-- it holds, or it doesn't
abbrev pub Decided : Type 0 → Type 0
Decided P = P ⊎ ¬ P

pub decide_both : {P Q : Type 0} → Decided P → Decided Q → Decided (P × Q)
decide_both (inl p) (inl q) = inl (p, q)
decide_both (inl p) (inr none) = inr (λ h. none h.1)
decide_both (inr none) q = inr (λ h. none h.0)

decide_test : (b : Bool) → Decided (T b)
decide_test true = inl tt
decide_test false = inr (λ t. t)

pub decide_at_most : (m n : ℕ) → Decided (m ≤ n)
decide_at_most m n = elim (cases_lt n m) [
  | inl more ↦ inr (λ most. omega (arith, more, most))
  | inr most ↦ inl most
]

pub decide_true : (b : Bool) → Decided (b ≡ true)
decide_true true = inl refl
decide_true false = inr (λ is. cc)

pub decide_int_at_most : (y z : ℤ) → Decided (y ≤ℤ z)
decide_int_at_most y z = elim (decide_test (le_z y z)) [
  | inl test ↦ inl (record { le = test })
  | inr none ↦ inr (λ most. none most.le)
]

-- one of some texts
pub decide_contains : (texts : List (List ℕ)) (one : List ℕ) → Decided (Contains texts one)
decide_contains [] one = inr (λ found. omega (arith, found.1))
decide_contains (text ∷ texts) one = by (bytes_eq text one) refl (decide_contains texts one)
  where
    apart : bytes_eq text one ≡ false → ¬ Contains texts one → (k : ℕ) → k < length (text ∷ texts) → slice_index_or (text ∷ texts) k one ≡ one → ⊥
    apart isnt none zero within is = let never : false ≡ true = sym isnt ∙ (bytes_eq-Decides text one).1 is in cc
    apart isnt none (suc k) within is = none (k, omega (arith, within), is)

    by : (b : Bool) → bytes_eq text one ≡ b → Decided (Contains texts one) → Decided (Contains (text ∷ texts) one)
    by true is rest = inl (0, omega arith, (bytes_eq-Decides text one).0 is)
    by false isnt (inl found) = inl (suc found.0, omega (arith, found.1), found.2)
    by false isnt (inr none) = inr (λ found. apart isnt none found.0 found.1 found.2)

-- the same value
pub decide_same : (d e : Data) → Decided (d ≡ e)
decide_same d e = by (data_cmp d e) refl
  where
    apart : (o : Ordering) → data_cmp d e ≡ o → (Equal ≡ o → ⊥) → ¬ (d ≡ e)
    apart o is never same = never (sym (tied_itself data_total e) ∙ ap (λ x. data_cmp x e) (sym same) ∙ is)

    by : (o : Ordering) → data_cmp d e ≡ o → Decided (d ≡ e)
    by Equal is = inl (same_data d e is)
    by Less is = inr (apart Less is (λ same. cc))
    by Greater is = inr (apart Greater is (λ same. cc))

mutual
  decide_sound : (d : Data) → Decided (IsSound d)
  decide_sound (value.list ds) = decide_items ds
  decide_sound (value.map ms) = decide_both (decide_test (is_sorted order (pairs_of ms))) (decide_members ms)
  decide_sound d = inl tt

  decide_items : (ds : Items) → Decided (AreSoundItems ds)
  decide_items value.no_items = inl tt
  decide_items (value.item d ds) = decide_both (decide_sound d) (decide_items ds)

  decide_members : (ms : Members) → Decided (AreSoundMembers ms)
  decide_members value.no_members = inl tt
  decide_members (value.member k d ms) = decide_both (decide_sound d) (decide_members ms)

mutual
  decide_edit : (e : ValueOpTree) → Decided (IsSoundEdit e)
  decide_edit (edit.put d) = decide_sound d
  decide_edit (edit.patch es) = decide_both (decide_test (is_sorted order (patch_of es))) (decide_edits es)
  decide_edit (edit.append ds n) = decide_both (decide_items (items_of ds)) (decide_at_most (suc n) (2 ^ 32))
  decide_edit (edit.append_text s n) = decide_at_most (suc n) (2 ^ 32)
  decide_edit edit.delete = inl tt

  decide_edits : (es : ValueOpTrees) → Decided (AreSoundEdits es)
  decide_edits edit.no_edits = inl tt
  decide_edits (edit.edit_at k e es) = decide_both (decide_edit e) (decide_edits es)

decide_change : (c : RecordOpTree) → Decided (IsSoundChange c)
decide_change (change.put d) = decide_sound d
decide_change (change.patch p) = decide_edit (edit.patch (edits_of p))
decide_change change.remove = inl tt

decide_changes : (cs : RecordOps) → Decided (AreSoundChanges cs)
decide_changes [] = inl tt
decide_changes (c ∷ cs) = decide_both (decide_change c.1) (decide_changes cs)

pub decide_diff : (cs : RecordOps) → Decided (IsSoundDiff cs)
decide_diff cs = decide_both (decide_test (is_sorted order cs)) (decide_changes cs)
