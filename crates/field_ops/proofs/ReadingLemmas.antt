-- What a value is read as: what was printed is read back, and what is read was printed so.
use Rattle.std.proofs.Common.{◌≡◌, ℕ, ◌<◌, ◌^◌, nat_lt, T, true, false, cond, List, [], ◌∷◌, codes, Option, Some, None, option_map, option_and_then, ◌⊎◌, inl, inr, refl, sym, ap, subst, ◌∙◌, arith}
use Rattle.std.specs.Prelude.{pos, ◌&&◌}
use Rattle.std.specs.Ordering.{is_lt}
use Rattle.std.specs.FinMap.Entries.{is_sorted, below_all}
use Rattle.rooms_val.specs.Maps.{order, AreRising}
use Rattle.std.specs.Str.{bytes_eq}
use Rattle.std.proofs.lemmas.Bool.Decides.{nat_tests}
use Rattle.std.proofs.lemmas.Slice.Eq.{bytes_eq-Decides}
use Rattle.rooms_val.specs.Data as value
use Rattle.rooms_val.specs.Data.{Data, Items, Members, Pairs, list_of, items_of, IsSound, AreSoundItems, AreSoundMembers, members_of, pairs_of}
use Rattle.field_ops.specs.ValueOps as edit
use Rattle.field_ops.specs.ValueOps.{ValueOpTree, ValueOpTrees, patch_of}
use Rattle.field_ops.specs.ValueOps.{edits_of as edits_in_patch, IsSoundEdit, AreSoundEdits}
use Rattle.field_ops.specs.RecordOps as change
use Rattle.field_ops.specs.RecordOps.{RecordOpTree, RecordOps, IsSoundChange, AreSoundChanges, IsSoundDiff}
use Rattle.field_ops.proofs.WireLemmas.{edits_of-patch_of}
use Rattle.rooms_val.proofs.DataLemmas.{pairs_of-members_of, list_of-items_of, members_of-pairs_of}
use Rattle.field_ops.specs.Wire.{edit_data, edits_data}
use Rattle.field_ops.specs.WireRecordOps.{change_data, diff_data, diff_pairs, patch_of-edits_of}
use Rattle.std.specs.Prelude.{Ok, Err}
use Rattle.std.specs.Option.{ok_or}
use Rattle.rooms_val.specs.declared.fault.OpFault.{OpFault}
use Rattle.rooms_val.specs.declared.fault.OpFault.TheVariants.{WrongKind, OutOfMemory}
use Rattle.field_ops.specs.Readings.{if_named, append_of, value_op_of_data, value_ops_of_members, op_of_data, diff_of_pairs, diff_of_data}

-- ---- what is printed is read

put_again : (d : Data) → value_op_of_data (edit_data (edit.put d)) ≡ Some (edit.put d)
put_again value.null = refl
put_again (value.boolean b) = refl
put_again (value.whole z) = refl
put_again (value.text s) = refl
put_again (value.list ds) = refl
put_again (value.map ms) = refl

append_again : (ds : List Data) (n : ℕ) → n < 2 ^ 32 → value_op_of_data (edit_data (edit.append ds n)) ≡ Some (edit.append ds n)
append_again ds n fits =
    let small : nat_lt n (2 ^ 32) ≡ true = grind (arith, nat_tests) in
    rw (small, list_of-items_of ds)

append_text_again : (s : List ℕ) (n : ℕ) → n < 2 ^ 32 → value_op_of_data (edit_data (edit.append_text s n)) ≡ Some (edit.append_text s n)
append_text_again s n fits = let small : nat_lt n (2 ^ 32) ≡ true = grind (arith, nat_tests) in rw small refl

mutual
  pub edit_again : (e : ValueOpTree) → IsSoundEdit e → value_op_of_data (edit_data e) ≡ Some e
  edit_again (edit.put d) sound = put_again d
  edit_again (edit.patch es) sound = ap (λ o. option_map edit.patch o) (edits_again es sound.1)
  edit_again (edit.append ds n) sound = append_again ds n sound.1
  edit_again (edit.append_text s n) sound = append_text_again s n sound
  edit_again edit.delete sound = refl

  pub edits_again : (es : ValueOpTrees) → AreSoundEdits es → value_ops_of_members (edits_data es) ≡ Some es
  edits_again edit.no_edits sound = refl
  edits_again (edit.edit_at k e es) sound = rw (edit_again e sound.0, edits_again es sound.1)

change_put_again : (d : Data) → op_of_data (change_data (change.put d)) ≡ Some (change.put d)
change_put_again value.null = refl
change_put_again (value.boolean b) = refl
change_put_again (value.whole z) = refl
change_put_again (value.text s) = refl
change_put_again (value.list ds) = refl
change_put_again (value.map ms) = refl

pub change_again : (c : RecordOpTree) → IsSoundChange c → op_of_data (change_data c) ≡ Some c
change_again (change.put d) sound = change_put_again d
change_again (change.patch p) sound = rw (edits_again (edits_in_patch p) sound.1, patch_of-edits_of p)
change_again change.remove sound = refl

pub changes_again : (cs : RecordOps) → AreSoundChanges cs → diff_of_pairs (diff_pairs cs) ≡ Some cs
changes_again [] sound = refl
changes_again (c ∷ cs) sound = rw (change_again c.1 sound.0, changes_again cs sound.1)

-- ---- what is read was printed so

-- a name that was tested is the one that is given
named_so : (given name : List ℕ) → bytes_eq name given ≡ true → name ≡ given
named_so given name = (bytes_eq-Decides name given).0

if_named_is : {A : Type 0} (given name : List ℕ) (o : Option A) (x : A) → if_named given name o ≡ Some x → (name ≡ given) × (o ≡ Some x)
if_named_is given name o x = elim (bytes_eq name given) as (λ b. bytes_eq name given ≡ b → cond b o None ≡ Some x → (name ≡ given) × (o ≡ Some x)) [
  | true ↦ λ t h. (named_so given name t, h)
  | false ↦ λ t h. absurd cc
] refl

-- what an option that was mapped held
mapped_from : {A B : Type 0} (f : A → B) (o : Option A) (y : B) → option_map f o ≡ Some y → (x : A) × (o ≡ Some x) × (y ≡ f x)
mapped_from f None y h = absurd cc
mapped_from f (Some x) y h = (x, refl, cc)

both_from : {A B C : Type 0} (f : A → B → C) (o : Option A) (p : Option B) (y : C) → option_and_then (λ a. option_map (f a) p) o ≡ Some y → (a : A) × (b : B) × (o ≡ Some a) × (p ≡ Some b) × (y ≡ f a b)
both_from f None p y h = absurd cc
both_from f (Some a) None y h = absurd cc
both_from f (Some a) (Some b) y h = (a, b, refl, refl, cc)

put_or : {A : Type 0} (name : List ℕ) (a b : Option A) (x : A) → cond (bytes_eq name (codes "put")) a (if_named (codes "patch") name b) ≡ Some x
    → ((name ≡ codes "put") × (a ≡ Some x)) ⊎ ((name ≡ codes "patch") × (b ≡ Some x))
put_or name a b x = elim (bytes_eq name (codes "put")) as (λ t. bytes_eq name (codes "put") ≡ t → cond t a (if_named (codes "patch") name b) ≡ Some x → ((name ≡ codes "put") × (a ≡ Some x)) ⊎ ((name ≡ codes "patch") × (b ≡ Some x))) [
  | true ↦ λ t h. inl (named_so (codes "put") name t, h)
  | false ↦ λ t h. inr (if_named_is (codes "patch") name b x h)
] refl

pub items_again : (ds : Items) → items_of (list_of ds) ≡ ds
items_again value.no_items = refl
items_again (value.item d ds) = ap (value.item d) (items_again ds)

append_read : (name : List ℕ) (ds : Items) (n : ℕ) (e : ValueOpTree) → AreSoundItems ds → append_of name (value.list ds) (value.whole (pos n)) ≡ Some e
    → (value.list (value.item (value.text name) (value.item (value.list ds) (value.item (value.whole (pos n)) value.no_items))) ≡ edit_data e) × IsSoundEdit e
append_read name ds n e sound = elim (nat_lt n (2 ^ 32)) as (λ b. nat_lt n (2 ^ 32) ≡ b → cond b (if_named (codes "append") name (Some (edit.append (list_of ds) n))) None ≡ Some e
    → (value.list (value.item (value.text name) (value.item (value.list ds) (value.item (value.whole (pos n)) value.no_items))) ≡ edit_data e) × IsSoundEdit e) [
      | true ↦ λ t h.
          let fits : n < 2 ^ 32 = grind (arith, nat_tests, t) in
          let p = if_named_is (codes "append") name (Some (edit.append (list_of ds) n)) e h in
          let is : edit.append (list_of ds) n ≡ e = (let same = p.1 in cc) in
          subst (λ x. (value.list (value.item (value.text name) (value.item (value.list ds) (value.item (value.whole (pos n)) value.no_items))) ≡ edit_data x) × IsSoundEdit x) is (
            (λ i. value.list (value.item (value.text (p.0 i)) (value.item (value.list (sym (items_again ds) i)) (value.item (value.whole (pos n)) value.no_items)))),
            (subst AreSoundItems (sym (items_again ds)) sound, fits),
          )
      | false ↦ λ t h. absurd cc
    ] refl

append_text_read : (name s : List ℕ) (n : ℕ) (e : ValueOpTree) → append_of name (value.text s) (value.whole (pos n)) ≡ Some e
    → (value.list (value.item (value.text name) (value.item (value.text s) (value.item (value.whole (pos n)) value.no_items))) ≡ edit_data e) × IsSoundEdit e
append_text_read name s n e = elim (nat_lt n (2 ^ 32)) as (λ b. nat_lt n (2 ^ 32) ≡ b → cond b (if_named (codes "append") name (Some (edit.append_text s n))) None ≡ Some e
    → (value.list (value.item (value.text name) (value.item (value.text s) (value.item (value.whole (pos n)) value.no_items))) ≡ edit_data e) × IsSoundEdit e) [
      | true ↦ λ t h.
          let fits : n < 2 ^ 32 = grind (arith, nat_tests, t) in
          let p = if_named_is (codes "append") name (Some (edit.append_text s n)) e h in
          let is : edit.append_text s n ≡ e = (let same = p.1 in cc) in
          subst (λ x. (value.list (value.item (value.text name) (value.item (value.text s) (value.item (value.whole (pos n)) value.no_items))) ≡ edit_data x) × IsSoundEdit x) is (
            ap (λ t. value.list (value.item (value.text t) (value.item (value.text s) (value.item (value.whole (pos n)) value.no_items)))) p.0,
            fits,
          )
      | false ↦ λ t h. absurd cc
    ] refl

-- a one-part operation, by its name
part_is : (name given : List ℕ) (d : Data) (e : ValueOpTree) → name ≡ given → edit_data e ≡ value.list (value.item (value.text given) (value.item d value.no_items)) → value.list (value.item (value.text name) (value.item d value.no_items)) ≡ edit_data e
part_is name given d e is printed = ap (λ n. value.list (value.item (value.text n) (value.item d value.no_items))) is ∙ sym printed

put_read : (name : List ℕ) (d : Data) (e : ValueOpTree) → IsSound d → if_named (codes "put") name (Some (edit.put d)) ≡ Some e → (value.list (value.item (value.text name) (value.item d value.no_items)) ≡ edit_data e) × IsSoundEdit e
put_read name d e sound h =
    let p = if_named_is (codes "put") name (Some (edit.put d)) e h in
    let is : edit.put d ≡ e = (let same = p.1 in cc) in
    subst (λ x. (value.list (value.item (value.text name) (value.item d value.no_items)) ≡ edit_data x) × IsSoundEdit x) is (part_is name (codes "put") d (edit.put d) p.0 refl, sound)

delete_read : (name : List ℕ) (e : ValueOpTree) → if_named (codes "delete") name (Some edit.delete) ≡ Some e → (value.list (value.item (value.text name) value.no_items) ≡ edit_data e) × IsSoundEdit e
delete_read name e h =
    let p = if_named_is (codes "delete") name (Some edit.delete) e h in
    let is : edit.delete ≡ e = (let same = p.1 in cc) in
    subst (λ x. (value.list (value.item (value.text name) value.no_items) ≡ edit_data x) × IsSoundEdit x) is (ap (λ n. value.list (value.item (value.text n) value.no_items)) p.0, tt)

append_read_any : (name : List ℕ) (d f : Data) (e : ValueOpTree) → IsSound d → append_of name d f ≡ Some e → (value.list (value.item (value.text name) (value.item d (value.item f value.no_items))) ≡ edit_data e) × IsSoundEdit e
append_read_any name (value.list ds) (value.whole (pos n)) e sound h = append_read name ds n e sound h
append_read_any name (value.text s) (value.whole (pos n)) e sound h = append_text_read name s n e h
append_read_any name d f e sound h = absurd cc

-- the keys of a patch are those of its map
below_same : (k : List ℕ) (es : ValueOpTrees) → below_all order k (patch_of es) ≡ below_all order k (pairs_of (edits_data es))
below_same k edit.no_edits = refl
below_same k (edit.edit_at l e es) = ap (λ b. is_lt (order k l) && b) (below_same k es)

rising_same : (es : ValueOpTrees) → is_sorted order (patch_of es) ≡ is_sorted order (pairs_of (edits_data es))
rising_same edit.no_edits = refl
rising_same (edit.edit_at k e es) = λ i. below_same k es i && rising_same es i

patch_keys : (es : ValueOpTrees) → AreRising (patch_of es) ≡ AreRising (pairs_of (edits_data es))
patch_keys es = ap T (rising_same es)

mutual
  pub edit_read : (d : Data) (e : ValueOpTree) → IsSound d → value_op_of_data d ≡ Some e → (d ≡ edit_data e) × IsSoundEdit e
  edit_read (value.list (value.item (value.text name) value.no_items)) e sound h = delete_read name e h
  edit_read (value.list (value.item (value.text name) (value.item (value.map ms) value.no_items))) e sound h =
      elim (put_or name (Some (edit.put (value.map ms))) (option_map edit.patch (value_ops_of_members ms)) e h) [
        | inl p ↦
            let is : edit.put (value.map ms) ≡ e = (let same = p.1 in cc) in
            subst (λ x. (value.list (value.item (value.text name) (value.item (value.map ms) value.no_items)) ≡ edit_data x) × IsSoundEdit x) is (part_is name (codes "put") (value.map ms) (edit.put (value.map ms)) p.0 refl, sound.1.0)
        | inr p ↦
            let q = mapped_from edit.patch (value_ops_of_members ms) e p.1 in
            let r = edits_read ms q.0 sound.1.0.1 q.1 in
            subst (λ x. (value.list (value.item (value.text name) (value.item (value.map ms) value.no_items)) ≡ edit_data x) × IsSoundEdit x) (sym q.2) (
              ap (λ n. value.list (value.item (value.text n) (value.item (value.map ms) value.no_items))) p.0 ∙ ap (λ m. value.list (value.item (value.text (codes "patch")) (value.item (value.map m) value.no_items))) r.0,
              (subst (λ t. t) (sym (patch_keys q.0)) (subst (λ m. AreRising (pairs_of m)) r.0 sound.1.0.0), r.1),
            )
      ]
  edit_read (value.list (value.item (value.text name) (value.item value.null value.no_items))) e sound h = put_read name value.null e sound.1.0 h
  edit_read (value.list (value.item (value.text name) (value.item (value.boolean b) value.no_items))) e sound h = put_read name (value.boolean b) e sound.1.0 h
  edit_read (value.list (value.item (value.text name) (value.item (value.whole z) value.no_items))) e sound h = put_read name (value.whole z) e sound.1.0 h
  edit_read (value.list (value.item (value.text name) (value.item (value.text s) value.no_items))) e sound h = put_read name (value.text s) e sound.1.0 h
  edit_read (value.list (value.item (value.text name) (value.item (value.list ds) value.no_items))) e sound h = put_read name (value.list ds) e sound.1.0 h
  edit_read (value.list (value.item (value.text name) (value.item d (value.item f value.no_items)))) e sound h = append_read_any name d f e sound.1.0 h
  edit_read d e sound h = absurd cc

  pub edits_read : (ms : Members) (es : ValueOpTrees) → AreSoundMembers ms → value_ops_of_members ms ≡ Some es → (ms ≡ edits_data es) × AreSoundEdits es
  edits_read value.no_members es sound h =
      let is : edit.no_edits ≡ es = cc in
      subst (λ x. (value.no_members ≡ edits_data x) × AreSoundEdits x) is (refl, tt)
  edits_read (value.member k d ms) es sound h =
      let p = both_from (edit.edit_at k) (value_op_of_data d) (value_ops_of_members ms) es h in
      let q = edit_read d p.0 sound.0 p.2 in
      let r = edits_read ms p.1 sound.1 p.3 in
      subst (λ x. (value.member k d ms ≡ edits_data x) × AreSoundEdits x) (sym p.4) ((λ i. value.member k (q.0 i) (r.0 i)), (q.1, r.1))

-- ---- the same of operations on records

change_part_is : (name given : List ℕ) (d : Data) (c : RecordOpTree) → name ≡ given → change_data c ≡ value.list (value.item (value.text given) (value.item d value.no_items)) → value.list (value.item (value.text name) (value.item d value.no_items)) ≡ change_data c
change_part_is name given d c is printed = ap (λ n. value.list (value.item (value.text n) (value.item d value.no_items))) is ∙ sym printed

record_read : (name : List ℕ) (d : Data) (c : RecordOpTree) → IsSound d → if_named (codes "put") name (Some (change.put d)) ≡ Some c → (value.list (value.item (value.text name) (value.item d value.no_items)) ≡ change_data c) × IsSoundChange c
record_read name d c sound h =
    let p = if_named_is (codes "put") name (Some (change.put d)) c h in
    let is : change.put d ≡ c = (let same = p.1 in cc) in
    subst (λ x. (value.list (value.item (value.text name) (value.item d value.no_items)) ≡ change_data x) × IsSoundChange x) is (change_part_is name (codes "put") d (change.put d) p.0 refl, sound)

remove_read : (name : List ℕ) (c : RecordOpTree) → if_named (codes "remove") name (Some change.remove) ≡ Some c → (value.list (value.item (value.text name) value.no_items) ≡ change_data c) × IsSoundChange c
remove_read name c h =
    let p = if_named_is (codes "remove") name (Some change.remove) c h in
    let is : change.remove ≡ c = (let same = p.1 in cc) in
    subst (λ x. (value.list (value.item (value.text name) value.no_items) ≡ change_data x) × IsSoundChange x) is (ap (λ n. value.list (value.item (value.text n) value.no_items)) p.0, tt)

pub change_read : (d : Data) (c : RecordOpTree) → IsSound d → op_of_data d ≡ Some c → (d ≡ change_data c) × IsSoundChange c
change_read (value.list (value.item (value.text name) value.no_items)) c sound h = remove_read name c h
change_read (value.list (value.item (value.text name) (value.item (value.map ms) value.no_items))) c sound h =
    elim (put_or name (Some (change.put (value.map ms))) (option_map (λ es. change.patch (patch_of es)) (value_ops_of_members ms)) c h) [
      | inl p ↦
          let is : change.put (value.map ms) ≡ c = (let same = p.1 in cc) in
          subst (λ x. (value.list (value.item (value.text name) (value.item (value.map ms) value.no_items)) ≡ change_data x) × IsSoundChange x) is (change_part_is name (codes "put") (value.map ms) (change.put (value.map ms)) p.0 refl, sound.1.0)
      | inr p ↦
          let q = mapped_from (λ es. change.patch (patch_of es)) (value_ops_of_members ms) c p.1 in
          let r = edits_read ms q.0 sound.1.0.1 q.1 in
          let again = edits_of-patch_of q.0 in
          subst (λ x. (value.list (value.item (value.text name) (value.item (value.map ms) value.no_items)) ≡ change_data x) × IsSoundChange x) (sym q.2) (
            ap (λ n. value.list (value.item (value.text n) (value.item (value.map ms) value.no_items))) p.0
                ∙ ap (λ m. value.list (value.item (value.text (codes "patch")) (value.item (value.map m) value.no_items))) (r.0 ∙ ap edits_data (sym again)),
            subst (λ es. AreRising (patch_of es) × AreSoundEdits es) (sym again) (subst (λ t. t) (sym (patch_keys q.0)) (subst (λ m. AreRising (pairs_of m)) r.0 sound.1.0.0), r.1),
          )
    ]
change_read (value.list (value.item (value.text name) (value.item value.null value.no_items))) c sound h = record_read name value.null c sound.1.0 h
change_read (value.list (value.item (value.text name) (value.item (value.boolean b) value.no_items))) c sound h = record_read name (value.boolean b) c sound.1.0 h
change_read (value.list (value.item (value.text name) (value.item (value.whole z) value.no_items))) c sound h = record_read name (value.whole z) c sound.1.0 h
change_read (value.list (value.item (value.text name) (value.item (value.text s) value.no_items))) c sound h = record_read name (value.text s) c sound.1.0 h
change_read (value.list (value.item (value.text name) (value.item (value.list ds) value.no_items))) c sound h = record_read name (value.list ds) c sound.1.0 h
change_read d c sound h = absurd cc

changes_read_each : (ps : Pairs) (cs : RecordOps) → AreSoundMembers (members_of ps) → diff_of_pairs ps ≡ Some cs → (ps ≡ diff_pairs cs) × AreSoundChanges cs
changes_read_each [] cs sound h =
    let is : [] ≡ cs = cc in
    subst (λ x. ([] ≡ diff_pairs x) × AreSoundChanges x) is (refl, tt)
changes_read_each (p ∷ ps) cs sound h =
    let q = both_from (λ c. λ rest. (p.0, c) ∷ rest) (op_of_data p.1) (diff_of_pairs ps) cs h in
    let first = change_read p.1 q.0 sound.0 q.2 in
    let rest = changes_read_each ps q.1 sound.1 q.3 in
    subst (λ x. (p ∷ ps ≡ diff_pairs x) × AreSoundChanges x) (sym q.4) ((λ i. (p.0, first.0 i) ∷ rest.0 i), (first.1, rest.1))

diff_below : (k : List ℕ) (cs : RecordOps) → below_all order k cs ≡ below_all order k (diff_pairs cs)
diff_below k [] = refl
diff_below k (c ∷ cs) = ap (λ b. is_lt (order k c.0) && b) (diff_below k cs)

diff_rising : (cs : RecordOps) → is_sorted order cs ≡ is_sorted order (diff_pairs cs)
diff_rising [] = refl
diff_rising (c ∷ cs) = λ i. diff_below c.0 cs i && diff_rising cs i

-- a sound map that is read as operations is the one that they are printed as
pub changes_read : (ps : Pairs) (cs : RecordOps) → IsSound (value.map (members_of ps)) → diff_of_pairs ps ≡ Some cs → (ps ≡ diff_pairs cs) × IsSoundDiff cs
changes_read ps cs sound h =
    let p = changes_read_each ps cs sound.1 h in
    let rising = subst (λ qs. T (is_sorted order qs)) (pairs_of-members_of ps ∙ p.0) sound.0 in
    (p.0, (subst T (sym (diff_rising cs)) rising, p.1))

-- ---- what readers return

-- a value that an operation is printed as is read as that operation
pub op_found : (d : Data) (c : RecordOpTree) → d ≡ change_data c → IsSoundChange c → ok_or (op_of_data d) WrongKind ≡ Ok c
op_found d c is sound = ap (λ x. ok_or (op_of_data x) WrongKind) is ∙ ap (λ o. ok_or o WrongKind) (change_again c sound)

-- a value that no operation is printed as is read as none
op_unread : (d : Data) → IsSound d → ((c : RecordOpTree) → IsSoundChange c → d ≡ change_data c → ⊥) → op_of_data d ≡ None
op_unread d sound none = elim (op_of_data d) as (λ o. op_of_data d ≡ o → o ≡ None) [
  | None ↦ λ is. refl
  | Some c ↦ λ is. let read = change_read d c sound is in absurd (none c read.1 read.0)
] refl

-- a reader that refuses for another cause than memory refuses what stands for no operation
pub op_refused : (d : Data) (e : OpFault) → IsSound d → (e ≡ WrongKind → (c : RecordOpTree) → IsSoundChange c → d ≡ change_data c → ⊥) → ¬ (e ≡ OutOfMemory) → ok_or (op_of_data d) WrongKind ≡ Err e
op_refused d OutOfMemory sound only other = absurd (other refl)
op_refused d WrongKind sound only other = ap (λ o. ok_or o WrongKind) (op_unread d sound (only refl))

-- a value that a diff is printed as is read as that diff
pub diff_found : (d : Data) (cs : RecordOps) → d ≡ diff_data cs → IsSoundDiff cs → ok_or (diff_of_data d) WrongKind ≡ Ok cs
diff_found d cs is sound =
    ap (λ x. ok_or (diff_of_data x) WrongKind) is ∙ ap (λ ps. ok_or (diff_of_pairs ps) WrongKind) (pairs_of-members_of (diff_pairs cs)) ∙ ap (λ o. ok_or o WrongKind) (changes_again cs sound.1)

map_unread : (ms : Members) → IsSound (value.map ms) → ((cs : RecordOps) → IsSoundDiff cs → value.map ms ≡ diff_data cs → ⊥) → diff_of_pairs (pairs_of ms) ≡ None
map_unread ms sound none = elim (diff_of_pairs (pairs_of ms)) as (λ o. diff_of_pairs (pairs_of ms) ≡ o → o ≡ None) [
  | None ↦ λ is. refl
  | Some cs ↦ λ is.
      let read = changes_read (pairs_of ms) cs (subst (λ x. IsSound (value.map x)) (sym (members_of-pairs_of ms)) sound) is in
      absurd (none cs read.1 (ap value.map (sym (members_of-pairs_of ms) ∙ ap members_of read.0)))
] refl

-- a value that no diff is printed as is read as none
diff_unread : (d : Data) → IsSound d → ((cs : RecordOps) → IsSoundDiff cs → d ≡ diff_data cs → ⊥) → diff_of_data d ≡ None
diff_unread (value.map ms) sound none = map_unread ms sound none
diff_unread value.null sound none = refl
diff_unread (value.boolean b) sound none = refl
diff_unread (value.whole z) sound none = refl
diff_unread (value.text s) sound none = refl
diff_unread (value.list ds) sound none = refl

pub diff_refused : (d : Data) (e : OpFault) → IsSound d → (e ≡ WrongKind → (cs : RecordOps) → IsSoundDiff cs → d ≡ diff_data cs → ⊥) → ¬ (e ≡ OutOfMemory) → ok_or (diff_of_data d) WrongKind ≡ Err e
diff_refused d OutOfMemory sound only other = absurd (other refl)
diff_refused d WrongKind sound only other = ap (λ o. ok_or o WrongKind) (diff_unread d sound (only refl))
