-- A map fits an object's check exactly where there are a check and a value that fits it, or neither, under each key.
use Rattle.std.proofs.Common.{◌≡◌, ℕ, zero, suc, ◌<◌, ◌≤◌, Bor, length, drop, get_or, Result, Ok, Err, is_ok, arith, Bool, true, false, ◌&&◌, ◌||◌, not, cond, T, List, [], ◌∷◌, Option, Some, None, option_map, is_some, Equal, is_eq, refl, sym, ap, subst, ◌∙◌}
use Rattle.std.specs.Prelude.{◌↔◌, codes, IsTrue}
use Rattle.std.specs.Result.{result_err}
use Rattle.std.specs.Option.{option_and_then}
use Rattle.std.specs.Str.{bytes_eq}
use Rattle.std.proofs.lemmas.Map.Text.{is_eq-slice_cmp}
use Rattle.std.proofs.lemmas.Slice.Eq.{bytes_eq-Decides}
use Rattle.rooms_val.proofs.Truths.{iff_same}
use Rattle.rooms_val.specs.Data.{Data, null, boolean, whole, text, list, map, IsSound, Members, Pairs, members_of, pairs_of}
use Rattle.rooms_val.specs.Kinds.{as_text, on_map}
use Rattle.rooms_val.specs.View.{data_of}
use Rattle.rooms_val.specs.declared.val.Val.{Val}
use Rattle.rooms_val.specs.Maps.{order, ties, AreRising, value_at, keys_of, seen}
use Rattle.rooms_val.proofs.DataLemmas.{pairs_of-members_of, members_of-pairs_of}
use Rattle.rooms_val.proofs.MapsLemmas.{by_tie, ties_flip, order_itself, same_pairs, none_later, rising_rest, at-seen, keys_of-seen, rising-seen, option_map-after}
use Rattle.field_ops.specs.ValueOps.{ValueOpTree, Patch, edits_of}
use Rattle.field_ops.specs.View.{patch_view}
use Rattle.field_ops.specs.declared.value_op.ValueOp.{ValueOp}
use Rattle.field_ops.specs.Patched.{patched, value_after}
use Rattle.field_ops.proofs.PatchedLemmas.{at-patched, rising-patched}
use Rattle.record_valid.specs.Tree.{CheckTree, object, Table, rows_of, table_of}
use Rattle.record_valid.specs.View.{tree_of, table_view}
use Rattle.record_valid.specs.declared.tree.Check.{Check}
use Rattle.record_valid.specs.declared.reject.Reject.{Reject}
use Rattle.record_valid.specs.Fits.{Fits, FieldsFit, HasKeys}
use Rattle.record_valid.specs.Faults.{first_fault}
use Rattle.record_valid.specs.Parts.{type_text, is_listed, lacks}
use Rattle.record_valid.specs.Patched.{fit_at, each_named_fits}
use Rattle.record_valid.proofs.FitsLemmas.{law}
use Rattle.record_valid.proofs.FaultsLemmas.{table_of-rows_of}

-- there are a check and a value that fits it, or neither
abbrev pub FitAt : Option (List ℕ) → Option CheckTree → Option Data → Type 0
FitAt kind o u = fit_at kind o u ≡ true

fit_law : (kind : Option (List ℕ)) (c : CheckTree) (d : Data) → FitAt kind (Some c) (Some d) ↔ Fits kind c d
fit_law kind c d =
    let clear = law 1 kind c d in
    elim (first_fault 1 kind c d) as (λ o. ((o ≡ None) ↔ Fits kind c d) → (not (is_some o) ≡ true) ↔ Fits kind c d) [
      | None ↦ λ l. (λ h. l.0 refl, λ h. refl)
      | Some r ↦ λ l. (λ h. (cc), λ f. let none : Some r ≡ None = l.1 f in (cc))
    ] clear

-- a key is listed exactly where something stands under it
listed_at : {V : Type 0} (es : List (List ℕ × V)) (k : List ℕ) → is_listed (keys_of es) k ≡ is_some (value_at es k)
listed_at [] k = refl
listed_at (e ∷ es) k =
    ap (λ b. b || is_listed (keys_of es) k) (sym (is_eq-slice_cmp e.0 k) ∙ ties_flip e.0 k)
    ∙ elim (ties k e.0) as (λ b. (b || is_listed (keys_of es) k) ≡ is_some (cond b (Some e.1) (value_at es k))) [ true ↦ refl | false ↦ listed_at es k ]

-- what one list has and the other doesn't lack, the other has
passed_on : (ws gs : List (List ℕ)) (k : List ℕ) → lacks ws gs ≡ false → is_listed ws k ≡ true → is_listed gs k ≡ true
passed_on [] gs k all here = (cc)
passed_on (w ∷ ws) gs k all here =
    elim (is_listed gs w) as (λ g. is_listed gs w ≡ g → (not g || lacks ws gs) ≡ false → is_listed gs k ≡ true) [
      | true ↦ λ there rest.
          elim (bytes_eq w k) as (λ b. bytes_eq w k ≡ b → (b || is_listed ws k) ≡ true → is_listed gs k ≡ true) [
            | true ↦ λ same later. subst (λ q. is_listed gs q ≡ true) ((bytes_eq-Decides w k).0 same) there
            | false ↦ λ same later. passed_on ws gs k rest later
          ] refl here
      | false ↦ λ there rest. (cc)
    ] refl all

none_lacking : (ws gs : List (List ℕ)) → ((k : List ℕ) → is_listed ws k ≡ true → is_listed gs k ≡ true) → lacks ws gs ≡ false
none_lacking [] gs has = refl
none_lacking (w ∷ ws) gs has =
    ap (λ b. not b || lacks ws gs) (has w (ap (λ b. b || is_listed ws w) ((bytes_eq-Decides w w).1 refl)))
    ∙ none_lacking ws gs (λ k later. has k (elim (bytes_eq w k) as (λ b. (b || is_listed ws k) ≡ true) [ true ↦ refl | false ↦ later ]))

unit : {V : Type 0} → V → Unit {0}
unit v = tt

same_units : {V W : Type 0} (o : Option V) (u : Option W) → is_some o ≡ is_some u → option_map unit o ≡ option_map unit u
same_units None None same = refl
same_units None (Some y) same = (cc)
same_units (Some x) None same = (cc)
same_units (Some x) (Some y) same = refl

-- rising maps that have the same keys list them alike
same_keys : {V W : Type 0} (es : List (List ℕ × V)) (fs : List (List ℕ × W)) → AreRising es → AreRising fs → ((k : List ℕ) → is_some (value_at es k) ≡ is_some (value_at fs k)) → keys_of es ≡ keys_of fs
same_keys es fs rising too same =
    sym (keys_of-seen unit es)
    ∙ ap keys_of (same_pairs (seen unit es) (seen unit fs) (subst T (sym (rising-seen unit es)) rising) (subst T (sym (rising-seen unit fs)) too) (λ q.
    at-seen unit es q ∙ same_units (value_at es q) (value_at fs q) (same q) ∙ sym (at-seen unit fs q)))
    ∙ keys_of-seen unit fs

first_at : {V : Type 0} (e : List ℕ × V) (es : List (List ℕ × V)) → value_at (e ∷ es) e.0 ≡ Some e.1
first_at e es = ap (λ o. cond (is_eq o) (Some e.1) (value_at es e.0)) (order_itself e.0)

fits_some : (kind : Option (List ℕ)) (o : Option CheckTree) (u : Option Data) → FitAt kind o u → is_some o ≡ is_some u
fits_some kind None None h = refl
fits_some kind None (Some d) h = (cc)
fits_some kind (Some c) None h = (cc)
fits_some kind (Some c) (Some d) h = refl

module _ (kind : Option (List ℕ)) where
  fields_law : (t : Table) (ps : Pairs) → keys_of t ≡ keys_of ps → AreRising t → AreRising ps
      → FieldsFit kind (rows_of t) (members_of ps) ↔ ((k : List ℕ) → FitAt kind (value_at t k) (value_at ps k))
  fields_law [] [] same rising too = (λ h k. refl, λ h. tt)
  fields_law [] (p ∷ ps) same rising too = (cc)
  fields_law (e ∷ t) [] same rising too = (cc)
  fields_law (e ∷ t) (p ∷ ps) same rising too =
      let heads : e.0 ≡ p.0 = (cc) in
      let tails : keys_of t ≡ keys_of ps = (cc) in
      let rest = fields_law t ps tails (rising_rest e t rising) (rising_rest p ps too) in
      let here = fit_law kind e.1 p.1 in (
        λ h k. subst (λ q. FitAt kind (value_at (e ∷ t) k) (cond (ties k q) (Some p.1) (value_at ps k))) heads
            (by_tie (λ b. FitAt kind (cond b (Some e.1) (value_at t k)) (cond b (Some p.1) (value_at ps k))) k e.0 (λ is. here.1 h.0) (rest.0 h.1 k)),
        λ h. (
          here.0 (subst (λ o. FitAt kind o (Some p.1)) (first_at e t) (subst (λ u. FitAt kind (value_at (e ∷ t) e.0) u) (ap (value_at (p ∷ ps)) heads ∙ first_at p ps) (h e.0))),
          rest.1 (λ k.
              elim (ties k e.0) as (λ b. ties k e.0 ≡ b → FitAt kind (cond b (Some e.1) (value_at t k)) (cond b (Some p.1) (value_at ps k)) → FitAt kind (value_at t k) (value_at ps k)) [
                | true ↦ λ is _. later_both t ps e p k rising too (tied k e.0 is) (tied k e.0 is ∙ heads)
                | false ↦ λ is fit. fit
              ] refl (subst (λ q. FitAt kind (value_at (e ∷ t) k) (cond (ties k q) (Some p.1) (value_at ps k))) (sym heads) (h k))),
        ),
      )
    where
      tied : (q k : List ℕ) → ties q k ≡ true → q ≡ k
      tied q k is = by_tie (λ b. b ≡ true → q ≡ k) q k (λ same _. same) (λ h. (cc)) is

      later_both : (t : Table) (ps : Pairs) (e : List ℕ × CheckTree) (p : List ℕ × Data) (k : List ℕ) → AreRising (e ∷ t) → AreRising (p ∷ ps) → k ≡ e.0 → k ≡ p.0 → FitAt kind (value_at t k) (value_at ps k)
      later_both t ps e p k rising too is also =
          subst (λ o. FitAt kind o (value_at ps k)) (sym (ap (value_at t) is ∙ none_later e t rising))
          (subst (λ u. FitAt kind None u) (sym (ap (value_at ps) also ∙ none_later p ps too)) refl)

-- a map that fits has a value that fits under each key of the table, and no other key
pub object_law : (t : Table) (ps : Pairs) → AreRising t → AreRising ps
    → Fits None (object (rows_of t)) (map (members_of ps)) ↔ ((k : List ℕ) → FitAt (type_text ps) (value_at t k) (value_at ps k))
object_law t ps rising too =
    let rows = table_of-rows_of t in
    let pairs = pairs_of-members_of ps in
    let keys : HasKeys (rows_of t) (members_of ps) → keys_of t ≡ keys_of ps = λ has.
    let missing = subst (λ es. lacks (keys_of es) (keys_of ps) ≡ false) rows (subst (λ qs. lacks (keys_of (table_of (rows_of t))) (keys_of qs) ≡ false) pairs has.none_missing) in
    let extra = subst (λ es. lacks (keys_of ps) (keys_of es) ≡ false) rows (subst (λ qs. lacks (keys_of qs) (keys_of (table_of (rows_of t))) ≡ false) pairs has.none_extra) in
    same_keys t ps rising too (λ k. sym (listed_at t k) ∙ iff_same _ _ (passed_on (keys_of t) (keys_of ps) k missing) (passed_on (keys_of ps) (keys_of t) k extra) ∙ listed_at ps k) in (
      λ h k. subst (λ qs. FitAt (type_text qs) (value_at t k) (value_at ps k)) pairs ((fields_law _ t ps (keys h.0) rising too).0 h.1 k),
      λ h.
          let same = same_keys t ps rising too (λ k. fits_some _ _ _ (h k)) in
          let itself = none_lacking (keys_of ps) (keys_of ps) (λ k is. is) in (
            record {
              none_missing = subst (λ es. lacks (keys_of es) (keys_of (pairs_of (members_of ps))) ≡ false) (sym rows) (subst (λ qs. lacks (keys_of t) (keys_of qs) ≡ false) (sym pairs) (subst (λ ks. lacks ks (keys_of ps) ≡ false) (sym same) itself));
              none_extra = subst (λ es. lacks (keys_of (pairs_of (members_of ps))) (keys_of es) ≡ false) (sym rows) (subst (λ qs. lacks (keys_of qs) (keys_of t) ≡ false) (sym pairs) (subst (λ ks. lacks (keys_of ps) ks ≡ false) (sym same) itself));
            },
            subst (λ qs. FieldsFit (type_text qs) (rows_of t) (members_of ps)) (sym pairs) ((fields_law _ t ps same rising too).1 h),
          ),
    )

each_true : (kind : Option (List ℕ)) (t : Table) (ps : Pairs) (patch : Patch) → ((k : List ℕ) → FitAt kind (value_at t k) (value_at ps k)) → each_named_fits kind t ps patch ≡ true
each_true kind t ps [] all = refl
each_true kind t ps (e ∷ patch) all = rw (all e.0) (each_true kind t ps patch all)

named : (kind : Option (List ℕ)) (t : Table) (ps : Pairs) (patch : Patch) (k : List ℕ) (op : ValueOpTree) → value_at patch k ≡ Some op → each_named_fits kind t ps patch ≡ true → FitAt kind (value_at t k) (value_at ps k)
named kind t ps [] k op is each = (cc)
named kind t ps (e ∷ patch) k op is each =
    elim (fit_at kind (value_at t e.0) (value_at ps e.0)) as (λ b. fit_at kind (value_at t e.0) (value_at ps e.0) ≡ b → (b && each_named_fits kind t ps patch) ≡ true → FitAt kind (value_at t k) (value_at ps k)) [
      | true ↦ λ fit later. by_tie (λ b. cond b (Some e.1) (value_at patch k) ≡ Some op → FitAt kind (value_at t k) (value_at ps k)) k e.0
          (λ same _. subst (λ q. FitAt kind (value_at t q) (value_at ps q)) (sym same) fit) (λ found. named kind t ps patch k op found later) is
      | false ↦ λ fit later. (cc)
    ] refl each

-- what a patch left of a map that fitted, where it doesn't name the type: the keys that it names decide
pub patched_law : (t : Table) (ps : Pairs) (patch : Patch) → AreRising t → AreRising ps → value_at patch (codes "type") ≡ None
    → Fits None (object (rows_of t)) (map (members_of ps))
    → (each_named_fits (type_text (patched (edits_of patch) ps)) t (patched (edits_of patch) ps) patch ≡ true) ↔ Fits None (object (rows_of t)) (map (members_of (patched (edits_of patch) ps)))
patched_law t ps patch rising too untyped fitted =
    let after = patched (edits_of patch) ps in
    let whole = object_law t after rising (rising-patched (edits_of patch) ps too) in
    let before = (object_law t ps rising too).0 fitted in
    let kind : type_text ps ≡ type_text after = ap (option_and_then as_text) (sym (at-patched patch ps (codes "type") ∙ ap (λ o. value_after o (value_at ps (codes "type"))) untyped)) in (
      λ each. whole.1 (λ k.
          elim (value_at patch k) as (λ o. value_at patch k ≡ o → FitAt (type_text after) (value_at t k) (value_at after k)) [
            | None ↦ λ unnamed.
                subst (λ u. FitAt (type_text after) (value_at t k) u) (sym (at-patched patch ps k ∙ ap (λ o. value_after o (value_at ps k)) unnamed))
                (subst (λ q. FitAt q (value_at t k) (value_at ps k)) kind (before k))
            | Some op ↦ λ is. named _ t after patch k op is each
          ] refl),
      λ fits. each_true _ t after patch (whole.0 fits),
    )

map_law : (f : Pairs → Pairs) (ps : Pairs) (ms : Members) → map (members_of ps) ≡ on_map f (map ms) → ps ≡ f (pairs_of ms)
map_law f ps ms is = sym (pairs_of-members_of ps) ∙ members_same _ _ is ∙ pairs_of-members_of (f (pairs_of ms))
  where
    inside : Data → Pairs
    inside (map ms) = pairs_of ms
    inside _ = []

    members_same : (ms ns : Members) → map ms ≡ map ns → pairs_of ms ≡ pairs_of ns
    members_same ms ns is = ap inside is

-- the same of the value that a patch left of another
pub still_law : (t : Table) (ps : Pairs) (patch : Patch) (fits : Bool) → AreRising t → value_at patch (codes "type") ≡ None → fits ≡ each_named_fits (type_text ps) t ps patch
    → (before : Data) → IsSound before → Fits None (object (rows_of t)) before → map (members_of ps) ≡ on_map (λ f. patched (edits_of patch) f) before
    → IsTrue fits ↔ Fits None (object (rows_of t)) (map (members_of ps))
still_law t ps patch fits rising untyped tells null sound fitted is = absurd fitted
still_law t ps patch fits rising untyped tells (boolean b) sound fitted is = absurd fitted
still_law t ps patch fits rising untyped tells (whole z) sound fitted is = absurd fitted
still_law t ps patch fits rising untyped tells (text s) sound fitted is = absurd fitted
still_law t ps patch fits rising untyped tells (list ds) sound fitted is = absurd fitted
still_law t ps patch fits rising untyped tells (map ms) sound fitted is =
    let left : ps ≡ patched (edits_of patch) (pairs_of ms) = map_law (λ f. patched (edits_of patch) f) ps ms is in
    let tests = patched_law t (pairs_of ms) patch rising sound.0 untyped (subst (λ n. Fits None (object (rows_of t)) (map n)) (sym (members_of-pairs_of ms)) fitted) in
    subst (λ qs. IsTrue fits ↔ Fits None (object (rows_of t)) (map (members_of qs))) (sym left)
    (subst (λ b. IsTrue b ↔ Fits None (object (rows_of t)) (map (members_of (patched (edits_of patch) (pairs_of ms))))) (sym (tells ∙ ap (λ qs. each_named_fits (type_text qs) t qs patch) left)) tests)

-- the loop over what a patch names
module _ (kind : Option (List ℕ)) (t : Table) (ps : Pairs) where
  pub each-at : (es : List (List ℕ × ValueOp)) (i : ℕ) (e : List ℕ × ValueOp) → i < length es → e ≡ get_or es i e
      → each_named_fits kind t ps (patch_view (drop i es)) ≡ (fit_at kind (value_at t e.0) (value_at ps e.0) && each_named_fits kind t ps (patch_view (drop (suc i) es)))
  each-at [] i e within is = absurd (omega arith)
  each-at (x ∷ es) zero e within is = ap (λ y. fit_at kind (value_at t y.0) (value_at ps y.0) && each_named_fits kind t ps (patch_view es)) (sym is)
  each-at (x ∷ es) (suc i) e within is = each-at es i e (omega arith) is

  pub each-end : (es : List (List ℕ × ValueOp)) (i : ℕ) → length es ≤ i → each_named_fits kind t ps (patch_view (drop i es)) ≡ true
  each-end [] zero past = refl
  each-end [] (suc i) past = refl
  each-end (e ∷ es) zero past = absurd (omega arith)
  each-end (e ∷ es) (suc i) past = each-end es i (omega arith)

-- what was looked up in the entries of a table
pub check_at : (es : List (List ℕ × Check)) (t : Table) (k : List ℕ) (o : Option (Bor Check)) → table_view es ≡ t → option_map (λ c. c.now) o ≡ value_at es k → value_at t k ≡ option_map (λ c. tree_of c.now) o
check_at es t k o seen found = sym (ap (λ u. value_at u k) seen) ∙ at-seen tree_of es k ∙ ap (option_map tree_of) (sym found) ∙ sym (option_map-after o (λ c. c.now) tree_of)

pub ok_tells : (r : Result (Unit {0}) Reject) (o : Option Reject) → result_err r ≡ o → is_ok r ≡ not (is_some o)
ok_tells (Ok x) o is = ap (λ u. not (is_some u)) is
ok_tells (Err e) o is = ap (λ u. not (is_some u)) is

pub unnamed_by : {A B : Type 0} (f : A → B) (o : Option A) (v : Option B) → option_map f o ≡ v → is_some o ≡ false → v ≡ None
unnamed_by f None v is none = sym is
unnamed_by f (Some x) v is none = (cc)

pub absent_tells : (kind : Option (List ℕ)) (o : Option (Bor Val)) (b : Bool) → is_some o ≡ not b → b ≡ fit_at kind None (option_map (λ v. data_of v.now) o)
absent_tells kind None true is = refl
absent_tells kind None false is = (cc)
absent_tells kind (Some v) true is = (cc)
absent_tells kind (Some v) false is = refl
