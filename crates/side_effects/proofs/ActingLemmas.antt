-- Each patch of a completed diff acts.
use Rattle.std.proofs.Common.{◌≡◌, ℕ, Bool, true, false, ◌&&◌, cond, List, [], ◌∷◌, Option, Some, None, Result, Ok, Err, refl, sym, ap, subst, ◌∙◌}
use Rattle.std.specs.Prelude.{filter, is_some, is_ok, option_map}
use Rattle.std.specs.List.{list_all, list_any}
use Rattle.std.specs.Option.{option_map_or, option_and_then}
use Rattle.std.specs.Result.{result_err}
use Rattle.rooms_val.specs.Data.{Data, Pairs}
use Rattle.rooms_val.specs.Maps.{value_at, with_key, keys_of, ties}
use Rattle.rooms_val.proofs.MapsLemmas.{ties_same, at-with_key}
use Rattle.field_ops.specs.ValueOps.{Patch}
use Rattle.field_ops.specs.RecordOps.{RecordOpTree, put, patch, remove, RecordOps}
use Rattle.field_ops.specs.Patched.{raw}
use Rattle.schema_core.specs.Tree.{SchemaTree}
use Rattle.schema_core.specs.Admits.{is_admitted, admission, first_fault}
use Rattle.schema_core.specs.declared.row.Scope.{Scope}
use Rattle.schema_core.specs.declared.fault.RecordFault.{RecordFault}
use Rattle.doc_model.specs.Documents.{fold_raw, acts}
use Rattle.doc_store.specs.Checking.{EachPatchActs}
use Rattle.index_keys.specs.Between.{between}
use Rattle.side_effects.specs.Records.{parent_of}
use Rattle.side_effects.specs.Placed.{is_unplaced, placed, unplaced, with_index, greatest_index, put_if_admitted, or_no_key, put_behind, placing, all_placed}
use Rattle.side_effects.specs.Removed.{goes, with_removes}
use Rattle.side_effects.specs.Completed.{no_record, invalid, first_refusal, completed}
use Rattle.side_effects.specs.declared.fault.EditFault.{EditFault}
use Rattle.side_effects.specs.declared.fault.EditFault.TheVariants.{Invalid, NoRecord}
use Rattle.side_effects.proofs.RemovesLemmas.{all_removed, at-all_removed}
use Rattle.side_effects.proofs.CompletedLemmas.{not_err, same_ok, and_then_ok, came}
use Rattle.rooms_val.proofs.Truths.{and_left, and_right}

same_op : (c d : RecordOpTree) → ◌≡◌ {A = Option RecordOpTree} (Some c) (Some d) → c ≡ d
same_op c d is = cc

module _ (rule : List ℕ → RecordOpTree → Option EditFault) where
  -- where a rule refuses no operation, it refuses none that an id is named with
  passes_at : (diff : RecordOps) (q : List ℕ) (c : RecordOpTree) → first_refusal rule diff ≡ None → value_at diff q ≡ Some c → rule q c ≡ None
  passes_at [] q c none is = absurd (let no : None ≡ Some c = is in (cc))
  passes_at (e ∷ diff) q c none is = elim (rule e.0 e.1) as (λ o. rule e.0 e.1 ≡ o → option_map_or (λ f. Some f) o (first_refusal rule diff) ≡ None → rule q c ≡ None) [
    | None ↦ λ here later. elim (ties q e.0) as (λ t. ties q e.0 ≡ t → cond t (Some e.1) (value_at diff q) ≡ Some c → rule q c ≡ None) [
      | true ↦ λ same at. ap (rule q) (sym (same_op e.1 c at)) ∙ ap (λ k. rule k e.1) (ties_same q e.0 same) ∙ here
      | false ↦ λ _ there. passes_at diff q c later there
    ] refl is
    | Some f ↦ λ _ no. absurd (let never : Some f ≡ None = no in (cc))
  ] refl none

  passes_filter : (test : List ℕ × RecordOpTree → Bool) (diff : RecordOps) → first_refusal rule diff ≡ None → first_refusal rule (filter test diff) ≡ None
  passes_filter test [] none = refl
  passes_filter test (e ∷ diff) none = elim (rule e.0 e.1) as (λ o. rule e.0 e.1 ≡ o → option_map_or (λ f. Some f) o (first_refusal rule diff) ≡ None → first_refusal rule (filter test (e ∷ diff)) ≡ None) [
    | None ↦ λ here later. elim (test e) as (λ b. first_refusal rule (cond b (e ∷ filter test diff) (filter test diff)) ≡ None) [
      | true ↦ ap (λ o. option_map_or (λ f. Some f) o (first_refusal rule (filter test diff))) here ∙ passes_filter test diff later
      | false ↦ passes_filter test diff later
    ]
    | Some f ↦ λ _ no. absurd (let never : Some f ≡ None = no in (cc))
  ] refl none

all_filtered : {X : Type 0} (test : X → Bool) (xs : List X) → list_all test (filter test xs) ≡ true
all_filtered test [] = refl
all_filtered test (x ∷ xs) = elim (test x) as (λ b. test x ≡ b → list_all test (cond b (x ∷ filter test xs) (filter test xs)) ≡ true) [
  | true ↦ λ is. ap (λ b. b && list_all test (filter test xs)) is ∙ all_filtered test xs
  | false ↦ λ _. all_filtered test xs
] refl

is_fine : (answer : Result Scope RecordFault) → result_err answer ≡ None → is_ok answer ≡ true
is_fine (Ok scope) none = refl
is_fine (Err fault) none = absurd (let no : Some fault ≡ None = none in (cc))

unmapped : (id : List ℕ) (o : Option RecordFault) → option_map (λ fault. Invalid id fault) o ≡ None → o ≡ None
unmapped id None is = refl
unmapped id (Some fault) is = absurd (let no : Some (Invalid id fault) ≡ None = is in (cc))

module _ (s : SchemaTree) (m : Pairs) where
  fits : (id : List ℕ) (o : Option Data) → is_some o ≡ true → option_and_then (λ d. option_map (λ fault. Invalid id fault) (first_fault s id d)) o ≡ None → option_map_or (is_admitted s id) o false ≡ true
  fits id None there none = absurd (let no : false ≡ true = there in (cc))
  fits id (Some d) there none = is_fine (admission s id d) (unmapped id (first_fault s id d) none)

  is_left : (id : List ℕ) (p : Patch) (r : Option Data) → cond (is_some r) None (Some (NoRecord id)) ≡ None → is_some (raw (patch p) r) ≡ true
  is_left id p None none = absurd (let no : Some (NoRecord id) ≡ None = none in (cc))
  is_left id p (Some d) none = refl

  behind_put : (id : List ℕ) (d : Data) (last : Option (List ℕ)) (op : RecordOpTree) → put_behind s id d last ≡ Ok op → (e : Data) × (op ≡ put e)
  behind_put id d last op is =
      let found = and_then_ok (or_no_key (between last None)) (λ key. put_if_admitted s id (with_index d key)) op is in
      let e = with_index d found.0 in
      elim (first_fault s id e) as (λ o. option_map_or (λ fault. Err (Invalid id fault)) o (Ok (put e)) ≡ Ok op → (e : Data) × (op ≡ put e)) [
        | None ↦ λ same. (e, sym (same_ok (put e) op same))
        | Some fault ↦ λ no. absurd (not_err (Invalid id fault) op no)
      ] found.2

  -- what gets an index stays a put
  placing_put : (n : Pairs) (id : List ℕ) (c op : RecordOpTree) → is_unplaced m id c ≡ true → placing s n id c ≡ Ok op → (e : Data) × (op ≡ put e)
  placing_put n id (put d) op un is = behind_put id d (greatest_index n (parent_of d)) op is
  placing_put n id (patch p) op un is = absurd (let no : false ≡ true = un in (cc))
  placing_put n id remove op un is = absurd (let no : false ≡ true = un in (cc))

  -- an operation put into a diff in which each patch acts, if it is none
  more_act : (diff : RecordOps) (id : List ℕ) (c : RecordOpTree) → ((p : Patch) → c ≡ patch p → ⊥) → EachPatchActs (is_admitted s) m diff → EachPatchActs (is_admitted s) m (with_key diff id c)
  more_act diff id c other each = λ q p is.
      elim (ties q id) as (λ t. cond t (Some c) (value_at diff q) ≡ Some (patch p) → acts (is_admitted s) m q (patch p) ≡ true) [
        | true ↦ λ at. absurd (other p (same_op c (patch p) at))
        | false ↦ λ at. each q p at
      ] (sym (at-with_key diff id q c) ∙ is)

  put_is_other : (c : RecordOpTree) (d : Data) → c ≡ put d → (p : Patch) → c ≡ patch p → ⊥
  put_is_other c d is p at = let no : put d ≡ patch p = sym is ∙ at in cc

  placed_act : (left diff all : RecordOps) → list_all (λ c. is_unplaced m c.0 c.1) left ≡ true → EachPatchActs (is_admitted s) m diff → all_placed s m diff left ≡ Ok all → EachPatchActs (is_admitted s) m all
  placed_act [] diff all un each is = subst (EachPatchActs (is_admitted s) m) (same_ok diff all is) each
  placed_act (c ∷ left) diff all un each is =
      let found = and_then_ok (placing s (fold_raw m diff) c.0 c.1) (λ op. all_placed s m (with_key diff c.0 op) left) all is in
      let new = placing_put (fold_raw m diff) c.0 c.1 found.0 (and_left (is_unplaced m c.0 c.1) (list_all (λ d. is_unplaced m d.0 d.1) left) un) found.1 in
      placed_act left (with_key diff c.0 found.0) all (and_right (is_unplaced m c.0 c.1) (list_all (λ d. is_unplaced m d.0 d.1) left) un) (more_act diff c.0 found.0 (put_is_other found.0 new.0 new.1) each) found.2

  removed_act : (diff : RecordOps) (ids : List (List ℕ)) → EachPatchActs (is_admitted s) m diff → EachPatchActs (is_admitted s) m (all_removed diff ids)
  removed_act diff ids each = λ q p is.
      elim (list_any (ties q) ids) as (λ t. cond t (Some remove) (value_at diff q) ≡ Some (patch p) → acts (is_admitted s) m q (patch p) ≡ true) [
        | true ↦ λ at. absurd (let no : remove ≡ patch p = same_op remove (patch p) at in (cc))
        | false ↦ λ at. each q p at
      ] (sym (at-all_removed ids diff q) ∙ is)

  pub completed_acts : (wanted diff : RecordOps) → completed s m wanted ≡ Ok diff → EachPatchActs (is_admitted s) m diff
  completed_acts wanted diff is =
      let from = came s m wanted diff is in
      let kept : EachPatchActs (is_admitted s) m (placed m wanted) = λ q p at.
      fits q (raw (patch p) (value_at m q))
      (is_left q p (value_at m q) (passes_at (no_record m) (placed m wanted) q (patch p) (passes_filter (no_record m) _ wanted from.there) at))
      (passes_at (invalid s m) (placed m wanted) q (patch p) from.valid at) in
      subst (EachPatchActs (is_admitted s) m) from.removed_all
      (removed_act from.filled (filter (goes m from.filled) (keys_of m))
      (placed_act (unplaced m wanted) (placed m wanted) from.filled (all_filtered (λ c. is_unplaced m c.0 c.1) wanted) kept from.placed_all))
