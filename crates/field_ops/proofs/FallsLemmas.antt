-- What stands under a key of a patch is no deeper than the patch.
use Rattle.std.proofs.Common.{◌≡◌, ℕ, zero, suc, ◌<◌, ◌≤◌, length, get_or, true, false, cond, not, List, [], ◌∷◌, Option, Some, None, sym, subst, arith}
use Rattle.rooms_val.specs.Maps.{value_at, without_key, IsTaken, ties}
use Rattle.field_ops.specs.ValueOps.{ValueOpTree, edits_of, edit_depth, edits_depth}
use Rattle.field_ops.specs.View.{edit_of, patch_view, maybe_edit}
use Rattle.field_ops.specs.declared.value_op.ValueOp.{ValueOp}

abbrev pub maybe_depth : Option ValueOpTree → ℕ
maybe_depth None = 0
maybe_depth (Some e) = edit_depth e

abbrev pub ops_depth : List (List ℕ × ValueOp) → ℕ
ops_depth es = edits_depth (edits_of (patch_view es))

depth_at : (es : List (List ℕ × ValueOp)) (k : List ℕ) → maybe_depth (maybe_edit (value_at es k)) ≤ ops_depth es
depth_at [] k = omega arith
depth_at (e ∷ es) k = elim (ties k e.0) as (λ b. maybe_depth (maybe_edit (cond b (Some e.1) (value_at es k))) ≤ ops_depth (e ∷ es)) [
  | true ↦ omega arith
  | false ↦ omega (arith, depth_at es k)
]

depth_without : (es : List (List ℕ × ValueOp)) (k : List ℕ) → ops_depth (without_key es k) ≤ ops_depth es
depth_without [] k = omega arith
depth_without (e ∷ es) k = elim (ties k e.0) as (λ b. ops_depth (cond (not b) (e ∷ without_key es k) (without_key es k)) ≤ ops_depth (e ∷ es)) [
  | true ↦ omega (arith, depth_without es k)
  | false ↦ omega (arith, depth_without es k)
]

pub depth_found : (k : List ℕ) (found : Option ValueOp) (all rest : List (List ℕ × ValueOp)) → IsTaken k found all rest → maybe_depth (maybe_edit found) ≤ ops_depth all
depth_found k found all rest taken = subst (λ o. maybe_depth (maybe_edit o) ≤ ops_depth all) (sym taken.found_is) (depth_at all k)

pub depth_rest : (k : List ℕ) (found : Option ValueOp) (all rest : List (List ℕ × ValueOp)) → IsTaken k found all rest → ops_depth rest ≤ ops_depth all
depth_rest k found all rest taken = subst (λ es. ops_depth es ≤ ops_depth all) (sym taken.rest_is) (depth_without all k)

pub depth_place : (es : List (List ℕ × ValueOp)) (i : ℕ) (x : List ℕ × ValueOp) → i < length es → x ≡ get_or es i x → edit_depth (edit_of x.1) ≤ ops_depth es
depth_place [] i x within here = absurd (omega arith)
depth_place (e ∷ es) zero x within here = rw here (omega arith)
depth_place (e ∷ es) (suc i) x within here = omega (arith, depth_place es i x (omega arith) here)
