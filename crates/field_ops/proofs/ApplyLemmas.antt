-- A patch that is done to a map key by key.
use Rattle.std.proofs.Common.{◌≡◌, ℕ, List, [], ◌∷◌, Option, Some, None, option_map, cond, refl, sym, ap, subst, ◌∙◌}
use Rattle.rooms_val.specs.Data.{Pairs}
use Rattle.rooms_val.specs.Maps.{AreRising, value_at, set_at, ties}
use Rattle.rooms_val.proofs.MapsLemmas.{by_tie, at-seen, at-set_at, at-without_key, order_itself, rising-without_key, same_pairs, taken_first_at}
use Rattle.field_ops.specs.Patched.{edited, value_after}
use Rattle.field_ops.specs.ValueOps.{ValueOpTree, Patch}
use Rattle.field_ops.specs.View.{edit_of, patch_view}
use Rattle.field_ops.specs.declared.value_op.ValueOp.{ValueOp}

-- what is left of a patch makes the target of what is made so far
pub record IsLeft (target : Pairs) (ops : List (List ℕ × ValueOp)) (made : Pairs) : Type 0 where
  pub rises : AreRising ops
  pub at : (q : List ℕ) → value_at target q ≡ value_after (value_at (patch_view ops) q) (value_at made q)

step_on : (e : ValueOpTree) (k q : List ℕ) (rest : Patch) (made : Pairs) → value_at rest k ≡ None
    → value_after (cond (ties q k) (Some e) (value_at rest q)) (value_at made q) ≡ value_after (value_at rest q) (value_at (set_at made k (edited e (value_at made k))) q)
step_on e k q rest made none =
    by_tie (λ t. value_after (cond t (Some e) (value_at rest q)) (value_at made q) ≡ value_after (value_at rest q) (cond t (edited e (value_at made k)) (value_at made q))) q k
    (λ same. ap (λ l. edited e (value_at made l)) same ∙ ap (λ o. value_after o (edited e (value_at made k))) (sym (ap (value_at rest) same ∙ none)))
    refl
    ∙ ap (value_after (value_at rest q)) (sym (at-set_at made k q (edited e (value_at made k))))

-- one key further
pub left_next : (target : Pairs) (ops rest : List (List ℕ × ValueOp)) (x : List ℕ × ValueOp) (made after : Pairs) → ops ≡ x ∷ rest
    → after ≡ set_at made x.0 (edited (edit_of x.1) (value_at made x.0)) → IsLeft target ops made → IsLeft target rest after
left_next target ops rest x made after parts is left =
    let taken = taken_first_at x.0 x ops rest parts left.rises refl in
    let gone : value_at rest x.0 ≡ None = ap (λ es. value_at es x.0) taken.rest_is ∙ at-without_key ops x.0 x.0 ∙ rw (order_itself x.0) refl in
    let none = at-seen edit_of rest x.0 ∙ ap (option_map edit_of) gone in
    record {
      rises = subst AreRising (sym taken.rest_is) (rising-without_key ops x.0 left.rises);
      at = λ q.
          left.at q ∙ ap (λ es. value_after (value_at (patch_view es) q) (value_at made q)) parts
          ∙ step_on (edit_of x.1) x.0 q (patch_view rest) made none
          ∙ ap (λ m. value_after (value_at (patch_view rest) q) (value_at m q)) (sym is);
    }

-- where nothing is left, the target is made
pub left_none : (target : Pairs) (ops : List (List ℕ × ValueOp)) (made : Pairs) → ops ≡ [] → AreRising target → AreRising made → IsLeft target ops made → made ≡ target
left_none target ops made none rising made_rises left =
    same_pairs made target made_rises rising (λ q. sym (left.at q ∙ ap (λ es. value_after (value_at (patch_view es) q) (value_at made q)) none))
