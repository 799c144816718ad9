-- Each key asks for keys of lower rank alone, and for no more than 2^20 of them.
use Rattle.std.proofs.Common.{◌≡◌, ℕ, zero, suc, ◌+◌, ◌-◌, ◌^◌, ◌<◌, ◌≤◌, List, [], ◌∷◌, ◌++◌, length, take, Option, Some, None, arith, length-append, refl}
use Rattle.std.specs.Prelude.{Bool, true, false, nat_le, if◌then◌else◌}
use Rattle.std.specs.List.{zip}
use Rattle.std.proofs.lemmas.List.{length-take}
use Rattle.std.proofs.lemmas.Bool.{leb-true}
use Rattle.rooms_val.specs.Data.{Data}
use Rattle.signal_rules.specs.declared.rules.Ask.TheVariants.{Need}
use Rattle.signal_rules.specs.Meaning.{IsLawful, IsDone, limit}
use Rattle.shape_tree.specs.Trees.{most_levels, most_shapes}
use Rattle.tl_rules.specs.declared.key.TlKey.{TlKey}
use Rattle.tl_rules.specs.declared.key.TlKey.TheVariants as key
use Rattle.tl_rules.specs.declared.value.TlValue.{TlValue}
use Rattle.tl_rules.specs.declared.value.TlValue.TheVariants as value
use Rattle.tl_rules.specs.Plans.{ends, asked, chain, values_of}
use Rattle.tl_rules.specs.PlanLaws.{Keeps, keeps-chain, keeps-values, not_both, low_need, done_after}
use Rattle.tl_rules.specs.Answers.{ids_in}
use Rattle.tl_rules.specs.Asking.{bound_plan, count_plan}
use Rattle.tl_rules.specs.Trees.{Listing, each, below, most_at_once, below_known, row_plan, tree_plan}
use Rattle.tl_rules.specs.Boxes.{shape_in, shape_plan, box_plan}
use Rattle.tl_rules.specs.Meaning.{rank_of, plan_of, tl_asks, tl_meaning}

abbrev IsBelow : ℕ → TlKey → Type 0
IsBelow rank next = rank_of next < rank

-- nothing is said of the end
abbrev Any : {A : Type 0} → ℕ → A → Type 0
Any left a = Unit {0}

bound_keeps : (id : List ℕ) → Keeps (IsBelow 1) 2 Any (bound_plan id)
bound_keeps id = (omega arith, λ from. (omega arith, λ to. tt))

count_keeps : (page : List ℕ) → Keeps (IsBelow 2) 1 Any (count_plan page)
count_keeps page = (omega arith, λ tree. tt)

module _ (id : List ℕ) where
  shape_keeps : (levels : ℕ) (shape : Option Data) → Keeps (IsBelow (3 + levels)) (suc most_shapes) Any (shape_plan id levels shape)
  shape_keeps levels None = tt
  shape_keeps zero (Some shape) = tt
  shape_keeps (suc levels) (Some shape) = (
    omega arith,
    λ children.
        keeps-chain (IsBelow (3 + suc levels)) most_shapes Any (values_of (λ child. key.Box child levels) (take most_shapes (ids_in children))) _
        (keeps-values (IsBelow (3 + suc levels)) (λ child. key.Box child levels) (λ child. omega arith) (take most_shapes (ids_in children)) most_shapes
        (most_shapes - length (take most_shapes (ids_in children))) _ (omega (arith, length-take most_shapes (ids_in children))) (λ boxes. tt)),
  )

  box_keeps : (levels : ℕ) → Keeps (IsBelow (3 + levels)) (suc (suc most_shapes)) Any (box_plan id levels)
  box_keeps levels = (omega arith, λ answer. shape_keeps levels (shape_in id answer))

module _ (IsLow : TlKey → Type 0) (low : (id : List ℕ) → IsLow (key.ByParent id)) where
  -- what is listed below an item takes one ask more than it lists
  abbrev IsFrugal : {X : Type 0} → (ℕ → X → Listing) → Type 1
  IsFrugal {X} go = (left n : ℕ) (x : X) (Q : ℕ → List (List ℕ) → Type 0) → left < n
      → ((k : ℕ) (out : List (List ℕ)) → length out ≤ left → n ≤ k + suc (length out) → Q k out) → Keeps IsLow n Q (go left x)

  each_keeps : {X : Type 0} (id_of : X → List ℕ) (go : ℕ → X → Listing) → IsFrugal go → (left n : ℕ) (xs : List X) (Q : ℕ → List (List ℕ) → Type 0) → left ≤ n
      → ((k : ℕ) (out : List (List ℕ)) → length out ≤ left → n ≤ k + length out → Q k out) → Keeps IsLow n Q (each id_of go left xs)
  each_keeps id_of go frugal left n [] Q room q = q n [] (omega arith) (omega arith)
  each_keeps id_of go frugal zero n (x ∷ xs) Q room q = q n [] (omega arith) (omega arith)
  each_keeps id_of go frugal (suc left) n (x ∷ xs) Q room q =
      keeps-chain IsLow n Q (go left x) (λ under. chain (each id_of go (left - length under) xs) (λ more. ends (id_of x ∷ under ++ more)))
      (frugal left n x _ (omega arith) (λ k under short few.
      keeps-chain IsLow k Q (each id_of go (left - length under) xs) (λ more. ends (id_of x ∷ under ++ more))
      (each_keeps id_of go frugal (left - length under) k xs _ (omega arith) (λ j more shorter fewer.
      q j (id_of x ∷ under ++ more) (omega (arith, length-append under more)) (omega (arith, length-append under more))))))

  below_keeps : (levels : ℕ) → IsFrugal (below levels)
  unfolding below
  below_keeps zero left n id Q room q = q n [] (omega arith) (omega arith)
  below_keeps (suc levels) left zero id Q room q = absurd (omega arith)
  below_keeps (suc levels) left (suc n) id Q room q =
      (low id, λ children. each_keeps (λ id. id) (below levels) (below_keeps levels) left n (ids_in children) Q (omega arith) (λ k out short few. q k out short (omega arith)))

  -- where the children are known it takes no more asks than it lists
  known_keeps : (levels : ℕ) → IsFrugal {X = List ℕ × TlValue} (λ room x. each (λ id. id) (below levels) room (ids_in x.1))
  known_keeps levels left n x Q room q =
      each_keeps (λ id. id) (below levels) (below_keeps levels) left n (ids_in x.1) Q (omega arith) (λ k out short few. q k out short (omega arith))

  row_keeps : (levels left : ℕ) (ids : List (List ℕ)) → Keeps IsLow (most_at_once + left) Any (row_plan levels left ids)
  row_keeps levels left ids = by_count (nat_le (length ids) most_at_once) (leb-true (length ids) most_at_once)
    where
      by_count : (b : Bool) → (b ≡ true → length ids ≤ most_at_once) → Keeps IsLow (most_at_once + left) Any (if b then chain (values_of key.ByParent ids) (below_known levels left ids) else each (λ id. id) (below (suc levels)) left ids)
      by_count true few =
          let fits : length ids ≤ most_at_once = few refl in
          keeps-chain IsLow (most_at_once + left) Any (values_of key.ByParent ids) (below_known levels left ids)
          (keeps-values IsLow key.ByParent low ids (most_at_once + left) (most_at_once + left - length ids) _ (omega arith) (λ children.
          each_keeps (λ x. x.0) (λ room x. each (λ id. id) (below levels) room (ids_in x.1)) (known_keeps levels) left (most_at_once + left - length ids) (zip ids children) Any (omega arith) (λ k out short frugal. tt)))
      by_count false few = each_keeps (λ id. id) (below (suc levels)) (below_keeps (suc levels)) left (most_at_once + left) ids Any (omega arith) (λ k out short frugal. tt)

tree_keeps : (page : List ℕ) → Keeps (IsBelow 1) (suc (most_at_once + most_shapes)) Any (tree_plan page)
tree_keeps page = (
  omega arith,
  λ children.
      keeps-chain (IsBelow 1) (most_at_once + most_shapes) Any (row_plan (most_levels - 2) most_shapes (ids_in children)) (λ ids. ends (value.Ids ids))
      (row_keeps (IsBelow 1) (λ id. omega arith) (most_levels - 2) most_shapes (ids_in children)),
)

falls_of : (k next : TlKey) (got : List TlValue) → asked (plan_of k) got ≡ Need next → rank_of next < rank_of k
falls_of (key.Bound id) next got is = low_need (IsBelow 1) 2 Any (bound_plan id) got next (bound_keeps id) is
falls_of (key.Tree page) next got is = low_need (IsBelow 1) (suc (most_at_once + most_shapes)) Any (tree_plan page) got next (tree_keeps page) is
falls_of (key.Count page) next got is = low_need (IsBelow 2) 1 Any (count_plan page) got next (count_keeps page) is
falls_of (key.Box id levels) next got is = low_need (IsBelow (3 + levels)) (suc (suc most_shapes)) Any (box_plan id levels) got next (box_keeps id levels) is
falls_of (key.Rec id) next got is = absurd (not_both is refl)
falls_of (key.ByParent id) next got is = absurd (not_both is refl)
falls_of (key.BoundFrom id) next got is = absurd (not_both is refl)
falls_of (key.BoundTo id) next got is = absurd (not_both is refl)

ends_of : (k : TlKey) (got : List TlValue) → 2 ^ 20 ≤ length got → IsDone (asked (plan_of k) got)
ends_of (key.Bound id) got far = done_after (IsBelow 1) 2 Any (bound_plan id) got (bound_keeps id) (omega arith)
ends_of (key.Tree page) got far = done_after (IsBelow 1) (suc (most_at_once + most_shapes)) Any (tree_plan page) got (tree_keeps page) (omega arith)
ends_of (key.Count page) got far = done_after (IsBelow 2) 1 Any (count_plan page) got (count_keeps page) (omega arith)
ends_of (key.Box id levels) got far = done_after (IsBelow (3 + levels)) (suc (suc most_shapes)) Any (box_plan id levels) got (box_keeps id levels) (omega arith)
ends_of (key.Rec id) got far = tt
ends_of (key.ByParent id) got far = tt
ends_of (key.BoundFrom id) got far = tt
ends_of (key.BoundTo id) got far = tt

pub tl_lawful : IsLawful tl_meaning
unfolding tl_asks limit
tl_lawful = record { falls = falls_of; ends = ends_of }
