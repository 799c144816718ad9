-- The entries of a tree of texts, as a map.
use Rattle.std.proofs.Common.{◌≡◌, ℕ, List, [], ◌∷◌, Bool, true, false, not, cond, Option, Some, None, Less, Equal, Greater, is_eq, refl, sym, ap, ◌∙◌}
use Rattle.std.specs.Ordering.{match_ordering}
use Rattle.std.specs.FinMap.Entries.{by_order}
use Rattle.std.specs.BTreeMap.{insert_entry, is_at}
use Rattle.std.specs.Map.{lookup, remove_entry}
use Rattle.rooms_val.specs.Maps.{order, ties, AreRising, value_at, with_key, without_key}
use Rattle.rooms_val.proofs.MapsLemmas.{by_tie, order_itself, rising_rest, taken_first}

module _ {V : Type 0} where
  pub lookup_is : (es : List (List ℕ × V)) (q : List ℕ) → lookup (is_at (order q)) es ≡ value_at es q
  lookup_is [] q = refl
  lookup_is (e ∷ es) q = ap (cond (ties q e.0) (Some e.1)) (lookup_is es q)

  pub insert_is : (es : List (List ℕ × V)) (k : List ℕ) (v : V) → insert_entry order es k v ≡ with_key es k v
  insert_is [] k v = refl
  insert_is (e ∷ es) k v =
      elim (order k e.0) as (λ o. match_ordering o ((k, v) ∷ e ∷ es) ((e.0, v) ∷ es) (e ∷ insert_entry order es k v) ≡ by_order o ((k, v) ∷ e ∷ es) ((e.0, v) ∷ es) (e ∷ with_key es k v)) [
        | Less ↦ refl
        | Equal ↦ refl
        | Greater ↦ ap (λ rest. e ∷ rest) (insert_is es k v)
      ]

  pub remove_is : (es : List (List ℕ × V)) (q : List ℕ) → AreRising es → remove_entry (is_at (order q)) es ≡ without_key es q
  remove_is [] q rising = refl
  remove_is (e ∷ es) q rising =
      by_tie (λ t. cond t es (e ∷ remove_entry (is_at (order q)) es) ≡ cond (not t) (e ∷ without_key es q) (without_key es q)) q e.0
      (λ same.
      (taken_first e es rising).rest_is
      ∙ ap (λ o. cond (not (is_eq o)) (e ∷ without_key es e.0) (without_key es e.0)) (order_itself e.0)
      ∙ ap (without_key es) (sym same))
      (ap (λ rest. e ∷ rest) (remove_is es q (rising_rest e es rising)))
