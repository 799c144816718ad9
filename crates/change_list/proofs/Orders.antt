-- Where ids stand in the order of nodes.
use Rattle.std.proofs.Common.{◌≡◌, ℕ, ◌<◌, ◌≤◌, List, length, get_or, map, Result, Ok, Err, Less, Equal, Greater, sym, subst, arith}
use Rattle.std.specs.List.Sorted.{IsSearchInRange, IsBinarySearchResult}
use Rattle.std.specs.Ordering.{ordering_index}
use Rattle.std.proofs.lemmas.List.{get_or-map, length-map}
use Rattle.rooms_val.specs.Maps.{order}

-- a binary search by the keys of numbers finds what one among the keyed numbers finds
pub search_keyed : (f : ℕ → List ℕ × ℕ) (xs : List ℕ) (key : List ℕ) (r : Result ℕ ℕ) → IsSearchInRange r (length xs) → IsBinarySearchResult (λ n. order (f n).0 key) xs r → IsBinarySearchResult (λ e. order e.0 key) (map f xs) r
search_keyed f xs key (Ok p) within equal =
    λ e. subst (λ (y : List ℕ × ℕ). order y.0 key ≡ Equal) (sym (get_or-map f xs p 0 e within)) (equal 0)
search_keyed f xs key (Err p) within parted =
    λ rises. let split = parted (λ i j d le low.
    let left = get_or-map f xs i d (f d) (omega arith) in
    let right = get_or-map f xs j d (f d) low in
    subst (λ (y : List ℕ × ℕ). ordering_index (order y.0 key) ≤ ordering_index (order (f (get_or xs j d)).0 key)) left (subst (λ (y : List ℕ × ℕ). ordering_index (order (get_or (map f xs) i (f d)).0 key) ≤ ordering_index (order y.0 key)) right (rises i j (f d) le (omega (arith, length-map xs f, low))))) in (
      λ k e low high. subst (λ (y : List ℕ × ℕ). order y.0 key ≡ Less) (sym (get_or-map f xs k 0 e (omega arith))) (split.0 k 0 low high),
      λ k e low high. let short : k < length xs = omega (arith, length-map xs f, high) in subst (λ (y : List ℕ × ℕ). order y.0 key ≡ Greater) (sym (get_or-map f xs k 0 e short)) (split.1 k 0 low short),
    )
