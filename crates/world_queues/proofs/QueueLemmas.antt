-- A list of queues after one of the values that hold them changed.
use Rattle.std.proofs.Common.{◌≡◌, ℕ, ◌<◌, List, [], ◌∷◌, ◌++◌, length, map, drop, get_or, slice_get, slice_set, Option, Some, None, refl, sym, ap, ◌∙◌, arith}
use Rattle.std.specs.Prelude.{option_to_list}
use Rattle.std.proofs.lemmas.List.{map-set, get_or-map, get_or-set_same}
use Rattle.std.proofs.Math.Seq.{map-set_same}
use Rattle.std.proofs.Math.ListN.{length-set}

-- what was taken from the front of a list was its first
first_is : {X : Type 0} (r : Option X) (before after : List X) → before ≡ option_to_list r ++ after → after ≡ drop 1 before → r ≡ slice_get before 0
first_is (Some x) before after is rest = sym (ap (λ xs. slice_get xs 0) is)
first_is None [] after is rest = refl
first_is None (x ∷ before) after is rest = let same = ap length (is ∙ rest) in absurd (omega (arith, same))

module _ {X Y : Type 0} (f : X → List Y) (xs : List X) (k : ℕ) (x y : X) (within : k < length xs) (at : x ≡ get_or xs k x) where
  -- the queue at the place is that of the value there
  pub queue_is : get_or (map f xs) k [] ≡ f x
  queue_is = get_or-map f xs k x [] within ∙ ap f (sym at)

  -- and then that of the value that was set
  pub queue_then : get_or (map f (slice_set xs k y)) k [] ≡ f y
  queue_then =
      let as_long : k < length (slice_set xs k y) = let e = length-set xs k y in omega arith in
      get_or-map f (slice_set xs k y) k x [] as_long ∙ ap f (get_or-set_same xs k y x within)

  pub queue_set : (ys : List Y) → f y ≡ ys → map f (slice_set xs k y) ≡ slice_set (map f xs) k ys
  queue_set ys is = map-set f xs k y ∙ ap (λ q. slice_set (map f xs) k q) is

  -- the queue goes on with more
  pub queue_more : (ys : List Y) → f y ≡ f x ++ ys → map f (slice_set xs k y) ≡ slice_set (map f xs) k (get_or (map f xs) k [] ++ ys)
  queue_more ys is = queue_set (get_or (map f xs) k [] ++ ys) (is ∙ ap (λ q. q ++ ys) (sym queue_is))

  -- nothing of the queues changes
  pub queue_same : f y ≡ f x → map f (slice_set xs k y) ≡ map f xs
  queue_same is = map-set_same f xs k y x (is ∙ ap f at)

  -- the first was taken, if there is one
  pub queue_first : (r : Option Y) → f x ≡ option_to_list r ++ f y → f y ≡ drop 1 (f x) → r ≡ slice_get (get_or (map f xs) k []) 0
  queue_first r is rest = first_is r (f x) (f y) is rest ∙ ap (λ q. slice_get q 0) (sym queue_is)
