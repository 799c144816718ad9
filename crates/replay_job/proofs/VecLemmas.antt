-- A `Vec` of each list that isn't too long.
use Rattle.std.proofs.Common.{◌≡◌, ◌<◌, ◌^◌, nat_lt, Bool, true, false, List, [], length, if◌then◌else◌, refl, ap, arith}
use Rattle.std.proofs.lemmas.Bool.Decides.{nat_tests}
use Rattle.std.specs.Global.{Vec, Box, Global}
use Rattle.std.specs.Ptr.{null_ptr}

-- a `Vec` of these, if it may have as many
abbrev pub fitted : {X : Type 0} → List X → List X
fitted xs = if nat_lt (length xs) (2 ^ 63) then xs else []

pub fits : {X : Type 0} (xs : List X) → length (fitted xs) < 2 ^ 63
fits xs = by (nat_lt (length xs) (2 ^ 63)) refl
  where
    by : (b : Bool) → nat_lt (length xs) (2 ^ 63) ≡ b → length (if b then xs else []) < 2 ^ 63
    by true is = grind (arith, nat_tests, is)
    by false is = omega arith

pub fitted_is : {X : Type 0} (xs : List X) → length xs < 2 ^ 63 → fitted xs ≡ xs
fitted_is xs few = let small : nat_lt (length xs) (2 ^ 63) ≡ true = grind (arith, nat_tests, few) in ap (λ b. if b then xs else []) small

abbrev pub heap : Global
heap = record { memory = record { seal = tt } }

abbrev pub vec_of : {X : Type 0} → List X → Vec X
vec_of xs = record { ptr = null_ptr; len = length (fitted xs); cap = length (fitted xs); alloc = heap; items = fitted xs; ok = (refl, omega arith); small = fits xs }

abbrev pub box_of : {X : Type 0} → X → Box X
box_of x = record { ptr = null_ptr; alloc = heap; value = x }
