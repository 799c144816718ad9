-- Items that are changed from a place on.
use Rattle.std.proofs.Common.{◌≡◌, ℕ, zero, suc, ◌+◌, List, [], ◌∷◌, length, set, map, get_or, Option, Some, None, false, is_some, refl, sym, ◌∙◌, ap, arith}
use Rattle.std.specs.Prelude.{Result, Ok, Err, OnOk}
use Rattle.std.specs.List.{slice_get}
use Rattle.signal_txn.specs.Level.{map_from}

pub same_some : {A : Type 0} (p q : A) → Some p ≡ Some q → p ≡ q
same_some p q e = cc

pub from_end : {A : Type 0} (f : A → A) (place : ℕ) (xs : List A) → place ≡ length xs → xs ≡ map_from f place xs
from_end {A} f place xs e = at xs ∙ ap (λ n. map_from f n xs) (sym e)
  where
    at : (ys : List A) → ys ≡ map_from f (length ys) ys
    at [] = refl
    at (y ∷ ys) = ap (λ zs. y ∷ zs) (at ys)

-- one is changed, and then those behind it
pub from_next : {A : Type 0} (f : A → A) (place next : ℕ) (xs : List A) (x v : A) → next ≡ place + 1 → slice_get xs place ≡ Some x → v ≡ f x
    → map_from f next (set xs place v) ≡ map_from f place xs
from_next {A} f place next xs x v e at is =
    let up : next ≡ suc place = omega (arith, e) in
    ap (λ n. map_from f n (set xs place v)) up ∙ go place xs at
  where
    go : (i : ℕ) (ys : List A) → slice_get ys i ≡ Some x → map_from f (suc i) (set ys i v) ≡ map_from f i ys
    go i [] h = absurd (cc)
    go zero (y ∷ ys) h = ap (λ z. z ∷ map f ys) (is ∙ ap f (sym (same_some y x h)))
    go (suc i) (y ∷ ys) h = ap (λ zs. y ∷ zs) (go i ys h)

pub set_itself : {A : Type 0} (place : ℕ) (xs : List A) (x : A) → slice_get xs place ≡ Some x → set xs place x ≡ xs
set_itself place [] x h = absurd (cc)
set_itself zero (y ∷ ys) x h = ap (λ z. z ∷ ys) (sym (same_some y x h))
set_itself (suc i) (y ∷ ys) x h = ap (λ zs. y ∷ zs) (set_itself i ys x h)

-- one that stays
pub from_same : {A : Type 0} (f : A → A) (place next : ℕ) (xs : List A) (x : A) → next ≡ place + 1 → slice_get xs place ≡ Some x → f x ≡ x
    → map_from f next xs ≡ map_from f place xs
from_same f place next xs x e at is =
    ap (map_from f next) (sym (set_itself place xs x at)) ∙ from_next f place next xs x x e at (sym is)

pub get_set : {A : Type 0} (place : ℕ) (xs : List A) (x v : A) → slice_get xs place ≡ Some x → slice_get (set xs place v) place ≡ Some v
get_set place [] x v h = absurd (cc)
get_set zero (y ∷ ys) x v h = refl
get_set (suc i) (y ∷ ys) x v h = get_set i ys x v h

pub set_back : {A : Type 0} (place : ℕ) (xs : List A) (x v : A) → slice_get xs place ≡ Some x → set (set xs place v) place x ≡ xs
set_back place [] x v h = absurd (cc)
set_back zero (y ∷ ys) x v h = ap (λ z. z ∷ ys) (sym (same_some y x h))
set_back (suc i) (y ∷ ys) x v h = ap (λ zs. y ∷ zs) (set_back i ys x v h)

pub ok_same : {T E A : Type 0} (r : Result T E) (a b c : A) → OnOk r (a ≡ b) → b ≡ c → OnOk r (a ≡ c)
ok_same (Ok t) a b c p q = p ∙ q
ok_same (Err e) a b c p q = tt

pub no_value : {V : Type 0} (o : Option V) → is_some o ≡ false → o ≡ None
no_value None e = refl
no_value (Some v) e = absurd (cc)

pub read_set : {A : Type 0} (place : ℕ) (xs : List A) (x v w : A) → slice_get xs place ≡ Some x → w ≡ get_or (set xs place v) place w → w ≡ v
read_set place [] x v w h e = absurd (cc)
read_set zero (y ∷ ys) x v w h e = e
read_set (suc i) (y ∷ ys) x v w h e = read_set i ys x v w h e
