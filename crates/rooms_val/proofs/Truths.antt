-- Facts on truth values, orders, options and results, for all crates above.
use Rattle.std.proofs.Common.{Bool, Err, IfErr, IfOk, IsErrAnd, List, None, Ok, OnErr, Option, Result, Some, T, [], ap, arith, cond, false, filter, is_eq, is_some, length, nat_lt, option_map, refl, subst, suc, sym, true, ℕ, ◌&&◌, ◌<◌, ◌||◌, ◌∙◌, ◌∷◌, ◌≡◌, ◌≤◌}
use Rattle.std.specs.declared.cmp.Ordering.TheVariants.{Equal, Greater, Less}
use Rattle.std.specs.Prelude.{OnOk, not}
use Rattle.std.specs.declared.cmp.Ordering.{Ordering}
use Rattle.std.specs.Str.{bytes_eq}
use Rattle.std.proofs.lemmas.Slice.Eq.{bytes_eq-Decides}
use Rattle.std.specs.Ordering.{is_lt, ordering_then}
use Rattle.std.proofs.lemmas.Bool.Decides.{nat_tests}
use Rattle.std.proofs.lemmas.Option.{same_Some}

pub and_left : (a b : Bool) → (a && b) ≡ true → a ≡ true
and_left true b is = refl
and_left false b is = is

pub and_right : (a b : Bool) → (a && b) ≡ true → b ≡ true
and_right true b is = is
and_right false b is = absurd (let no : false ≡ true = is in (cc))

pub and_true : (a b : Bool) → a ≡ true → b ≡ true → (a && b) ≡ true
and_true a b one two = ap (λ x. x && b) one ∙ two

pub or_left : (a b : Bool) → a ≡ true → (a || b) ≡ true
or_left a b is = ap (λ x. x || b) is

pub or_right : (a b : Bool) → b ≡ true → (a || b) ≡ true
or_right true b is = refl
or_right false b is = is

pub and_holds : (a b : Bool) → T a → T b → T (a && b)
and_holds true b h k = k
and_holds false b h k = h

pub or_false_left : (a b : Bool) → (a || b) ≡ false → a ≡ false
or_false_left true b h = h
or_false_left false b h = refl

pub or_false_right : (a b : Bool) → (a || b) ≡ false → b ≡ false
or_false_right true b h = absurd (cc)
or_false_right false b h = h

pub or_false : (a b : Bool) → (a || b) ≡ false → (a ≡ false) × (b ≡ false)
or_false true b is = cc
or_false false b is = (refl, is)

pub neither : (a b : Bool) → a ≡ false → b ≡ false → a || b ≡ false
neither true b p q = absurd (cc)
neither false b p q = q

pub unnot_true : (b : Bool) → not b ≡ true → b ≡ false
unnot_true true is = cc
unnot_true false is = refl

pub unnot_false : (b : Bool) → not b ≡ false → b ≡ true
unnot_false true is = refl
unnot_false false is = cc

pub not_so : (b : Bool) → (b ≡ true → ⊥) → b ≡ false
not_so true apart = absurd (apart refl)
not_so false apart = refl

pub iff_same : (a b : Bool) → (a ≡ true → b ≡ true) → (b ≡ true → a ≡ true) → a ≡ b
iff_same true b there back = sym (there refl)
iff_same false true there back = back refl
iff_same false false there back = refl

pub and_false : (a : Bool) → a && false ≡ false
and_false true = refl
and_false false = refl

pub is_Less : (w : Ordering) → is_lt w ≡ true → w ≡ Less
is_Less Less e = refl
is_Less Equal e = absurd (let no : false ≡ true = e in (cc))
is_Less Greater e = absurd (let no : false ≡ true = e in (cc))

pub is_Equal : (o : Ordering) → is_eq o ≡ true → o ≡ Equal
is_Equal Equal is = refl
is_Equal o is = cc

pub both_Equal : (a b : Ordering) → ordering_then a b ≡ Equal → (a ≡ Equal) × (b ≡ Equal)
both_Equal Less b e = (e, cc)
both_Equal Equal b e = (refl, e)
both_Equal Greater b e = (e, cc)

pub no_items : {X : Type 0} (xs : List X) → length xs ≡ 0 → xs ≡ []
no_items [] none = refl
no_items (x ∷ xs) none = absurd (omega arith)

pub le_lt_absurd : {A : Type 0} (n m : ℕ) → n ≤ m → m < n → A
le_lt_absurd n m short far = absurd (omega (arith, short, far))

pub lt_false : (a b : ℕ) → b ≤ a → nat_lt a b ≡ false
lt_false a b less = elim (nat_lt a b) as (λ c. nat_lt a b ≡ c → c ≡ false) [ true ↦ λ is. absurd (grind (arith, nat_tests)) | false ↦ λ is. refl ] refl

pub one_ok : {T E : Type 0} (r : Result T E) (x y : T) → r ≡ Ok x → r ≡ Ok y → x ≡ y
one_ok r x y is_x is_y = let is : Ok x ≡ Ok y = sym is_x ∙ is_y in cc

pub ok_not_err : {T E : Type 0} {A : Type 0} (r : Result T E) (x : T) (e : E) → r ≡ Ok x → r ≡ Err e → A
ok_not_err r x e is_ok is_err = absurd (let is : Ok x ≡ Err e = sym is_ok ∙ is_err in cc)

pub any_err : {T E P : Type 0} (r : Result T E) → P → IfErr r (λ _. P)
any_err (Ok x) p = tt
any_err (Err e) p = p

pub err_as : {T E : Type 0} (P : E → Type 0) (r : Result T E) (e : E) → IsErrAnd r (λ f. f ≡ e) → P e → IfErr r P
err_as P (Ok x) e is p = tt
err_as P (Err f) e is p = subst P (sym is) p

pub if_ok_then : {T E : Type 0} (r : Result T E) (P Q : T → Type 0) → IfOk r P → ((x : T) → P x → Q x) → IfOk r Q
if_ok_then (Ok x) P Q said follows = follows x said
if_ok_then (Err e) P Q said follows = tt

pub on_err_then : {A E : Type 0} (r : Result A E) (P Q : Type 0) → OnErr r P → (P → Q) → OnErr r Q
on_err_then (Ok x) P Q h f = tt
on_err_then (Err e) P Q h f = f h

pub on_err_so : {A E : Type 0} (r : Result A E) (P Q : Type 0) → (P → Q) → OnErr r P → OnErr r Q
on_err_so (Ok a) P Q f p = tt
on_err_so (Err e) P Q f p = f p

pub on_ok_so : {A E : Type 0} (r : Result A E) (P Q : Type 0) → (P → Q) → OnOk r P → OnOk r Q
on_ok_so (Ok x) P Q f h = f h
on_ok_so (Err e) P Q f h = h

pub on_ok_anyway : {A E : Type 0} (r : Result A E) (P : Type 0) → P → OnOk r P
on_ok_anyway (Ok a) P p = p
on_ok_anyway (Err e) P p = tt

pub on_err_anyway : {T E : Type 0} (r : Result T E) {P : Type 0} → P → OnErr r P
on_err_anyway (Ok x) p = tt
on_err_anyway (Err e) p = p

pub on_ok_with : {T E A B : Type 0} (r : Result T E) → (A → B) → OnOk r A → OnOk r B
on_ok_with (Ok x) f told = f told
on_ok_with (Err e) f told = tt

pub some_same : {X : Type 0} (x y : X) → ◌≡◌ {A = Option X} (Some x) (Some y) → x ≡ y
some_same x y is = (cc)

pub mapped : {X Y : Type 0} (f : X → Y) (o : Option X) (y : Y) → option_map f o ≡ Some y → (x : X) × (o ≡ Some x) × (f x ≡ y)
mapped f None y is = absurd (cc)
mapped f (Some x) y is = (x, refl, same_Some (f x) y is)

pub none_some : {X : Type 0} (x : X) → None ≡ Some x → ⊥
none_some x is = cc

pub some_there : {X : Type 0} (o : Option X) → is_some o ≡ true → (x : X) × (o ≡ Some x)
some_there None is = absurd (cc)
some_there (Some x) is = (x, refl)

pub one_some : {X : Type 0} (o : Option X) (a b : X) → o ≡ Some a → o ≡ Some b → a ≡ b
one_some o a b one other = let same : Some a ≡ Some b = sym one ∙ other in cc

pub bytes_eq_itself : (s : List ℕ) → bytes_eq s s ≡ true
bytes_eq_itself s = (bytes_eq-Decides s s).1 refl

pub filter_shorter : {X : Type 0} (p : X → Bool) (xs : List X) → length (filter p xs) ≤ length xs
filter_shorter p [] = omega arith
filter_shorter {X} p (x ∷ xs) = at (p x) (filter_shorter p xs)
  where
    at : (b : Bool) → length (filter p xs) ≤ length xs → length (cond b (x ∷ filter p xs) (filter p xs)) ≤ suc (length xs)
    at true le = omega (arith, le)
    at false le = omega (arith, le)
