-- Rows by number, after one is added or written.
use Rattle.std.proofs.Common.{◌≡◌, ◌≢◌, ℕ, zero, suc, ◌<◌, ◌≤◌, ◌⊎◌, inl, inr, List, [], ◌∷◌, ◌+◌, ◌++◌, length, set, take, get_or, Option, Some, Contains, refl, sym, ◌∙◌, ap, subst, arith}
use Rattle.std.specs.List.{slice_get}
use Rattle.std.specs.Option.{IfSome}
use Rattle.std.specs.Prelude.{Result, Ok, Err, IfOk, OnErr}
use Rattle.std.proofs.lemmas.List.{take_more, length-set}
use Rattle.std.proofs.lemmas.List.Elements.{Contains-append_left, Contains-push_cases, Contains-push}
use Rattle.links_core.specs.Lists.{list_at}
use Rattle.signal_values.specs.Edges.{Feeds}
use Rattle.signal_values.specs.Kept.{IsConnected}
use Rattle.signal_values.proofs.RowLemmas.{push_cases, push_has, push_keeps}
use Rattle.rooms_val.proofs.Truths.{if_ok_then, on_err_then}

pub get_keep : {X : Type 0} (xs : List X) (x y : X) (i : ℕ) → slice_get xs i ≡ Some y → slice_get (xs ++ x ∷ []) i ≡ Some y
get_keep [] x y i h = absurd (cc)
get_keep (z ∷ xs) x y zero h = h
get_keep (z ∷ xs) x y (suc i) h = get_keep xs x y i h

pub get_last : {X : Type 0} (xs : List X) (x : X) → slice_get (xs ++ x ∷ []) (length xs) ≡ Some x
get_last [] x = refl
get_last (z ∷ xs) x = get_last xs x

pub get_cases : {X : Type 0} (xs : List X) (x y : X) (i : ℕ) → slice_get (xs ++ x ∷ []) i ≡ Some y → (slice_get xs i ≡ Some y) ⊎ ((i ≡ length xs) × (y ≡ x))
get_cases [] x y zero h = inr (refl, cc)
get_cases [] x y (suc i) h = absurd (cc)
get_cases (z ∷ xs) x y zero h = inl h
get_cases (z ∷ xs) x y (suc i) h = elim (get_cases xs x y i h) [ inl q ↦ inl q | inr q ↦ inr (ap suc q.0, q.1) ]

pub set_same : {X : Type 0} (xs : List X) (i : ℕ) (x : X) → i < length xs → slice_get (set xs i x) i ≡ Some x
set_same [] i x low = absurd (omega arith)
set_same (z ∷ xs) zero x low = refl
set_same (z ∷ xs) (suc i) x low = set_same xs i x (omega arith)

pub set_other : {X : Type 0} (xs : List X) (i j : ℕ) (x : X) → j ≢ i → slice_get (set xs i x) j ≡ slice_get xs j
set_other [] i j x ne = refl
set_other (z ∷ xs) zero zero x ne = absurd (ne refl)
set_other (z ∷ xs) zero (suc j) x ne = refl
set_other (z ∷ xs) (suc i) zero x ne = refl
set_other (z ∷ xs) (suc i) (suc j) x ne = set_other xs i j x (λ e. ne (ap suc e))

pub set_cases : {X : Type 0} (xs : List X) (i j : ℕ) (x y : X) → slice_get (set xs i x) j ≡ Some y → ((j ≡ i) × (y ≡ x)) ⊎ ((j ≢ i) × (slice_get xs j ≡ Some y))
set_cases [] i j x y h = absurd (cc)
set_cases (z ∷ xs) zero zero x y h = inl (refl, cc)
set_cases (z ∷ xs) zero (suc j) x y h = inr (λ e. absurd (omega (arith, e)), h)
set_cases (z ∷ xs) (suc i) zero x y h = inr (λ e. absurd (omega (arith, e)), h)
set_cases (z ∷ xs) (suc i) (suc j) x y h =
    elim (set_cases xs i j x y h) [ inl q ↦ inl (ap suc q.0, q.1) | inr q ↦ inr (λ e. q.0 (omega (arith, e)), q.1) ]

pub get_within : {X : Type 0} (xs : List X) (i : ℕ) → i < length xs → (x : X) × (slice_get xs i ≡ Some x)
get_within [] i low = absurd (omega arith)
get_within (x ∷ xs) zero low = (x, refl)
get_within (x ∷ xs) (suc i) low = get_within xs i (omega arith)

pub connected_none : (lists : List (List ℕ)) (parents : List ℕ) (child : ℕ) → IsConnected lists lists (take 0 parents) child
connected_none lists parents child = record {
  rows = refl;
  keeps = λ p c h. h;
  has = λ p h. absurd (omega (arith, h.1));
  only = λ p c h. inl h;
}

pub connected_more : (old middle new : List (List ℕ)) (parents : List ℕ) (n child : ℕ) → IsConnected old middle (take n parents) child → n < length parents → get_or parents n 0 < length middle
    → new ≡ set middle (get_or parents n 0) (list_at middle (get_or parents n 0) ++ child ∷ []) → IsConnected old new (take (n + 1) parents) child
connected_more old middle new parents n child first low within e =
    let p0 = get_or parents n 0 in
    let more : take (n + 1) parents ≡ take n parents ++ p0 ∷ [] = take_more parents n 0 low in
    let to : (p c : ℕ) → Feeds (set middle p0 (list_at middle p0 ++ child ∷ [])) p c → Feeds new p c = λ p c h. subst (λ (ls : List (List ℕ)). Feeds ls p c) (sym e) h in
    record {
      rows = ap length e ∙ length-set middle p0 (list_at middle p0 ++ child ∷ []) ∙ first.rows;
      keeps = λ p c h. to p c (push_keeps middle p0 child p c (first.keeps p c h));
      has = λ p h.
          elim (Contains-push_cases (take n parents) p0 p (subst (λ (ps : List ℕ). Contains ps p) more h)) [
            | inl was ↦ to p child (push_keeps middle p0 child p child (first.has p was))
            | inr same ↦ subst (λ (q : ℕ). Feeds new q child) same (to p0 child (push_has middle p0 child within))
          ];
      only = λ p c h.
          elim (push_cases middle p0 child p c (subst (λ (ls : List (List ℕ)). Feeds ls p c) e h)) [
            | inl was ↦ elim (first.only p c was) [
              | inl old_one ↦ inl old_one
              | inr new_one ↦ inr (new_one.0, subst (λ (ps : List ℕ). Contains ps p) (sym more) (Contains-append_left (take n parents) (p0 ∷ []) p new_one.1))
            ]
            | inr last ↦ inr (last.1, subst (λ (ps : List ℕ). Contains ps p) (sym more) (subst (λ (q : ℕ). Contains (take n parents ++ p0 ∷ []) q) (sym last.0) (Contains-push (take n parents) p0)))
          ];
    }

pub take_whole : {X : Type 0} (xs : List X) (n : ℕ) → length xs ≤ n → take n xs ≡ xs
take_whole [] zero low = refl
take_whole [] (suc n) low = refl
take_whole (x ∷ xs) zero low = absurd (omega arith)
take_whole (x ∷ xs) (suc n) low = ap (λ ys. x ∷ ys) (take_whole xs n (omega arith))

pub if_some : {A : Type 0} (o : Option A) (Q : A → Type 0) (x : A) → o ≡ Some x → IfSome o Q → Q x
if_some {A} o Q x e h = let P : Option A → Type 0 = λ p. IfSome p Q in subst P e h

-- what holds at both outcomes
pub either : {A E : Type 0} (r : Result A E) (P : A → Type 0) (Q G : Type 0) → IfOk r P → OnErr r Q → ((x : A) → P x → G) → (Q → G) → G
either (Ok x) P Q G p q f h = f x p
either (Err e) P Q G p q f h = h q

pub ok_both : {A E : Type 0} (r : Result A E) (P Q R : A → Type 0) → IfOk r P → IfOk r Q → ((x : A) → P x → Q x → R x) → IfOk r R
ok_both (Ok x) P Q R p q f = f x p q
ok_both (Err e) P Q R p q f = p
