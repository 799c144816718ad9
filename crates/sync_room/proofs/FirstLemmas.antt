-- The session with the least number of those that are behind, as it is looked for.
use Rattle.std.proofs.Common.{◌≡◌, ◌⊎◌, inl, inr, ℕ, ◌≤◌, ℤ, nat_le, Bool, true, false, cond, List, [], ◌∷◌, Option, Some, None, Contains, refl, sym, ap, subst, ◌∙◌, arith}
use Rattle.std.proofs.lemmas.Bool.Decides.{nat_tests}
use Rattle.slab.specs.Slab.{get, entries}
use Rattle.slab.proofs.SlabLemmas.{Contains-cons, Contains-cons_cases, Contains-entries}
use Rattle.sync_room.specs.Sessions.{is_behind, lesser, IsFirstBehind}
use Rattle.sync_room.specs.declared.session.Session.{Session}
use Rattle.sync_room.specs.declared.sessions.Sessions.{Sessions}

-- what was found among the sessions that were passed, where these are left
pub record IsSoFar (clock : ℤ) (table : Sessions) (first : Option (ℕ × ℕ)) (left : List (ℕ × Session)) : Type 0 where
  pub rest : (key : ℕ) (s : Session) → Contains left (key, s) → get table.present key ≡ Some s
  pub found : (p : ℕ × ℕ) → first ≡ Some p → (s : Session) × (get table.present p.0 ≡ Some s) × (is_behind clock s.phase ≡ true) × (s.number ≡ p.1)
  pub least : (key : ℕ) (s : Session) → get table.present key ≡ Some s → is_behind clock s.phase ≡ true
      → Contains left (key, s) ⊎ ((p : ℕ × ℕ) × (first ≡ Some p) × (p.1 ≤ s.number))

-- what the lesser of two is
lesser_is : (first : Option (ℕ × ℕ)) (key n : ℕ) → (p : ℕ × ℕ) × (lesser first key n ≡ Some p) × (p.1 ≤ n) × ((q : ℕ × ℕ) → first ≡ Some q → p.1 ≤ q.1)
lesser_is None key n = ((key, n), refl, omega arith, λ q is. absurd (cc))
lesser_is (Some f) key n =
    elim (nat_le f.1 n) as (λ b. nat_le f.1 n ≡ b → (p : ℕ × ℕ) × (cond b (Some f) (Some (key, n)) ≡ Some p) × (p.1 ≤ n) × ((q : ℕ × ℕ) → Some f ≡ Some q → p.1 ≤ q.1)) [
      | true ↦ λ is. (f, refl, grind (arith, nat_tests), λ q same. let it : f ≡ q = cc in subst (λ q. f.1 ≤ q.1) it (omega arith))
      | false ↦ λ is. ((key, n), refl, omega arith, λ q same. let it : f ≡ q = cc in subst (λ q. n ≤ q.1) it (grind (arith, nat_tests)))
    ] refl

-- it is one of the two
lesser_from : (first : Option (ℕ × ℕ)) (key n : ℕ) (p : ℕ × ℕ) → lesser first key n ≡ Some p → (first ≡ Some p) ⊎ (p ≡ (key, n))
lesser_from None key n p is = let it : (key, n) ≡ p = cc in inr (sym it)
lesser_from (Some f) key n p is =
    elim (nat_le f.1 n) as (λ b. cond b (Some f) (Some (key, n)) ≡ Some p → (Some f ≡ Some p) ⊎ (p ≡ (key, n))) [
      | true ↦ λ same. inl same
      | false ↦ λ same. let it : (key, n) ≡ p = cc in inr (sym it)
    ] is

pub nothing_yet : (clock : ℤ) (table : Sessions) (left : List (ℕ × Session)) → left ≡ entries table.present → IsSoFar clock table None left
nothing_yet clock table left is = record {
  rest = λ key s there. (Contains-entries table.present key s).0 (subst (λ l. Contains l (key, s)) is there);
  found = λ p none. absurd (cc);
  least = λ key s at behind. inl (subst (λ l. Contains l (key, s)) (sym is) ((Contains-entries table.present key s).1 at));
}

module _ (clock : ℤ) (table : Sessions) (first : Option (ℕ × ℕ)) (key : ℕ) (s : Session) (left : List (ℕ × Session)) (h : IsSoFar clock table first ((key, s) ∷ left)) where
  here : get table.present key ≡ Some s
  here = h.rest key s (0, omega arith, refl)

  pub one_behind : is_behind clock s.phase ≡ true → IsSoFar clock table (lesser first key s.number) left
  one_behind is =
      let low = lesser_is first key s.number in
      record {
        rest = λ k u there. h.rest k u (Contains-cons _ _ _ there);
        found = λ p same. elim (lesser_from first key s.number p same) [
          | inl before ↦ h.found p before
          | inr this ↦ (s, ap (λ p. get table.present p.0) this ∙ here, is, sym (ap (λ p. p.1) this))
        ];
        least = λ k u at behind. elim (h.least k u at behind) [
          | inl there ↦ elim (Contains-cons_cases _ _ _ there) [
            | inl this ↦ inr (low.0, low.1, let n : s.number ≡ u.number = ap (λ e. e.1.number) this in let less = low.2 in omega arith)
            | inr rest ↦ inl rest
          ]
          | inr before ↦ inr (low.0, low.1, let less = low.3 before.0 before.1 in let least = before.2 in omega arith)
        ];
      }

  pub one_level : is_behind clock s.phase ≡ false → IsSoFar clock table first left
  one_level isnt = record {
    rest = λ k u there. h.rest k u (Contains-cons _ _ _ there);
    found = h.found;
    least = λ k u at behind. elim (h.least k u at behind) [
      | inl there ↦ elim (Contains-cons_cases _ _ _ there) [
        | inl this ↦ absurd (let phase = ap (λ e. is_behind clock e.1.phase) this in cc)
        | inr rest ↦ inl rest
      ]
      | inr before ↦ inr before
    ];
  }

pub first_found : (clock : ℤ) (table : Sessions) (p : ℕ × ℕ) → IsSoFar clock table (Some p) [] → IsFirstBehind clock table p.0
first_found clock table p h =
    let it = h.found p refl in
    record {
      session = it.0;
      here = it.1;
      behind = it.2;
      least = λ other u at behind. elim (h.least other u at behind) [
        | inl there ↦ absurd (let less = there.1 in omega arith)
        | inr low ↦ let same : p ≡ low.0 = let is = low.1 in cc in let n = it.3 in let less = low.2 in let m : p.1 ≡ low.0.1 = ap (λ q. q.1) same in omega arith
      ];
    }

pub none_found : (clock : ℤ) (table : Sessions) → IsSoFar clock table None [] → (key : ℕ) (s : Session) → get table.present key ≡ Some s → is_behind clock s.phase ≡ false
none_found clock table h key s at =
    elim (is_behind clock s.phase) as (λ b. is_behind clock s.phase ≡ b → b ≡ false) [
      | true ↦ λ is. elim (h.least key s at is) [
        | inl there ↦ absurd (let less = there.1 in omega arith)
        | inr low ↦ absurd (let no = low.1 in cc)
      ]
      | false ↦ λ is. refl
    ] refl
