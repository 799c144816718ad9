-- The atoms that rows have.
use Rattle.std.proofs.Common.{◌≡◌, ℕ, zero, suc, ◌<◌, ◌⊎◌, inl, inr, Bool, true, false, cond, List, [], ◌∷◌, ◌++◌, set, Option, Some, None, option_map, unwrap_or, refl, sym, ◌∙◌, ap, subst, arith}
use Rattle.std.proofs.Math.Path.{fun_ext}
use Rattle.std.specs.List.{slice_get}
use Rattle.std.specs.Ordering.{is_eq, ordering_reverse}
use Rattle.std.specs.Cmp.{IsTotalOrder}
use Rattle.std.specs.declared.cmp.Ordering.{Ordering}
use Rattle.std.specs.declared.cmp.Ordering.TheVariants.{Less, Equal, Greater}
use Rattle.signal_rules.specs.Meaning.{Meaning}
use Rattle.signal_rules.specs.Values.{by_rank}
use Rattle.signal_values.specs.declared.cells.Row.{Row}
use Rattle.signal_values.specs.Cells.{row_of, atoms_of, HaveAtoms}

-- keys compare as equal exactly where they are the same
pub record IsExact {K : Type 0} (cmp : K → K → Ordering) : Type 0 where
  pub same : (a b : K) → cmp a b ≡ Equal → a ≡ b
  pub itself : (a : K) → cmp a a ≡ Equal

pub exact : {K : Type 0} (cmp : K → K → Ordering) → IsTotalOrder cmp → ((a b : K) → cmp a b ≡ Equal → a ≡ b) → IsExact cmp
exact {K} cmp total same = record { same = same; itself = λ a. at (cmp a a) (total.antisymm a a) }
  where
    at : (o : Ordering) → o ≡ ordering_reverse o → o ≡ Equal
    at Less e = absurd (cc)
    at Equal e = refl
    at Greater e = absurd (cc)

pub eq_same : {K : Type 0} (cmp : K → K → Ordering) → IsExact cmp → (a b : K) → is_eq (cmp a b) ≡ true → a ≡ b
eq_same cmp x a b h = x.same a b (at (cmp a b) h)
  where
    at : (o : Ordering) → is_eq o ≡ true → o ≡ Equal
    at Less e = absurd (cc)
    at Equal e = refl
    at Greater e = absurd (cc)

pub same_eq : {K : Type 0} (cmp : K → K → Ordering) → IsExact cmp → (a b : K) → a ≡ b → is_eq (cmp a b) ≡ true
same_eq {K} cmp x a b e = subst (λ (k : K). is_eq (cmp a k) ≡ true) e (ap is_eq (x.itself a))

pub not_eq : {K : Type 0} (cmp : K → K → Ordering) → IsExact cmp → (a b : K) → (a ≡ b → ⊥) → is_eq (cmp a b) ≡ false
not_eq cmp x a b ne = at (is_eq (cmp a b)) refl
  where
    at : (c : Bool) → is_eq (cmp a b) ≡ c → is_eq (cmp a b) ≡ false
    at true e = absurd (ne (eq_same cmp x a b e))
    at false e = e

skip : {X : Type 0} (b : Bool) → b ≡ false → (x : X) (o : Option X) → cond b (Some x) o ≡ o
skip true e x o = absurd (cc)
skip false e x o = refl

-- where the row of another key is set or added, a key has the same row
pub row_of_set : {K V : Type 0} (cmp : K → K → Ordering) → IsExact cmp → (rows : List (Row K V)) (i : ℕ) (row other : Row K V) (key : K) → slice_get rows i ≡ Some row → other.key ≡ row.key → (key ≡ row.key → ⊥)
    → row_of cmp (set rows i other) key ≡ row_of cmp rows key
row_of_set cmp x [] i row other key at same ne = refl
row_of_set {K} {V} cmp x (r ∷ rows) zero row other key at same ne =
    let one : r ≡ row = cc in
    skip (is_eq (cmp other.key key)) (not_eq cmp x other.key key (λ e. ne (sym e ∙ same))) other (row_of cmp rows key)
    ∙ sym (skip (is_eq (cmp r.key key)) (not_eq cmp x r.key key (λ e. ne (sym e ∙ ap (λ (s : Row K V). s.key) one))) r (row_of cmp rows key))
row_of_set {K} {V} cmp x (r ∷ rows) (suc i) row other key at same ne = ap (λ (o : Option (Row K V)). cond (is_eq (cmp r.key key)) (Some r) o) (row_of_set cmp x rows i row other key at same ne)

pub row_of_append : {K V : Type 0} (cmp : K → K → Ordering) → IsExact cmp → (rows : List (Row K V)) (row : Row K V) (key : K) → (row.key ≡ key → ⊥) → row_of cmp (rows ++ row ∷ []) key ≡ row_of cmp rows key
row_of_append {K} {V} cmp x [] row key ne = skip (is_eq (cmp row.key key)) (not_eq cmp x row.key key ne) row None
row_of_append {K} {V} cmp x (r ∷ rows) row key ne = ap (λ (o : Option (Row K V)). cond (is_eq (cmp r.key key)) (Some r) o) (row_of_append cmp x rows row key ne)

-- a key has a row, or none
pub record HasRow {K V : Type 0} (cmp : K → K → Ordering) (rows : List (Row K V)) (key : K) : Type 0 where
  pub i : ℕ
  pub row : Row K V
  pub at : slice_get rows i ≡ Some row
  pub is : row.key ≡ key
  pub found : row_of cmp rows key ≡ Some row

pub record HasNone {K V : Type 0} (cmp : K → K → Ordering) (rows : List (Row K V)) (key : K) : Type 0 where
  pub none : (i : ℕ) (row : Row K V) → slice_get rows i ≡ Some row → row.key ≡ key → ⊥
  pub found : row_of cmp rows key ≡ None

pub row_cases : {K V : Type 0} (cmp : K → K → Ordering) → IsExact cmp → (rows : List (Row K V)) (key : K) → HasRow cmp rows key ⊎ HasNone cmp rows key
row_cases cmp x [] key = inr (record { none = λ i row h e. absurd (cc); found = refl })
row_cases {K} {V} cmp x (r ∷ rows) key = at (row_cases cmp x rows key) (is_eq (cmp r.key key)) refl
  where
    first : (b : Bool) → b ≡ true → (o : Option (Row K V)) → cond b (Some r) o ≡ Some r
    first true e o = refl
    first false e o = absurd (cc)

    later : (b : Bool) → b ≡ false → (o p : Option (Row K V)) → o ≡ p → cond b (Some r) o ≡ p
    later true e o p q = absurd (cc)
    later false e o p q = q

    at : HasRow cmp rows key ⊎ HasNone cmp rows key → (b : Bool) → is_eq (cmp r.key key) ≡ b → HasRow cmp (r ∷ rows) key ⊎ HasNone cmp (r ∷ rows) key
    at rest true e = inl (record { i = 0; row = r; at = refl; is = eq_same cmp x r.key key e; found = first (is_eq (cmp r.key key)) e (row_of cmp rows key) })
    at (inl has) false e = inl (record { i = suc has.i; row = has.row; at = has.at; is = has.is; found = later (is_eq (cmp r.key key)) e (row_of cmp rows key) (Some has.row) has.found })
    at (inr none) false e = inr (record {
      none = λ i row. elim i as (λ (n : ℕ). slice_get (r ∷ rows) n ≡ Some row → row.key ≡ key → ⊥) [
        | zero ↦ λ h is.
            let one : r ≡ row = cc in
            let yes_ : is_eq (cmp r.key key) ≡ true = same_eq cmp x r.key key (ap (λ (s : Row K V). s.key) one ∙ is) in
            absurd (cc)
        | suc n ↦ λ h is. none.none n row h is
      ];
      found = later (is_eq (cmp r.key key)) e (row_of cmp rows key) None none.found;
    })

abbrev atom_at : {K V : Type 0} → Meaning K V → (K → K → Ordering) → List (Row K V) → K → ℕ → V
atom_at m cmp rows key rank = by_rank rank (unwrap_or (option_map (λ row. row.value) (row_of cmp rows key)) (m.blank key)) (m.blank key)

atom_found : {K V : Type 0} (m : Meaning K V) (cmp : K → K → Ordering) (rows : List (Row K V)) (key : K) (row : Row K V) → row_of cmp rows key ≡ Some row → (rank : ℕ) → rank ≡ 0 → atom_at m cmp rows key rank ≡ row.value
atom_found m cmp rows key row found zero e = ap (λ o. unwrap_or (option_map (λ r. r.value) o) (m.blank key)) found
atom_found m cmp rows key row found (suc rank) e = absurd (omega (arith, e))

atom_none : {K V : Type 0} (m : Meaning K V) (cmp : K → K → Ordering) (rows : List (Row K V)) (key : K) → row_of cmp rows key ≡ None → (rank : ℕ) → rank ≡ 0 → atom_at m cmp rows key rank ≡ m.blank key
atom_none m cmp rows key found zero e = ap (λ o. unwrap_or (option_map (λ r. r.value) o) (m.blank key)) found
atom_none m cmp rows key found (suc rank) e = absurd (omega (arith, e))

atom_above : {K V : Type 0} (m : Meaning K V) (cmp : K → K → Ordering) (rows : List (Row K V)) (key : K) → (rank : ℕ) → 0 < rank → atom_at m cmp rows key rank ≡ m.blank key
atom_above m cmp rows key zero low = absurd (omega arith)
atom_above m cmp rows key (suc rank) low = refl

-- rows have one function of atoms
pub atoms_same : {K V : Type 0} (m : Meaning K V) (cmp : K → K → Ordering) → IsExact cmp → (rows : List (Row K V)) (atoms : K → V) → HaveAtoms m atoms rows → atoms_of m cmp rows ≡ atoms
atoms_same {K} {V} m cmp x rows atoms have = fun_ext (λ key. at key (rank_cases (m.rank key)))
  where
    rank_cases : (n : ℕ) → (n ≡ 0) ⊎ (0 < n)
    rank_cases zero = inl refl
    rank_cases (suc n) = inr (omega arith)

    low : (key : K) → m.rank key ≡ 0 → HasRow cmp rows key ⊎ HasNone cmp rows key → atoms_of m cmp rows key ≡ atoms key
    low key e (inl has) =
        atom_found m cmp rows key has.row has.found (m.rank key) e ∙ have.there has.i has.row has.at (ap m.rank has.is ∙ e) ∙ ap atoms has.is
    low key e (inr none) = atom_none m cmp rows key none.found (m.rank key) e ∙ sym (have.absent key e none.none)

    at : (key : K) → (m.rank key ≡ 0) ⊎ (0 < m.rank key) → atoms_of m cmp rows key ≡ atoms key
    at key (inl e) = low key e (row_cases cmp x rows key)
    at key (inr high) = atom_above m cmp rows key (m.rank key) high ∙ sym (have.above key high)

same_row : {K V : Type 0} (o : Option (Row K V)) (r s : Row K V) → o ≡ Some r → o ≡ Some s → r ≡ s
same_row o r s p q = cc

-- rows without a key twice have the atoms that are read off them
pub atoms_there : {K V : Type 0} (m : Meaning K V) (cmp : K → K → Ordering) → IsExact cmp → (rows : List (Row K V))
    → ((i j : ℕ) (row other : Row K V) → slice_get rows i ≡ Some row → slice_get rows j ≡ Some other → row.key ≡ other.key → i ≡ j) → HaveAtoms m (atoms_of m cmp rows) rows
atoms_there {K} {V} m cmp x rows distinct = record {
  there = λ i row h e. at i row h e (row_cases cmp x rows row.key);
  absent = λ key e none. gone key e none (row_cases cmp x rows key);
  above = λ key high. atom_above m cmp rows key (m.rank key) high;
}
  where
    at : (i : ℕ) (row : Row K V) → slice_get rows i ≡ Some row → m.rank row.key ≡ 0 → HasRow cmp rows row.key ⊎ HasNone cmp rows row.key → row.value ≡ atoms_of m cmp rows row.key
    at i row h e (inl has) =
        let one : i ≡ has.i = distinct i has.i row has.row h has.at (sym has.is) in
        let also : slice_get rows has.i ≡ Some row = subst (λ (n : ℕ). slice_get rows n ≡ Some row) one h in
        let same : row ≡ has.row = same_row (slice_get rows has.i) row has.row also has.at in
        ap (λ (r : Row K V). r.value) same ∙ sym (atom_found m cmp rows row.key has.row has.found (m.rank row.key) e)
    at i row h e (inr none) = absurd (none.none i row h refl)

    gone : (key : K) → m.rank key ≡ 0 → ((i : ℕ) (row : Row K V) → slice_get rows i ≡ Some row → row.key ≡ key → ⊥) → HasRow cmp rows key ⊎ HasNone cmp rows key → atoms_of m cmp rows key ≡ m.blank key
    gone key e none (inl has) = absurd (none has.i has.row has.at has.is)
    gone key e none (inr hn) = atom_none m cmp rows key hn.found (m.rank key) e
