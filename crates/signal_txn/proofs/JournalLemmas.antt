-- Levels that grow at their end, and the newest of them.
use Rattle.std.proofs.Common.{◌≡◌, ℕ, zero, suc, List, [], ◌∷◌, ◌++◌, length, map, drop, set, Some, refl, sym, ◌∙◌, ap, arith}
use Rattle.std.specs.Prelude.{reverse}
use Rattle.std.specs.List.{slice_get}
use Rattle.std.proofs.lemmas.List.{reverse-append, map-append}
use Rattle.std.specs.declared.cmp.Ordering.{Ordering}
use Rattle.signal_rules.specs.Meaning.{Meaning}
use Rattle.signal_values.specs.Seen.{Seen}
use Rattle.signal_txn.specs.declared.write.Write.{Write}
use Rattle.signal_txn.specs.LastWrites.{LastWrites, one_write, followed}
use Rattle.signal_txn.specs.Level.{Level, began_at}
use Rattle.signal_txn.specs.Journal.{journal_of, joined, committed}
use Rattle.signal_txn.specs.Undo.{AreUndoable}
use Rattle.signal_txn.proofs.UndoLemmas.{undoable_last}

pub reverse-map : {A B : Type 0} (f : A → B) (xs : List A) → reverse (map f xs) ≡ map f (reverse xs)
reverse-map f [] = refl
reverse-map f (x ∷ xs) =
    reverse-append (f x ∷ []) (map f xs)
    ∙ ap (λ ys. ys ++ f x ∷ []) (reverse-map f xs)
    ∙ sym (map-append f (reverse xs) (x ∷ []))
    ∙ ap (map f) (sym (reverse-append (x ∷ []) xs))

pub reverse_last : {A : Type 0} (xs : List A) (x : A) → reverse (xs ++ x ∷ []) ≡ x ∷ reverse xs
reverse_last xs x = reverse-append xs (x ∷ [])

-- the last item comes first, and takes another's place
pub record IsNewest {A : Type 0} (xs : List A) (i : ℕ) (x v : A) : Type 0 where
  pub rest : List A
  pub was : reverse xs ≡ x ∷ rest
  pub is : reverse (set xs i v) ≡ v ∷ rest

pub newest : {A : Type 0} (xs : List A) (i : ℕ) (x v : A) → suc i ≡ length xs → slice_get xs i ≡ Some x → IsNewest xs i x v
newest [] i x v long at = absurd (omega (arith, long))
newest {A} (a ∷ []) zero x v long at = record { rest = []; was = ap (λ (z : A). z ∷ []) (same a x at); is = refl }
  where
    same : (p q : A) → Some p ≡ Some q → p ≡ q
    same p q e = cc
newest (a ∷ []) (suc i) x v long at = absurd (omega (arith, long))
newest (a ∷ b ∷ xs) zero x v long at = absurd (omega (arith, long))
newest {A} (a ∷ b ∷ xs) (suc i) x v long at =
    let deeper = newest (b ∷ xs) i x v (omega (arith, long)) at in
    record {
      rest = deeper.rest ++ a ∷ [];
      was = reverse-append (a ∷ []) (b ∷ xs) ∙ ap (λ (ys : List A). ys ++ a ∷ []) deeper.was;
      is = reverse-append (a ∷ []) (set (b ∷ xs) i v) ∙ ap (λ (ys : List A). ys ++ a ∷ []) deeper.is;
    }

module _ {K V : Type 0} where
  pub joined_newest : (write : Write K V) (levels : List (Level K V)) (ring : LastWrites K V) (i : ℕ) (level new : Level K V)
      → IsNewest levels i level new → new ≡ record level { last = followed level.last (one_write write) }
      → journal_of (set levels i new) ring ≡ joined write (reverse levels) ring
  joined_newest write levels ring i level new top e =
      ap (λ (ls : List (Level K V)). record { levels = ls; ring = ring }) (top.is ∙ ap (λ (l : Level K V). l ∷ top.rest) e)
      ∙ ap (λ (ls : List (Level K V)). joined write ls ring) (sym top.was)

  pub committed_newest : (levels all : List (Level K V)) (ring : LastWrites K V) (i : ℕ) (level outer new : Level K V)
      → all ≡ levels ++ level ∷ [] → IsNewest levels i outer new → new ≡ record outer { last = followed outer.last level.last }
      → journal_of (set levels i new) ring ≡ committed (reverse all) ring
  committed_newest levels all ring i level outer new is top e =
      ap (λ (ls : List (Level K V)). record { levels = ls; ring = ring }) (top.is ∙ ap (λ (l : Level K V). l ∷ top.rest) e)
      ∙ ap (λ (ls : List (Level K V)). committed (level ∷ ls) ring) (sym top.was)
      ∙ ap (λ (ls : List (Level K V)). committed ls ring) (sym (reverse_last levels level) ∙ ap reverse (sym is))

  -- the writes of a level make no difference to where it began
  pub joined_begun : (cmp : K → K → Ordering) (atoms : K → V) (write : Write K V) (levels : List (Level K V)) (ring : LastWrites K V)
      → map (λ (l : Level K V). began_at cmp l atoms) (joined write levels ring).levels ≡ map (λ (l : Level K V). began_at cmp l atoms) levels
  joined_begun cmp atoms write [] ring = refl
  joined_begun cmp atoms write (level ∷ around) ring = refl

  pub committed_begun : (cmp : K → K → Ordering) (atoms : K → V) (levels : List (Level K V)) (ring : LastWrites K V)
      → map (λ (l : Level K V). began_at cmp l atoms) (committed levels ring).levels ≡ drop 1 (map (λ (l : Level K V). began_at cmp l atoms) levels)
  committed_begun cmp atoms [] ring = refl
  committed_begun cmp atoms (level ∷ []) ring = refl
  committed_begun cmp atoms (level ∷ outer ∷ around) ring = refl

  pub joined_undoable : {R : Type 0} (m : Meaning K V) (cmp : K → K → Ordering) (values : Seen R K V) (write : Write K V) (levels : List (Level K V)) (ring : LastWrites K V)
      → AreUndoable m cmp values levels → AreUndoable m cmp values (joined write levels ring).levels
  joined_undoable m cmp values write [] ring u = tt
  joined_undoable m cmp values write (level ∷ around) ring u = undoable_last m cmp values level around (followed level.last (one_write write)) u

  pub committed_undoable : {R : Type 0} (m : Meaning K V) (cmp : K → K → Ordering) (values : Seen R K V) (levels : List (Level K V)) (ring : LastWrites K V)
      → AreUndoable m cmp values levels → AreUndoable m cmp values (committed levels ring).levels
  committed_undoable m cmp values [] ring u = tt
  committed_undoable m cmp values (level ∷ []) ring u = tt
  committed_undoable m cmp values (level ∷ outer ∷ around) ring u = undoable_last m cmp values outer around (followed outer.last level.last) u.1
