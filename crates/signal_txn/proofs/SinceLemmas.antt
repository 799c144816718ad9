-- What was written after an epoch, write by write.
use Rattle.std.proofs.Common.{◌≡◌, ℕ, zero, suc, ◌+◌, ◌<◌, ◌≤◌, Bool, true, false, cond, nat_lt, List, [], ◌∷◌, ◌++◌, length, take, map, filter, Some, refl, sym, ◌∙◌, ap, arith}
use Rattle.std.specs.List.{slice_get}
use Rattle.std.proofs.lemmas.List.{map-append, append-nil}
use Rattle.std.proofs.lemmas.List.Elements.{filter-append}
use Rattle.std.proofs.lemmas.Bool.Decides.{nat_tests}
use Rattle.signal_txn.specs.declared.write.Write.{Write}
use Rattle.signal_txn.specs.Since.{diff_of, diffs_after}
use Rattle.rooms_val.proofs.Truths.{lt_false}

lt_true : (a b : ℕ) → a < b → nat_lt a b ≡ true
lt_true a b h = grind (arith, nat_tests)

module _ {X : Type 0} where
  -- the items up to one and that one
  pub take_at : (xs : List X) (i : ℕ) (x : X) → slice_get xs i ≡ Some x → take (suc i) xs ≡ take i xs ++ x ∷ []
  take_at [] i x at = absurd (cc)
  take_at (y ∷ xs) zero x at = ap (λ z. z ∷ []) (same y x at)
    where
      same : (p q : X) → Some p ≡ Some q → p ≡ q
      same p q e = cc
  take_at (y ∷ xs) (suc i) x at = ap (λ zs. y ∷ zs) (take_at xs i x at)

  pub take_all : (xs : List X) → take (length xs) xs ≡ xs
  take_all [] = refl
  take_all (x ∷ xs) = ap (λ zs. x ∷ zs) (take_all xs)

module _ {K V : Type 0} where
  -- one more write, that is after the epoch or not
  pub diffs_more : (epoch : ℕ) (writes : List (Write K V)) (i : ℕ) (write : Write K V) → slice_get writes i ≡ Some write
      → diffs_after epoch (take (i + 1) writes) ≡ diffs_after epoch (take i writes) ++ cond (nat_lt epoch write.epoch) (diff_of write ∷ []) []
  diffs_more epoch writes i write at =
      let up : i + 1 ≡ suc i = omega arith in
      ap (λ n. diffs_after epoch (take n writes)) up
      ∙ ap (diffs_after epoch) (take_at writes i write at)
      ∙ ap (map diff_of) (filter-append (λ (w : Write K V). nat_lt epoch w.epoch) (take i writes) (write ∷ []))
      ∙ map-append diff_of (filter (λ (w : Write K V). nat_lt epoch w.epoch) (take i writes)) (filter (λ (w : Write K V). nat_lt epoch w.epoch) (write ∷ []))
      ∙ ap (λ ds. diffs_after epoch (take i writes) ++ ds) (one (nat_lt epoch write.epoch))
    where
      one : (b : Bool) → map diff_of (cond b (write ∷ []) []) ≡ cond b (diff_of write ∷ []) []
      one true = refl
      one false = refl

  pub diffs_with : (epoch : ℕ) (writes : List (Write K V)) (i : ℕ) (write : Write K V) → slice_get writes i ≡ Some write → epoch < write.epoch
      → diffs_after epoch (take (i + 1) writes) ≡ diffs_after epoch (take i writes) ++ diff_of write ∷ []
  diffs_with epoch writes i write at after_ =
      diffs_more epoch writes i write at ∙ ap (λ b. diffs_after epoch (take i writes) ++ cond b (diff_of write ∷ []) []) (lt_true epoch write.epoch after_)

  pub diffs_without : (epoch : ℕ) (writes : List (Write K V)) (i : ℕ) (write : Write K V) → slice_get writes i ≡ Some write → write.epoch ≤ epoch
      → diffs_after epoch (take (i + 1) writes) ≡ diffs_after epoch (take i writes)
  diffs_without epoch writes i write at before =
      diffs_more epoch writes i write at
      ∙ ap (λ b. diffs_after epoch (take i writes) ++ cond b (diff_of write ∷ []) []) (lt_false epoch write.epoch before)
      ∙ append-nil (diffs_after epoch (take i writes))

  pub diffs_then : (epoch : ℕ) (writes : List (Write K V)) (i : ℕ) (write : Write K V) (diffs : List (K × V)) (key : K) (v : V) → slice_get writes i ≡ Some write → epoch < write.epoch
      → diffs ≡ diffs_after epoch (take i writes) → key ≡ write.key → v ≡ write.value → diffs ++ (key, v) ∷ [] ≡ diffs_after epoch (take (i + 1) writes)
  diffs_then epoch writes i write diffs key v at after_ was k w =
      let pair : (key, v) ≡ diff_of write = cc in
      ap (λ ds. ds ++ (key, v) ∷ []) was
      ∙ ap (λ (d : K × V). diffs_after epoch (take i writes) ++ d ∷ []) pair
      ∙ sym (diffs_with epoch writes i write at after_)
