-- Writes that follow one another.
use Rattle.std.proofs.Common.{lit<, ◌≡◌, ℕ, zero, suc, ◌+◌, ◌-◌, ◌<◌, ◌≤◌, List, [], ◌∷◌, ◌++◌, length, take, drop, max, Some, refl, sym, ◌∙◌, ap, append_assoc, arith}
use Rattle.std.proofs.lemmas.List.{length-append, length-drop, drop-drop, drop-append-le, take-append-le, append-nil}
use Rattle.std.proofs.Math.Seq.{take-add}
use Rattle.std.proofs.Math.Nat.{max-zero}
use Rattle.std.specs.List.{slice_get}
use Rattle.circular_buffer.specs.Buffer.{keep_last}
use Rattle.signal_txn.specs.declared.write.Write.{Write}
use Rattle.signal_txn.specs.LastWrites.{most_writes, LastWrites, one_write, fallen, last_epoch, followed}

module _ {X : Type 0} where
  -- what is kept of what was kept and of more
  pub keep_last-append : (n : ℕ) (xs ys : List X) → keep_last n (keep_last n xs ++ ys) ≡ keep_last n (xs ++ ys)
  keep_last-append n xs ys =
      let k = length xs - n in
      let long = length-drop k xs in
      let l : length (drop k xs ++ ys) ≡ length (drop k xs) + length ys = length-append (drop k xs) ys in
      let r : length (xs ++ ys) ≡ length xs + length ys = length-append xs ys in
      let moved : drop k xs ++ ys ≡ drop k (xs ++ ys) = sym (drop-append-le k xs ys (omega arith)) in
      ap (λ zs. drop (length (drop k xs ++ ys) - n) zs) moved
      ∙ drop-drop (length (drop k xs ++ ys) - n) k (xs ++ ys)
      ∙ ap (λ j. drop j (xs ++ ys)) (omega arith)

  pub drop_past : (k : ℕ) (xs ys : List X) → length xs ≤ k → drop k (xs ++ ys) ≡ drop (k - length xs) ys
  drop_past k [] ys far = let same : k ≡ k - 0 = omega arith in ap (λ n. drop n ys) same
  drop_past zero (x ∷ xs) ys far = absurd (omega arith)
  drop_past (suc k) (x ∷ xs) ys far =
      let same : k - length xs ≡ suc k - suc (length xs) = omega arith in
      drop_past k xs ys (omega arith) ∙ ap (λ n. drop n ys) same

  pub take_past : (k : ℕ) (xs ys : List X) → length xs ≤ k → take k (xs ++ ys) ≡ xs ++ take (k - length xs) ys
  take_past k [] ys far = let same : k ≡ k - 0 = omega arith in ap (λ n. take n ys) same
  take_past zero (x ∷ xs) ys far = absurd (omega arith)
  take_past (suc k) (x ∷ xs) ys far =
      let same : k - length xs ≡ suc k - suc (length xs) = omega arith in
      ap (λ zs. x ∷ zs) (take_past k xs ys (omega arith) ∙ ap (λ n. xs ++ take n ys) same)

  -- what is kept of some items and of what was kept of more
  keep_last-later : (n : ℕ) (xs ys : List X) → keep_last n (xs ++ keep_last n ys) ≡ keep_last n (xs ++ ys)
  keep_last-later n xs ys = at (length ys - n) refl
    where
      at : (k : ℕ) → length ys - n ≡ k
          → drop (length (xs ++ drop k ys) - n) (xs ++ drop k ys) ≡ drop (length (xs ++ ys) - n) (xs ++ ys)
      at zero is = refl
      at (suc k) is =
          let left : length (drop (suc k) ys) ≡ length ys - suc k = length-drop (suc k) ys in
          let first : length (xs ++ drop (suc k) ys) ≡ length xs + length (drop (suc k) ys) = length-append xs (drop (suc k) ys) in
          let all : length (xs ++ ys) ≡ length xs + length ys = length-append xs ys in
          let none : length (xs ++ drop (suc k) ys) - n - length xs ≡ 0 = omega arith in
          let more : length (xs ++ ys) - n - length xs ≡ suc k = omega arith in
          drop_past (length (xs ++ drop (suc k) ys) - n) xs (drop (suc k) ys) (omega arith)
          ∙ ap (λ j. drop j (drop (suc k) ys)) none
          ∙ sym (drop_past (length (xs ++ ys) - n) xs ys (omega arith) ∙ ap (λ j. drop j ys) more)

  -- what is kept of what was kept of both
  pub keep_last-both : (n : ℕ) (xs ys : List X) → keep_last n (keep_last n xs ++ keep_last n ys) ≡ keep_last n (xs ++ ys)
  keep_last-both n xs ys = keep_last-append n xs (keep_last n ys) ∙ keep_last-later n xs ys

  -- what isn't kept of some items, and then of what was kept and of more
  pub fallen-append : (n : ℕ) (xs ys : List X)
      → take (length (xs ++ ys) - n) (xs ++ ys) ≡ take (length xs - n) xs ++ take (length (keep_last n xs ++ ys) - n) (keep_last n xs ++ ys)
  fallen-append n xs ys =
      let k = length xs - n in
      let j = length (drop k xs ++ ys) - n in
      let long = length-drop k xs in
      let l : length (drop k xs ++ ys) ≡ length (drop k xs) + length ys = length-append (drop k xs) ys in
      let r : length (xs ++ ys) ≡ length xs + length ys = length-append xs ys in
      let both : length (xs ++ ys) - n ≡ k + j = omega arith in
      ap (λ i. take i (xs ++ ys)) both
      ∙ take-add k j (xs ++ ys)
      ∙ ap (λ zs. zs ++ take j (drop k (xs ++ ys))) (take-append-le k xs ys (omega arith))
      ∙ ap (λ zs. take k xs ++ take j zs) (drop-append-le k xs ys (omega arith))

  -- the first item and the rest
  pub first_rest : (xs : List X) (x : X) → slice_get xs 0 ≡ Some x → x ∷ drop 1 xs ≡ xs
  first_rest [] x is = absurd (cc)
  first_rest (y ∷ xs) x is = cc

  pub length-keep_last : (n : ℕ) (xs : List X) → length (keep_last n xs) ≤ n
  length-keep_last n xs = let e = length-drop (length xs - n) xs in omega (arith, e)

  -- of so few all are kept
  pub keep_last_few : (n : ℕ) (xs : List X) → length xs ≤ n → keep_last n xs ≡ xs
  keep_last_few n xs few = let e : length xs - n ≡ 0 = omega arith in ap (λ k. drop k xs) e

  pub fallen_few : (n : ℕ) (xs : List X) → length xs ≤ n → take (length xs - n) xs ≡ []
  fallen_few n xs few = let e : length xs - n ≡ 0 = omega arith in ap (λ k. take k xs) e

  -- of one more than are kept the first falls out
  pub fallen_one : (n : ℕ) (xs : List X) (x first : X) → length xs ≤ n → n ≤ length xs → 0 < n → slice_get (xs ++ x ∷ []) 0 ≡ Some first
      → take (length (xs ++ x ∷ []) - n) (xs ++ x ∷ []) ≡ first ∷ []
  fallen_one n [] x first most least some is = absurd (omega arith)
  fallen_one n (y ∷ xs) x first most least some is =
      let r : length (y ∷ xs ++ x ∷ []) ≡ length (y ∷ xs) + 1 = length-append (y ∷ xs) (x ∷ []) in
      let e : length (y ∷ xs ++ x ∷ []) - n ≡ suc zero = omega arith in
      let same : y ≡ first = some_same y first is in
      ap (λ k. take k (y ∷ xs ++ x ∷ [])) e ∙ ap (λ z. z ∷ []) same
    where
      some_same : (a b : X) → Some a ≡ Some b → a ≡ b
      some_same a b p = cc

module _ {K V : Type 0} where
  pub last_epoch-append : (epoch : ℕ) (xs ys : List (Write K V)) → last_epoch epoch (xs ++ ys) ≡ last_epoch (last_epoch epoch xs) ys
  last_epoch-append epoch [] ys = refl
  last_epoch-append epoch (x ∷ xs) ys = last_epoch-append x.epoch xs ys

  -- some writes of which none fell out
  abbrev pub some_writes : List (Write K V) → LastWrites K V
  some_writes writes = record { writes = writes; dropped = 0 }

  -- one that follows, and then more, are all that follow
  pub followed-more : (first : LastWrites K V) (write : Write K V) (rest : List (Write K V))
      → followed (followed first (one_write write)) (some_writes rest) ≡ followed first (some_writes (write ∷ rest))
  followed-more first write rest =
      let xs = first.writes ++ write ∷ [] in
      let one = last_epoch first.dropped (fallen xs) in
      let joined : xs ++ rest ≡ first.writes ++ write ∷ rest = append_assoc first.writes (write ∷ []) rest in
      let writes : keep_last most_writes (keep_last most_writes xs ++ rest) ≡ keep_last most_writes (first.writes ++ write ∷ rest) =
      keep_last-append most_writes xs rest ∙ ap (keep_last most_writes) joined in
      let dropped : max (last_epoch (max one 0) (fallen (keep_last most_writes xs ++ rest))) 0 ≡ max (last_epoch first.dropped (fallen (first.writes ++ write ∷ rest))) 0 =
      ap (λ d. max (last_epoch d (fallen (keep_last most_writes xs ++ rest))) 0) (max-zero one)
      ∙ ap (λ d. max d 0) (sym (last_epoch-append first.dropped (fallen xs) (fallen (keep_last most_writes xs ++ rest))) ∙ ap (last_epoch first.dropped) (sym (fallen-append most_writes xs rest) ∙ ap fallen joined)) in
      cc

  -- where none follow nothing changes
  pub followed-none : (first : LastWrites K V) → length first.writes ≤ most_writes → followed first (some_writes []) ≡ first
  followed-none first few =
      let nil : first.writes ++ [] ≡ first.writes = append-nil first.writes in
      let writes : keep_last most_writes (first.writes ++ []) ≡ first.writes = ap (keep_last most_writes) nil ∙ keep_last_few most_writes first.writes few in
      let dropped : max (last_epoch first.dropped (fallen (first.writes ++ []))) 0 ≡ first.dropped =
      max-zero _ ∙ ap (λ ws. last_epoch first.dropped (fallen ws)) nil ∙ ap (last_epoch first.dropped) (fallen_few most_writes first.writes few) in
      ap (λ ws. record { writes = ws; dropped = max (last_epoch first.dropped (fallen (first.writes ++ []))) 0 }) writes ∙ ap (λ d. record { writes = first.writes; dropped = d }) dropped

  -- a write follows some that are as many as are kept
  pub joined_full : (first : LastWrites K V) (write oldest : Write K V) → length first.writes ≤ most_writes → most_writes ≤ length first.writes
      → slice_get (first.writes ++ write ∷ []) 0 ≡ Some oldest → followed first (one_write write) ≡ record { writes = keep_last most_writes (first.writes ++ write ∷ []); dropped = oldest.epoch }
  joined_full first write oldest most least is =
      let one = fallen_one most_writes first.writes write oldest most least (lit< tt) is in
      let dropped : max (last_epoch first.dropped (fallen (first.writes ++ write ∷ []))) 0 ≡ oldest.epoch = max-zero _ ∙ ap (last_epoch first.dropped) one in
      cc

  -- a write follows some that are fewer than are kept
  pub joined_room : (first : LastWrites K V) (write : Write K V) → length first.writes < most_writes
      → followed first (one_write write) ≡ record { writes = keep_last most_writes (first.writes ++ write ∷ []); dropped = first.dropped }
  joined_room first write few =
      let e = length-append first.writes (write ∷ []) in
      let none = fallen_few most_writes (first.writes ++ write ∷ []) (omega (arith, e)) in
      let dropped : max (last_epoch first.dropped (fallen (first.writes ++ write ∷ []))) 0 ≡ first.dropped = max-zero _ ∙ ap (last_epoch first.dropped) none in
      cc
