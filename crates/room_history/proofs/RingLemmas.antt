-- The last entries, with one more.
use Rattle.std.proofs.Common.{◌≡◌, ℕ, ◌-◌, ◌+◌, List, [], ◌∷◌, ◌++◌, length, map, drop, sym, ap, ◌∙◌, arith}
use Rattle.std.proofs.lemmas.List.{length-append, length-drop, drop-drop, drop-append-le, drop-map, length-map}
use Rattle.circular_buffer.specs.Buffer.{keep_last}

module _ {X : Type 0} where
  -- what is kept of what was kept, and one more
  pub keep_last-more : (n : ℕ) (xs : List X) (x : X) → keep_last n (keep_last n xs ++ x ∷ []) ≡ keep_last n (xs ++ x ∷ [])
  keep_last-more n xs x =
      let k = length xs - n in
      let long = length-drop k xs in
      let l : length (drop k xs ++ x ∷ []) ≡ length (drop k xs) + 1 = length-append (drop k xs) (x ∷ []) in
      let r : length (xs ++ x ∷ []) ≡ length xs + 1 = length-append xs (x ∷ []) in
      let moved : drop k xs ++ x ∷ [] ≡ drop k (xs ++ x ∷ []) = sym (drop-append-le k xs (x ∷ []) (omega arith)) in
      ap (λ ys. drop (length (drop k xs ++ x ∷ []) - n) ys) moved
      ∙ drop-drop (length (drop k xs ++ x ∷ []) - n) k (xs ++ x ∷ [])
      ∙ ap (λ j. drop j (xs ++ x ∷ [])) (omega arith)

pub keep_last-map : {X Y : Type 0} (f : X → Y) (n : ℕ) (xs : List X) → map f (keep_last n xs) ≡ keep_last n (map f xs)
keep_last-map f n xs = sym (drop-map f (length xs - n) xs) ∙ ap (λ l. drop (l - n) (map f xs)) (sym (length-map xs f))
