-- What is kept of writes and of later ones.
use Rattle.std.proofs.Common.{◌≡◌, ℕ, zero, suc, ◌+◌, ◌-◌, ◌<◌, ◌≤◌, List, [], ◌∷◌, ◌++◌, length, take, drop, max, refl, sym, ◌∙◌, ap, arith}
use Rattle.std.proofs.lemmas.List.{length-append, length-drop, take-append-drop, take_at}
use Rattle.std.proofs.Math.Nat.{max-zero}
use Rattle.circular_buffer.specs.Buffer.{keep_last}
use Rattle.signal_txn.specs.declared.write.Write.{Write}
use Rattle.signal_txn.specs.LastWrites.{LastWrites, most_writes, fallen, last_epoch, kept, followed}
use Rattle.signal_txn.specs.Turns.{Rise}
use Rattle.signal_txn.proofs.LastWritesLemmas.{take_past, keep_last-both, fallen-append, last_epoch-append}
use Rattle.signal_txn.proofs.TurnLemmas.{last_grows}

module _ {K V : Type 0} where
  last-bound : (low high : ℕ) (ws : List (Write K V)) → Rise low ws high → last_epoch low ws ≤ high
  last-bound low high [] rise = rise
  last-bound low high (w ∷ ws) rise = last-bound w.epoch high ws rise.1

  -- the last of some writes is none before them
  last-some : (epoch k : ℕ) (ws : List (Write K V)) → 0 < length ws → last_epoch epoch (take (suc k) ws) ≡ last_epoch 0 (take (suc k) ws)
  last-some epoch k [] some = absurd (omega arith)
  last-some epoch k (w ∷ ws) some = refl

  last-above : (low high k : ℕ) (ws : List (Write K V)) → 0 < length ws → Rise low ws high → low ≤ last_epoch 0 (take (suc k) ws)
  last-above low high k [] some rise = absurd (omega arith)
  last-above low high k (w ∷ ws) some rise = let later = last_grows k w.epoch high ws rise.1 in let here = rise.0 in omega arith

  abbrev left_of : List (Write K V) → List (Write K V)
  left_of ws = keep_last most_writes ws

  kept_dropped : (ws vs : List (Write K V)) (mid high : ℕ) → Rise 0 ws mid → Rise mid vs high
      → max (last_epoch (last_epoch 0 (fallen ws)) (fallen (keep_last most_writes ws ++ keep_last most_writes vs))) (last_epoch 0 (fallen vs)) ≡ last_epoch 0 (fallen (ws ++ vs))
  kept_dropped ws vs mid high first later = at (length vs - most_writes) refl
    where
      at : (k : ℕ) → length vs - most_writes ≡ k
          → max (last_epoch (last_epoch 0 (fallen ws)) (fallen (left_of ws ++ drop k vs))) (last_epoch 0 (take k vs)) ≡ last_epoch 0 (fallen (ws ++ vs))
      at zero is =
          max-zero (last_epoch (last_epoch 0 (fallen ws)) (fallen (left_of ws ++ vs)))
          ∙ sym (last_epoch-append 0 (fallen ws) (fallen (left_of ws ++ vs)))
          ∙ ap (last_epoch 0) (sym (fallen-append most_writes ws vs))
      at (suc k) is =
          let some : 0 < length vs = omega arith in
          let rest : length (drop (suc k) vs) ≡ length vs - suc k = length-drop (suc k) vs in
          let front : length (left_of ws ++ drop (suc k) vs) ≡ length (left_of ws) + length (drop (suc k) vs) = length-append (left_of ws) (drop (suc k) vs) in
          let all : length (ws ++ vs) ≡ length ws + length vs = length-append ws vs in
          let out : length (left_of ws ++ drop (suc k) vs) - most_writes ≡ length (left_of ws) = omega arith in
          let old : fallen (left_of ws ++ drop (suc k) vs) ≡ left_of ws =
          ap (λ j. take j (left_of ws ++ drop (suc k) vs)) out ∙ take_at (left_of ws) (drop (suc k) vs) (length (left_of ws)) refl in
          let before : last_epoch (last_epoch 0 (fallen ws)) (left_of ws) ≡ last_epoch 0 ws =
          sym (last_epoch-append 0 (fallen ws) (left_of ws)) ∙ ap (last_epoch 0) (take-append-drop (length ws - most_writes) ws) in
          let later_out : length (ws ++ vs) - most_writes - length ws ≡ suc k = omega arith in
          let new : fallen (ws ++ vs) ≡ ws ++ take (suc k) vs =
          take_past (length (ws ++ vs) - most_writes) ws vs (omega arith) ∙ ap (λ j. ws ++ take j vs) later_out in
          let after : last_epoch 0 (fallen (ws ++ vs)) ≡ last_epoch 0 (take (suc k) vs) =
          ap (last_epoch 0) new ∙ last_epoch-append 0 ws (take (suc k) vs) ∙ last-some (last_epoch 0 ws) k vs some in
          let low : last_epoch 0 ws ≤ mid = last-bound 0 mid ws first in
          let high_ : mid ≤ last_epoch 0 (take (suc k) vs) = last-above mid high k vs some later in
          let greater : max (last_epoch 0 ws) (last_epoch 0 (take (suc k) vs)) ≡ last_epoch 0 (take (suc k) vs) = omega arith in
          ap (λ e. max e (last_epoch 0 (take (suc k) vs))) (ap (last_epoch (last_epoch 0 (fallen ws))) old ∙ before) ∙ greater ∙ sym after

  both_kept : (a b : List (Write K V)) (c d : ℕ) → a ≡ b → c ≡ d → let x : LastWrites K V = record { writes = a; dropped = c } in let y : LastWrites K V = record { writes = b; dropped = d } in x ≡ y
  both_kept a b c d same equal = cc

  -- what is kept of writes, followed by what is kept of later ones, is what is kept of all
  pub kept_followed : (ws vs : List (Write K V)) (mid high : ℕ) → Rise 0 ws mid → Rise mid vs high → followed (kept ws) (kept vs) ≡ kept (ws ++ vs)
  kept_followed ws vs mid high first later = both_kept _ _ _ _ (keep_last-both most_writes ws vs) (kept_dropped ws vs mid high first later)
