-- What transactions keep of all writes.
use Rattle.std.proofs.Common.{◌≡◌, ℕ, zero, suc, ◌-◌, ◌<◌, ◌≤◌, List, [], ◌∷◌, ◌++◌, length, map, take, drop, refl, sym, ap, subst, ◌∙◌, arith}
use Rattle.std.proofs.lemmas.List.{length-drop}
use Rattle.std.specs.declared.cmp.Ordering.{Ordering}
use Rattle.signal_txn.specs.declared.write.Write.{Write}
use Rattle.signal_txn.specs.Diffs.{diffs_after}
use Rattle.signal_txn.specs.Histories.{History, last_list, first_joined, first_merged, KeepsLast, KeepEach}
use Rattle.signal_txn.specs.Journal.{joined, committed}
use Rattle.signal_txn.specs.LastWrites.{LastWrites, most_writes, one_write, last_epoch, kept, followed}
use Rattle.signal_txn.specs.Level.{Level, unwritten, noted}
use Rattle.signal_txn.specs.Turns.{Rise, IsInTurn, AreInTurn}
use Rattle.signal_txn.proofs.KeptLemmas.{kept_followed}
use Rattle.signal_txn.proofs.TurnLemmas.{rise-bound, rise-later, rise-lower, rise-append, rise-drop, rise-fallen, diffs-fallen, note_last}

module _ {K V : Type 0} where
  keeps_followed : (low mid high : ℕ) (ws vs : List (Write K V)) (last later : LastWrites K V)
      → KeepsLast low mid ws last → KeepsLast mid high vs later → KeepsLast low high (ws ++ vs) (followed last later)
  keeps_followed low mid high ws vs last later a b = record {
    rise = rise-append low mid high ws vs a.rise b.rise;
    last =
        ap (λ l. followed l later) a.last ∙ ap (followed (kept ws)) b.last
        ∙ kept_followed ws vs mid high (rise-lower 0 low mid ws (omega arith) a.rise) b.rise;
  }

  keeps_one : (high : ℕ) (w : Write K V) → w.epoch ≡ suc high → KeepsLast high (suc high) (w ∷ []) (one_write w)
  keeps_one high w is = record { rise = (omega arith, omega arith); last = refl }

  keeps_longer : (low high next : ℕ) (ws : List (Write K V)) (last : LastWrites K V) → high ≤ next → KeepsLast low high ws last → KeepsLast low next ws last
  keeps_longer low high next ws last more k = record { rise = rise-later low high next ws more k.rise; last = k.last }

  pub keeps_joined : (w : Write K V) (history : History K V) (levels : List (Level K V)) (ring : LastWrites K V) (high : ℕ) → w.epoch ≡ suc high
      → KeepEach history levels ring high → KeepEach (first_joined w history) (joined w levels ring).levels (joined w levels ring).ring (suc high)
  keeps_joined w [] levels ring high is k = absurd k
  keeps_joined w (ws ∷ rest) [] ring high is k = (k.0, keeps_followed 0 high (suc high) ws (w ∷ []) ring (one_write w) k.1 (keeps_one high w is))
  keeps_joined w (ws ∷ rest) (level ∷ around) ring high is k =
      (k.0, keeps_followed k.0 high (suc high) ws (w ∷ []) level.last (one_write w) k.1 (keeps_one high w is), k.2)

  pub keeps_committed : (history : History K V) (levels : List (Level K V)) (ring : LastWrites K V) (high : ℕ)
      → KeepEach history levels ring high → KeepEach (first_merged history) (committed levels ring).levels (committed levels ring).ring high
  keeps_committed [] levels ring high k = absurd k
  keeps_committed (ws ∷ rest) [] ring high k =
      subst (λ (r : History K V). KeepEach (first_merged (ws ∷ r)) [] ring high) (sym k.0) (refl, k.1)
  keeps_committed (ws ∷ []) (level ∷ []) ring high k = absurd k.2
  keeps_committed (ws ∷ us ∷ rest) (level ∷ []) ring high k =
      (k.2.0, keeps_followed 0 k.0 high us ws ring level.last k.2.1 k.1)
  keeps_committed (ws ∷ []) (level ∷ outer ∷ around) ring high k = absurd k.2
  keeps_committed (ws ∷ us ∷ rest) (level ∷ outer ∷ around) ring high k =
      (k.2.0, keeps_followed k.2.0 k.0 high us ws outer.last level.last k.2.1 k.1, k.2.2)

  pub keeps_opened : (history : History K V) (levels : List (Level K V)) (ring : LastWrites K V) (high : ℕ)
      → KeepEach history levels ring high → KeepEach ([] ∷ history) (unwritten ∷ levels) ring high
  keeps_opened history levels ring high k = (high, record { rise = omega arith; last = refl }, k)

  keeps_later : (history : History K V) (levels : List (Level K V)) (ring : LastWrites K V) (high next : ℕ) → high ≤ next
      → KeepEach history levels ring high → KeepEach history levels ring next
  keeps_later [] levels ring high next more k = absurd k
  keeps_later (ws ∷ rest) [] ring high next more k = (k.0, keeps_longer 0 high next ws ring more k.1)
  keeps_later (ws ∷ rest) (level ∷ around) ring high next more k = (k.0, keeps_longer k.0 high next ws level.last more k.1, k.2)

  pub keeps_dropped : (history : History K V) (level : Level K V) (around : List (Level K V)) (ring : LastWrites K V) (high next : ℕ) → high ≤ next
      → KeepEach history (level ∷ around) ring high → KeepEach (drop 1 history) around ring next
  keeps_dropped [] level around ring high next more k = absurd k
  keeps_dropped (ws ∷ rest) level around ring high next more k =
      let low = rise-bound k.0 high ws k.1.rise in keeps_later rest around ring k.0 next (omega arith) k.2

  pub keeps_noted : (cmp : K → K → Ordering) (key : K) (v : V) (history : History K V) (levels : List (Level K V)) (ring : LastWrites K V) (high : ℕ)
      → KeepEach history levels ring high → KeepEach history (map (noted cmp key v) levels) ring high
  keeps_noted cmp key v [] levels ring high k = absurd k
  keeps_noted cmp key v (ws ∷ rest) [] ring high k = k
  keeps_noted cmp key v (ws ∷ rest) (level ∷ around) ring high k = (
    k.0,
    subst (λ (last : LastWrites K V). KeepsLast k.0 high ws last) (sym (note_last cmp key v level)) k.1,
    keeps_noted cmp key v rest around ring k.0 k.2,
  )

  keeps_ring : (history : History K V) (levels : List (Level K V)) (ring : LastWrites K V) (high : ℕ)
      → KeepEach history levels ring high → (mid : ℕ) × KeepsLast 0 mid (last_list history) ring
  keeps_ring [] levels ring high k = absurd k
  keeps_ring (ws ∷ rest) [] ring high k =
      subst (λ (r : History K V). (mid : ℕ) × KeepsLast 0 mid (last_list (ws ∷ r)) ring) (sym k.0) (high, k.1)
  keeps_ring (ws ∷ []) (level ∷ around) ring high k = absurd k.2
  keeps_ring (ws ∷ us ∷ rest) (level ∷ around) ring high k = keeps_ring (us ∷ rest) around ring k.0 k.2

  -- what is kept of the committed writes tells all of them after an epoch from which on none fell out
  pub diffs-all : (since : ℕ) (history : History K V) (levels : List (Level K V)) (ring : LastWrites K V) (high : ℕ)
      → KeepEach history levels ring high → ring.dropped ≤ since → diffs_after since ring.writes ≡ diffs_after since (last_list history)
  diffs-all since history levels ring high k known =
      let keeps = keeps_ring history levels ring high k in
      let ws = last_list history in
      ap (λ (r : LastWrites K V). diffs_after since r.writes) keeps.1.last
      ∙ diffs-fallen (length ws - most_writes) 0 keeps.0 since ws keeps.1.rise (subst (λ (r : LastWrites K V). r.dropped ≤ since) keeps.1.last known)

  kept_in_turn : (low high : ℕ) (ws : List (Write K V)) → Rise low ws high → IsInTurn low high (kept ws)
  kept_in_turn low high ws rise = record {
    above = rise-drop (length ws - most_writes) low high ws rise;
    fallen = rise-fallen (length ws - most_writes) 0 high ws (rise-lower 0 low high ws (omega arith) rise);
    full = at (length ws - most_writes) refl;
  }
    where
      at : (k : ℕ) → length ws - most_writes ≡ k → 0 < last_epoch 0 (take k ws) → most_writes ≤ length (drop k ws)
      at zero is some = absurd (omega arith)
      at (suc k) is some = let left : length (drop (suc k) ws) ≡ length ws - suc k = length-drop (suc k) ws in omega arith

  -- what is kept of a history stands in its order
  pub keeps_in_turn : (history : History K V) (levels : List (Level K V)) (ring : LastWrites K V) (high : ℕ)
      → KeepEach history levels ring high → AreInTurn levels ring high
  keeps_in_turn [] levels ring high k = absurd k
  keeps_in_turn (ws ∷ rest) [] ring high k =
      subst (λ (last : LastWrites K V). IsInTurn 0 high last) (sym k.1.last) (kept_in_turn 0 high ws k.1.rise)
  keeps_in_turn (ws ∷ rest) (level ∷ around) ring high k = (
    k.0,
    subst (λ (last : LastWrites K V). IsInTurn k.0 high last) (sym k.1.last) (kept_in_turn k.0 high ws k.1.rise),
    keeps_in_turn rest around ring k.0 k.2,
  )
