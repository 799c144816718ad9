-- What open transactions keep of the writes after an epoch.
use Rattle.std.proofs.Common.{◌≡◌, ℕ, suc, ◌≤◌, le_trans, List, [], ◌∷◌, ◌++◌, map, refl, ap, subst, ◌∙◌, arith}
use Rattle.std.specs.declared.cmp.Ordering.{Ordering}
use Rattle.signal_txn.specs.declared.write.Write.{Write}
use Rattle.signal_txn.specs.Diffs.{diff_of, diffs_after}
use Rattle.signal_txn.specs.Histories.{first_joined, first_merged}
use Rattle.signal_txn.specs.Journal.{Journal, joined, committed}
use Rattle.signal_txn.specs.LastWrites.{LastWrites, one_write}
use Rattle.signal_txn.specs.Level.{Level, noted}
use Rattle.signal_txn.specs.Passing.{diffs_in, AreWholeIn, PassesOn}
use Rattle.signal_txn.specs.Turns.{AreInTurn}
use Rattle.signal_txn.proofs.TurnLemmas.{one_in_turn, dropped_grows, diffs-followed, later_one, note_last}

module _ {K V : Type 0} where
  abbrev pub journal : List (Level K V) → LastWrites K V → Journal K V
  journal levels ring = record { levels = levels; ring = ring }

  pub passes_committed : (levels : List (Level K V)) (ring : LastWrites K V) (high since : ℕ) → AreInTurn levels ring high
      → PassesOn first_merged (journal levels ring) (committed levels ring) since
  passes_committed [] ring high since turn = record { whole = λ w. w; diffs = λ w. refl }
  passes_committed (level ∷ []) ring high since turn =
      let grows = dropped_grows ring level.last turn.0 high 0 turn.2 turn.1 in
      record {
        whole = λ w. (le_trans grows.1 w, le_trans grows.0 w);
        diffs = λ w. ap (λ ds. ds ∷ []) (diffs-followed ring level.last turn.0 high 0 since turn.2 turn.1 w);
      }
  passes_committed (level ∷ outer ∷ around) ring high since turn =
      let grows = dropped_grows outer.last level.last turn.0 high turn.2.0 turn.2.1 turn.1 in
      record {
        whole = λ w. (le_trans grows.1 w.0, (le_trans grows.0 w.0, w.1));
        diffs = λ w. ap (λ ds. ds ∷ diffs_in since around ring) (diffs-followed outer.last level.last turn.0 high turn.2.0 since turn.2.1 turn.1 w.0);
      }

  pub passes_joined : (w : Write K V) (levels : List (Level K V)) (ring : LastWrites K V) (high since : ℕ) → w.epoch ≡ suc high → since ≤ high → AreInTurn levels ring high
      → PassesOn (first_joined (diff_of w)) (journal levels ring) (joined w levels ring) since
  passes_joined w [] ring high since is before turn =
      let one = one_in_turn high w is in
      let grows = dropped_grows ring (one_write w) high (suc high) 0 turn one in
      record {
        whole = λ k. le_trans grows.0 k;
        diffs = λ k. ap (λ ds. ds ∷ []) (diffs-followed ring (one_write w) high (suc high) 0 since turn one k
            ∙ ap (λ ds. diffs_after since ring.writes ++ ds) (later_one since w (omega arith)));
      }
  passes_joined w (level ∷ around) ring high since is before turn =
      let one = one_in_turn high w is in
      let grows = dropped_grows level.last (one_write w) high (suc high) turn.0 turn.1 one in
      record {
        whole = λ k. (le_trans grows.0 k.0, k.1);
        diffs = λ k. ap (λ ds. ds ∷ diffs_in since around ring) (diffs-followed level.last (one_write w) high (suc high) turn.0 since turn.1 one k.0
            ∙ ap (λ ds. diffs_after since level.last.writes ++ ds) (later_one since w (omega arith)));
      }

  diffs_noted : (cmp : K → K → Ordering) (key : K) (v : V) (levels : List (Level K V)) (ring : LastWrites K V) (since : ℕ)
      → diffs_in since (map (noted cmp key v) levels) ring ≡ diffs_in since levels ring
  diffs_noted cmp key v [] ring since = refl
  diffs_noted cmp key v (level ∷ around) ring since =
      ap (λ (last : LastWrites K V). diffs_after since last.writes ∷ diffs_in since (map (noted cmp key v) around) ring) (note_last cmp key v level)
      ∙ ap (λ rest. diffs_after since level.last.writes ∷ rest) (diffs_noted cmp key v around ring since)

  whole_noted : (cmp : K → K → Ordering) (key : K) (v : V) (levels : List (Level K V)) (ring : LastWrites K V) (since : ℕ)
      → AreWholeIn since (map (noted cmp key v) levels) ring → AreWholeIn since levels ring
  whole_noted cmp key v [] ring since w = w
  whole_noted cmp key v (level ∷ around) ring since w = (
    subst (λ (last : LastWrites K V). last.dropped ≤ since) (note_last cmp key v level) w.0,
    whole_noted cmp key v around ring since w.1,
  )

  -- where keys are noted all that is kept of the writes is as it was
  pub passes_noted : (cmp : K → K → Ordering) (key : K) (v : V) (levels : List (Level K V)) (ring : LastWrites K V) (since : ℕ)
      → PassesOn (λ lists. lists) (journal levels ring) (journal (map (noted cmp key v) levels) ring) since
  passes_noted cmp key v levels ring since =
      record { whole = whole_noted cmp key v levels ring since; diffs = λ w. diffs_noted cmp key v levels ring since }

  pub passes_in_turn : (f g : List (List (K × V)) → List (List (K × V))) (a b c : Journal K V) (since : ℕ)
      → PassesOn f a b since → PassesOn g b c since → PassesOn (λ lists. g (f lists)) a c since
  passes_in_turn f g a b c since first next = record {
    whole = λ w. first.whole (next.whole w);
    diffs = λ w. next.diffs w ∙ ap g (first.diffs (next.whole w));
  }
