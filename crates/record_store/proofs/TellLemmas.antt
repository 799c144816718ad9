-- What a store tells of its writes, as transactions are opened, committed and aborted.
use Rattle.std.proofs.Common.{◌≡◌, ◌⊎◌, ℕ, suc, ◌<◌, ◌≤◌, le_trans, Bool, true, false, List, [], ◌∷◌, length, inl, inr, refl, sym, ap, subst, ◌∙◌, arith, ltb-true, ltb-false}
use Rattle.std.specs.Prelude.{nat_lt}
use Rattle.rooms_val.specs.Data.{Pairs}
use Rattle.signal_values.specs.Cells as cells
use Rattle.signal_values.specs.Seen.{top}
use Rattle.signal_txn.specs.Journal.{committed}
use Rattle.signal_txn.specs.LastWrites.{LastWrites, followed}
use Rattle.signal_txn.specs.Level.{Level, unwritten}
use Rattle.signal_txn.specs.Seen.{IsCommitted, IsAborted}
use Rattle.signal_txn.specs.Since.{IsUnknown, diffs_after}
use Rattle.tl_rules.specs.Exact.{key_cmp}
use Rattle.tl_rules.specs.Meaning.{tl_meaning}
use Rattle.tl_rules.specs.declared.key.TlKey.{TlKey}
use Rattle.tl_rules.specs.declared.value.TlValue.{TlValue}
use Rattle.record_store.specs.Lists.{Board, atoms_of, records_of, AreTurned, LeadsIn, Leads, AreTold, ChangesOnly}
use Rattle.record_store.specs.Seen.{Keys, records_under}
use Rattle.signal_txn.specs.Turns.{AreInTurn}
use Rattle.record_store.specs.Tells.{written_all}
use Rattle.record_store.proofs.LeadLemmas.{written-append}
use Rattle.signal_txn.proofs.TurnLemmas.{dropped_grows, diffs-followed, turned_opened, turned_committed, turned_aborted}
use Rattle.record_store.proofs.FrameLemmas.{epoch_after}

-- the atoms are those of the graph
pub atoms_same : (a b : Board) → a.graph ≡ b.graph → atoms_of a ≡ atoms_of b
atoms_same a b same = λ i. cells.atoms_of tl_meaning key_cmp (same i).values.rows

-- writes stand in their order where a transaction was opened, committed or aborted
pub open_turned : (old opened : Board) → opened.graph ≡ old.graph → opened.journal ≡ record old.journal { levels = unwritten ∷ old.journal.levels } → AreTurned old → AreTurned opened
open_turned old opened graph journal turned =
    subst (λ gr. AreInTurn opened.journal.levels opened.journal.ring gr.values.epoch) (sym graph)
    (subst (λ j. AreInTurn j.levels j.ring old.graph.values.epoch) (sym journal) (turned_opened old.journal.levels old.journal.ring old.graph.values.epoch turned))

pub commit_turned : (written new : Board) → IsCommitted tl_meaning key_cmp written new → AreTurned written → AreTurned new
commit_turned written new commits turned =
    subst (λ gr. AreInTurn new.journal.levels new.journal.ring gr.values.epoch) (sym commits.graph)
    (subst (λ j. AreInTurn j.levels j.ring written.graph.values.epoch) (sym commits.journal)
    (turned_committed written.journal.levels written.journal.ring written.graph.values.epoch turned))

pub abort_turned : (written new : Board) → IsAborted tl_meaning key_cmp written new → AreTurned written → AreTurned new
abort_turned written new aborts turned =
    subst (λ r. AreInTurn new.journal.levels r new.graph.values.epoch) (sym aborts.ring)
    (turned_aborted aborts.level new.journal.levels written.journal.ring written.graph.values.epoch new.graph.values.epoch (epoch_after written.graph.values new.graph.values aborts.epoch aborts.changed)
    (subst (λ ls. AreInTurn ls written.journal.ring written.graph.values.epoch) aborts.levels turned))

one_level : (ls : List (Level TlKey TlValue)) → length ls ≡ 1 → (level : Level TlKey TlValue) × (ls ≡ level ∷ [])
one_level [] e = absurd (omega arith)
one_level (l ∷ []) e = (l, refl)
one_level (l ∷ k ∷ ls) e = absurd (let more : suc (suc (length ls)) ≡ 1 = e in omega arith)

-- a write where no transaction is open: one was opened, written in and committed
pub record IsWrittenAlone (keys : Keys) (P : TlKey → Type 0) (old opened written new : Board) : Type 0 where
  pub none : old.journal.levels ≡ []
  pub opens : opened.journal ≡ record old.journal { levels = unwritten ∷ old.journal.levels }
  pub graph : opened.graph ≡ old.graph
  pub change : ChangesOnly P opened written
  pub told : AreTold keys opened written
  pub commits : IsCommitted tl_meaning key_cmp written new
  pub order : old.graph.values.epoch < top → AreTurned old
  pub highest : new.graph.values.epoch ≤ top

module _ (keys : Keys) (P : TlKey → Type 0) (old opened written new : Board) (w : IsWrittenAlone keys P old opened written new) where
  the_level : (level : Level TlKey TlValue) × (written.journal.levels ≡ level ∷ [])
  the_level = one_level written.journal.levels (w.change.depth ∙ ap (λ j. length j.levels) w.opens ∙ ap (λ ls. length (unwritten ∷ ls)) w.none)

  abbrev last : LastWrites TlKey TlValue
  last = the_level.0.last

  ring_new : new.journal.ring ≡ followed old.journal.ring last
  ring_new =
      ap (λ j. j.ring) w.commits.journal ∙ ap (λ ls. (committed ls written.journal.ring).ring) the_level.1
      ∙ ap (λ r. followed r last) (w.change.ring (λ none. let some : unwritten ∷ old.journal.levels ≡ [] = sym (ap (λ j. j.levels) w.opens) ∙ none in cc) ∙ ap (λ j. j.ring) w.opens)

  epochs : old.graph.values.epoch ≤ new.graph.values.epoch
  epochs = let a = w.change.epoch in let b : opened.graph.values.epoch ≡ old.graph.values.epoch = ap (λ gr. gr.values.epoch) w.graph in
      let d : new.graph.values.epoch ≡ written.graph.values.epoch = ap (λ gr. gr.values.epoch) w.commits.graph in omega arith

  abbrev Tells : ℕ → Type 0
  Tells since = IsUnknown new since ⊎ ((IsUnknown old since → ⊥) × ((m : Pairs)
      → written_all m (diffs_after since old.journal.ring.writes) ≡ records_of keys old → written_all m (diffs_after since new.journal.ring.writes) ≡ records_of keys new))

  module _ (since : ℕ) (before : since ≤ old.graph.values.epoch) (known : new.journal.ring.dropped ≤ since) (below : new.graph.values.epoch < top) where
    below_written : written.graph.values.epoch < top
    below_written = subst (λ gr. gr.values.epoch < top) w.commits.graph below

    turned_opened_ : AreTurned opened
    turned_opened_ = open_turned old opened w.graph w.opens (w.order (let e = epochs in omega arith))

    turns : AreInTurn (the_level.0 ∷ []) old.journal.ring written.graph.values.epoch
    turns =
        subst (λ r. AreInTurn (the_level.0 ∷ []) r written.graph.values.epoch)
        (w.change.ring (λ none. let some : unwritten ∷ old.journal.levels ≡ [] = sym (ap (λ j. j.levels) w.opens) ∙ none in cc) ∙ ap (λ j. j.ring) w.opens)
        (subst (λ ls. AreInTurn ls written.journal.ring written.graph.values.epoch) the_level.1 (w.change.order below_written turned_opened_))

    dropped : (followed old.journal.ring last).dropped ≤ since
    dropped = subst (λ r. r.dropped ≤ since) ring_new known

    grows : (old.journal.ring.dropped ≤ (followed old.journal.ring last).dropped) × (last.dropped ≤ (followed old.journal.ring last).dropped)
    grows = dropped_grows old.journal.ring last turns.0 written.graph.values.epoch 0 turns.2 turns.1

    leads : Leads since (records_of keys opened) (records_of keys written) written
    leads =
        w.told since (records_of keys opened) (subst (λ gr. since ≤ gr.values.epoch) (sym w.graph) before) turned_opened_ below_written
        (subst (λ j. LeadsIn since (records_of keys opened) (records_of keys opened) j.levels) (sym w.opens) (λ fallen. refl))

    led : written_all (records_of keys opened) (diffs_after since last.writes) ≡ records_of keys written
    led = subst (LeadsIn since (records_of keys opened) (records_of keys written)) the_level.1 leads (le_trans grows.1 dropped)

    pub was_known : IsUnknown old since → ⊥
    was_known (inl less) = let g = grows.0 in let d = dropped in omega arith
    was_known (inr (inl less)) = omega arith
    was_known (inr (inr is_top)) = let e = epochs in omega arith

    pub tells : (m : Pairs) → written_all m (diffs_after since old.journal.ring.writes) ≡ records_of keys old → written_all m (diffs_after since new.journal.ring.writes) ≡ records_of keys new
    tells m told_ =
        ap (λ r. written_all m (diffs_after since r.writes)) ring_new
        ∙ ap (written_all m) (diffs-followed old.journal.ring last turns.0 written.graph.values.epoch 0 since turns.2 turns.1 dropped)
        ∙ written-append m (diffs_after since old.journal.ring.writes) (diffs_after since last.writes)
        ∙ ap (λ n. written_all n (diffs_after since last.writes)) (told_ ∙ ap (records_under keys) (sym (atoms_same opened old w.graph)))
        ∙ led ∙ ap (records_under keys) (sym (atoms_same new written w.commits.graph))

  pub tells_on : (since : ℕ) → since ≤ old.graph.values.epoch → Tells since
  tells_on since before = at (nat_lt since new.journal.ring.dropped) (nat_lt new.graph.values.epoch top) refl refl
    where
      at : (b d : Bool) → nat_lt since new.journal.ring.dropped ≡ b → nat_lt new.graph.values.epoch top ≡ d → Tells since
      at true d fell e = inl (inl (ltb-true since new.journal.ring.dropped fell))
      at false false fell e = let high = ltb-false new.graph.values.epoch top e in let low = w.highest in inl (inr (inr (omega arith)))
      at false true fell e =
          let known = ltb-false since new.journal.ring.dropped fell in let below = ltb-true new.graph.values.epoch top e in
          inr (was_known since before known below, tells since before known below)
