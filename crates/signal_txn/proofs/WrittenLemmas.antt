-- What a set of an atom leaves of the writes that are kept.
use Rattle.std.proofs.Common.{◌≡◌, inl, inr, ℕ, suc, ◌+◌, ◌<◌, ◌≤◌, Bool, true, false, cond, List, map, refl, sym, ap, subst, ◌∙◌, arith, lt-ltb}
use Rattle.std.specs.Prelude.{nat_lt}
use Rattle.std.specs.declared.cmp.Ordering.{Ordering}
use Rattle.signal_rules.specs.Meaning.{Meaning}
use Rattle.signal_values.specs.Seen as values
use Rattle.signal_values.specs.Seen.{IsSet, risen, top}
use Rattle.signal_txn.specs.declared.write.Write.{Write}
use Rattle.signal_txn.specs.Histories.{Keeps, first_joined}
use Rattle.signal_txn.specs.Journal.{Journal, joined}
use Rattle.signal_txn.specs.Level.{Level, noted}
use Rattle.signal_txn.specs.Passing.{PassesOn}
use Rattle.signal_txn.specs.Seen.{Seen, atoms_in, AreInOrder, KeepsOn, ChangesOnce, StaysUnlessChanged}
use Rattle.signal_txn.proofs.HistoryLemmas.{keeps_joined, keeps_noted}
use Rattle.signal_txn.proofs.PassingLemmas.{journal, passes_joined, passes_noted, passes_in_turn}
use Rattle.signal_txn.proofs.TurnLemmas.{turned_noted}

pub risen_below : (epoch next : ℕ) → next ≡ risen epoch → next < top → next ≡ suc epoch
risen_below epoch next is below = at (nat_lt epoch top) refl
  where
    at : (b : Bool) → nat_lt epoch top ≡ b → next ≡ suc epoch
    at true e = let r : next ≡ epoch + 1 = is ∙ ap (λ b. cond b (epoch + 1) epoch) e in omega arith
    at false e =
        let r : next ≡ epoch = is ∙ ap (λ b. cond b (epoch + 1) epoch) e in
        let yes_ : nat_lt epoch top ≡ true = ap (λ n. nat_lt n top) (sym r) ∙ lt-ltb next top below in
        cc

pub risen_above : (epoch : ℕ) → epoch ≤ risen epoch
risen_above epoch = at (nat_lt epoch top)
  where
    at : (b : Bool) → epoch ≤ cond b (epoch + 1) epoch
    at true = omega arith
    at false = omega arith

-- the epoch doesn't fall where an atom changes
pub epoch_after : {R K V : Type 0} (m : Meaning K V) (cmp : K → K → Ordering) (old new : values.Seen R K V)
    → StaysUnlessChanged m cmp old new → ((key : K) → ChangesOnce m cmp old new key) → old.epoch ≤ new.epoch
epoch_after m cmp old new (inl same) once = omega (arith, same)
epoch_after m cmp old new (inr other) once = omega (arith, risen_above old.epoch, ((once other.0).differs other.1).0)

module _ {R K V : Type 0} (m : Meaning K V) (cmp : K → K → Ordering) (old new : Seen R K V) (key : K) (v : V) (changes : Bool)
    (set : IsSet m cmp old.graph.values new.graph.values key v changes)
    (joins : changes ≡ true → new.journal ≡ joined (record { key = key; value = v; epoch = new.graph.values.epoch }) (map (noted cmp key (atoms_in m cmp old key)) old.journal.levels) old.journal.ring)
    (stays : changes ≡ false → new.journal ≡ record { levels = map (noted cmp key (atoms_in m cmp old key)) old.journal.levels; ring = old.journal.ring })
  where
    abbrev levels : List (Level K V)
    levels = map (noted cmp key (atoms_in m cmp old key)) old.journal.levels

    abbrev write : Write K V
    write = record { key = key; value = v; epoch = new.graph.values.epoch }

    next_epoch : changes ≡ true → new.graph.values.epoch < top → new.graph.values.epoch ≡ suc old.graph.values.epoch
    next_epoch is below = risen_below old.graph.values.epoch new.graph.values.epoch (set.differs is).1 below

    pub set_writes : KeepsOn (λ history. cond changes (first_joined write history) history) old new
    set_writes below history keeps = at changes refl
      where
        first : Keeps history (journal levels old.journal.ring) old.graph.values.epoch
        first = keeps_noted cmp key (atoms_in m cmp old key) history old.journal.levels old.journal.ring old.graph.values.epoch keeps

        at : (b : Bool) → changes ≡ b → Keeps (cond b (first_joined write history) history) new.journal new.graph.values.epoch
        at true is =
            subst (λ (n : ℕ). Keeps (first_joined write history) new.journal n) (sym (next_epoch is below))
            (subst (λ (j : Journal K V). Keeps (first_joined write history) j (suc old.graph.values.epoch)) (sym (joins is))
            (keeps_joined write history levels old.journal.ring old.graph.values.epoch (next_epoch is below) first))
        at false is =
            subst (λ (n : ℕ). Keeps history new.journal n) (sym (set.same is).1)
            (subst (λ (j : Journal K V). Keeps history j old.graph.values.epoch) (sym (stays is)) first)

    pub set_diffs : new.graph.values.epoch < top → AreInOrder old → (since : ℕ) → since ≤ old.graph.values.epoch
        → PassesOn (λ lists. cond changes (first_joined (key, v) lists) lists) old.journal new.journal since
    set_diffs below turn since before = at changes refl
      where
        first : PassesOn (λ lists. lists) old.journal (journal levels old.journal.ring) since
        first = passes_noted cmp key (atoms_in m cmp old key) old.journal.levels old.journal.ring since

        at : (b : Bool) → changes ≡ b → PassesOn (λ lists. cond b (first_joined (key, v) lists) lists) old.journal new.journal since
        at true is =
            subst (λ (j : Journal K V). PassesOn (first_joined (key, v)) old.journal j since) (sym (joins is))
            (passes_in_turn (λ lists. lists) (first_joined (key, v)) old.journal (journal levels old.journal.ring) (joined write levels old.journal.ring) since first
            (passes_joined write levels old.journal.ring old.graph.values.epoch since (next_epoch is below) before
            (turned_noted cmp key (atoms_in m cmp old key) old.journal.levels old.journal.ring old.graph.values.epoch turn)))
        at false is = subst (λ (j : Journal K V). PassesOn (λ lists. lists) old.journal j since) (sym (stays is)) first
