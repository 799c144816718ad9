-- Where writes lead.
use Rattle.std.proofs.Common.{◌≡◌, ◌⊎◌, ℕ, suc, ◌+◌, ◌<◌, ◌≤◌, Bool, true, false, List, [], ◌∷◌, ◌++◌, map, inl, inr, refl, sym, ap, subst, ◌∙◌, arith}
use Rattle.rooms_val.specs.Data.{Pairs}
use Rattle.signal_txn.specs.declared.write.Write.{Write}
use Rattle.signal_txn.specs.Journal.{joined}
use Rattle.signal_txn.specs.LastWrites.{LastWrites, one_write}
use Rattle.signal_txn.specs.Level.{Level, noted}
use Rattle.signal_txn.specs.Seen.{IsSetIn}
use Rattle.signal_txn.specs.Since.{diff_of, diffs_after}
use Rattle.signal_values.specs.Seen.{top}
use Rattle.tl_rules.specs.Exact.{key_cmp}
use Rattle.tl_rules.specs.Meaning.{tl_meaning}
use Rattle.tl_rules.specs.declared.key.TlKey.{TlKey}
use Rattle.tl_rules.specs.declared.value.TlValue.{TlValue}
use Rattle.record_store.specs.Lists.{Board, atoms_of, AreTurned, LeadsIn, Leads}
use Rattle.signal_txn.specs.Turns.{AreInTurn}
use Rattle.record_store.specs.Tells.{written, written_under, written_all}
use Rattle.signal_txn.proofs.TurnLemmas.{one_in_turn, dropped_grows, diffs-followed, later_one, note_last, turned_noted, turned_joined}
use Rattle.signal_txn.proofs.WrittenLemmas.{risen_below}

pub written-append : (m : Pairs) (xs ys : List (TlKey × TlValue)) → written_all m (xs ++ ys) ≡ written_all (written_all m xs) ys
written-append m [] ys = refl
written-append m (x ∷ xs) ys = written-append (written m x) xs ys

leads_joined : (since : ℕ) (m n : Pairs) (w : Write TlKey TlValue) (levels : List (Level TlKey TlValue)) (ring : LastWrites TlKey TlValue) (high : ℕ)
    → w.epoch ≡ suc high → since ≤ high → AreInTurn levels ring high → LeadsIn since m n levels → LeadsIn since m (written n (diff_of w)) (joined w levels ring).levels
leads_joined since m n w [] ring high is before turn leads = tt
leads_joined since m n w (level ∷ around) ring high is before turn leads = λ known.
    let one = one_in_turn high w is in
    let less = (dropped_grows level.last (one_write w) high (suc high) turn.0 turn.1 one).0 in
    ap (written_all m) (diffs-followed level.last (one_write w) high (suc high) turn.0 since turn.1 one known ∙ ap (λ ds. diffs_after since level.last.writes ++ ds) (later_one since w (omega arith)))
    ∙ written-append m (diffs_after since level.last.writes) (diff_of w ∷ [])
    ∙ ap (λ x. written x (diff_of w)) (leads (omega arith))

leads_noted : (since : ℕ) (m n : Pairs) (key : TlKey) (v : TlValue) (levels : List (Level TlKey TlValue)) → LeadsIn since m n levels → LeadsIn since m n (map (noted key_cmp key v) levels)
leads_noted since m n key v [] leads = tt
leads_noted since m n key v (level ∷ around) leads =
    subst (λ (last : LastWrites TlKey TlValue). last.dropped ≤ since → written_all m (diffs_after since last.writes) ≡ n) (sym (note_last key_cmp key v level)) leads

module _ (old new : Board) (key : TlKey) (v : TlValue) (changes : Bool) (set : IsSetIn tl_meaning key_cmp old new key v changes) (below : new.graph.values.epoch < top) (turned : AreTurned old) where
  abbrev levels : List (Level TlKey TlValue)
  levels = map (noted key_cmp key (atoms_of old key)) old.journal.levels

  now_noted : AreInTurn levels old.journal.ring old.graph.values.epoch
  now_noted = turned_noted key_cmp key (atoms_of old key) old.journal.levels old.journal.ring old.graph.values.epoch turned

  abbrev write : Write TlKey TlValue
  write = record { key = key; value = v; epoch = new.graph.values.epoch }

  next_epoch : changes ≡ true → new.graph.values.epoch ≡ suc old.graph.values.epoch
  next_epoch is = risen_below old.graph.values.epoch new.graph.values.epoch (set.set.differs is).1 below

  pub set_turned : AreTurned new
  set_turned = at changes refl
    where
      at : (b : Bool) → changes ≡ b → AreTurned new
      at true is =
          subst (λ j. AreInTurn j.levels j.ring new.graph.values.epoch) (sym (set.joins is))
          (subst (AreInTurn (joined write levels old.journal.ring).levels (joined write levels old.journal.ring).ring) (sym (next_epoch is))
          (turned_joined write levels old.journal.ring old.graph.values.epoch (next_epoch is) now_noted))
      at false is =
          subst (λ j. AreInTurn j.levels j.ring new.graph.values.epoch) (sym (set.stays is))
          (subst (AreInTurn levels old.journal.ring) (sym (set.set.same is).1) now_noted)

  pub set_told : (since : ℕ) (m n : Pairs) → since ≤ old.graph.values.epoch → Leads since m n old
      → Leads since m (written_under n key v) new ⊎ (Leads since m n new × (v ≡ atoms_of old key))
  set_told since m n before leads = at changes refl
    where
      then_ : LeadsIn since m n levels
      then_ = leads_noted since m n key (atoms_of old key) old.journal.levels leads

      at : (b : Bool) → changes ≡ b → Leads since m (written_under n key v) new ⊎ (Leads since m n new × (v ≡ atoms_of old key))
      at true is = inl (subst (λ j. LeadsIn since m (written_under n key v) j.levels) (sym (set.joins is))
          (leads_joined since m n write levels old.journal.ring old.graph.values.epoch (next_epoch is) before now_noted then_))
      at false is = inr (subst (λ j. LeadsIn since m n j.levels) (sym (set.stays is)) then_, (set.set.same is).0)
