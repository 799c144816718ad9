-- Which writes join those of the newest transaction, and the committed ones.
use Rattle.std.proofs.Common.{◌≡◌, ◌⊎◌, inl, inr, ℕ, ◌-◌, List, [], ◌∷◌, ◌++◌, length, map, take, drop, sym, ap, subst, ◌∙◌, arith}
use Rattle.std.specs.Prelude.{Contains}
use Rattle.std.proofs.lemmas.List.{take-append-drop}
use Rattle.std.proofs.lemmas.List.Elements.{Contains-append_right, Contains-append_cases, Contains-push_cases}
use Rattle.signal_txn.specs.declared.write.Write.{Write}
use Rattle.signal_txn.specs.Journal.{joined, committed}
use Rattle.signal_txn.specs.LastWrites.{LastWrites}
use Rattle.signal_txn.specs.Level.{Level, unwritten, noted}
use Rattle.signal_txn.specs.Seen.{IsCommitted}
use Rattle.tl_rules.specs.Exact.{key_cmp}
use Rattle.tl_rules.specs.Meaning.{tl_meaning}
use Rattle.tl_rules.specs.declared.key.TlKey.{TlKey}
use Rattle.tl_rules.specs.declared.value.TlValue.{TlValue}
use Rattle.record_store.specs.Lists.{Board, IsNewest, ChangesOnly}
use Rattle.signal_txn.proofs.TurnLemmas.{note_last}

-- what is kept of some writes is among them
in_kept : (n : ℕ) (ws : List (Write TlKey TlValue)) (w : Write TlKey TlValue) → Contains (drop (length ws - n) ws) w → Contains ws w
in_kept n ws w h =
    let k = length ws - n in
    subst (λ xs. Contains xs w) (take-append-drop k ws) (Contains-append_right (take k ws) (drop k ws) w h)

-- a further write joins alone
pub newest_joined : (v w : Write TlKey TlValue) (levels : List (Level TlKey TlValue)) (ring : LastWrites TlKey TlValue)
    → IsNewest (joined v levels ring).levels w → IsNewest levels w ⊎ (v ≡ w)
newest_joined v w [] ring h = absurd h
newest_joined v w (level ∷ around) ring h =
    Contains-push_cases level.last.writes v w (in_kept 256 (level.last.writes ++ v ∷ []) w h)

-- to note the value before joins nothing
pub newest_noted : (key : TlKey) (v : TlValue) (w : Write TlKey TlValue) (levels : List (Level TlKey TlValue))
    → IsNewest (map (noted key_cmp key v) levels) w → IsNewest levels w
newest_noted key v w [] h = absurd h
newest_noted key v w (level ∷ around) h = subst (λ (last : LastWrites TlKey TlValue). Contains last.writes w) (note_last key_cmp key v level) h

-- where a transaction was opened, written in and committed, what joins the committed writes is of the atoms that were written
module _ (P : TlKey → Type 0) (old opened written new : Board) (opens : opened.journal ≡ record old.journal { levels = unwritten ∷ old.journal.levels })
    (change : ChangesOnly P opened written) (commits : IsCommitted tl_meaning key_cmp written new) (w : Write TlKey TlValue) where
  ring_same : written.journal.ring ≡ old.journal.ring
  ring_same =
      change.ring (λ none. let some : unwritten ∷ old.journal.levels ≡ [] = sym (ap (λ j. j.levels) opens) ∙ none in cc)
      ∙ ap (λ j. j.ring) opens

  abbrev Was : Type 0
  Was = Contains old.journal.ring.writes w

  was : Contains written.journal.ring.writes w → Was
  was h = subst (λ (r : LastWrites TlKey TlValue). Contains r.writes w) ring_same h

  unopened : IsNewest opened.journal.levels w → ⊥
  unopened h =
      let none : IsNewest (unwritten ∷ old.journal.levels) w = subst (λ j. IsNewest j.levels w) opens h in
      let less = none.1 in omega arith

  of_these : IsNewest written.journal.levels w → P w.key
  of_these h = at (change.adds w h)
    where
      at : IsNewest opened.journal.levels w ⊎ P w.key → P w.key
      at (inl before) = absurd (unopened before)
      at (inr p) = p

  pub joins_these : Contains new.journal.ring.writes w → Was ⊎ P w.key
  joins_these h = by written.journal.levels (λ x. x) (subst (λ j. Contains j.ring.writes w) commits.journal h)
    where
      either : Contains written.journal.ring.writes w ⊎ IsNewest written.journal.levels w → Was ⊎ P w.key
      either (inl c) = inl (was c)
      either (inr c) = inr (of_these c)

      mapped : {A B C : Type 0} → (B → C) → A ⊎ B → A ⊎ C
      mapped f (inl a) = inl a
      mapped f (inr b) = inr (f b)

      by : (levels : List (Level TlKey TlValue)) → (IsNewest levels w → IsNewest written.journal.levels w)
          → Contains (committed levels written.journal.ring).ring.writes w → Was ⊎ P w.key
      by [] back c = inl (was c)
      by (level ∷ []) back c = either (mapped back (Contains-append_cases written.journal.ring.writes level.last.writes w (in_kept 256 (written.journal.ring.writes ++ level.last.writes) w c)))
      by (level ∷ outer ∷ around) back c = inl (was c)
