-- Which pending items are answered once a client was told a part of the entries.
use Rattle.std.proofs.Common.{◌≡◌, ℕ, zero, suc, ◌+◌, ◌≤◌, nat_lt, true, false, cond, List, [], ◌∷◌, ◌++◌, length, drop, slice_get, refl, sym, ap, subst, ◌∙◌, arith}
use Rattle.std.specs.Prelude.{count_by}
use Rattle.std.proofs.lemmas.Bool.Decides.{nat_tests}
use Rattle.std.proofs.lemmas.List.Sums.{sum_by-append}
use Rattle.room_model.specs.Schemas.{Schemas}
use Rattle.room_model.specs.Histories.{History, oldest, above, is_by}
use Rattle.room_model.specs.Bases.{AreAnswered}
use Rattle.room_model.specs.Replicas.{Pending}
use Rattle.room_model.specs.declared.history.Entry.{Entry}

-- an element from a place on
slice_get-drop : {X : Type 0} (xs : List X) (n i j : ℕ) → j ≡ n + i → slice_get (drop n xs) i ≡ slice_get xs j
slice_get-drop xs zero i j is = let same : j ≡ i = omega arith in ap (slice_get xs) (sym same)
slice_get-drop [] (suc n) i j is = refl
slice_get-drop (x ∷ xs) (suc n) i zero is = absurd (omega arith)
slice_get-drop (x ∷ xs) (suc n) i (suc j) is = slice_get-drop xs n i j (omega arith)

-- the entries above a clock are those above a later one, and those up to that
above_parts : (from to : ℕ) (history : History) → from ≤ to → above from history ≡ above to history ++ above from (oldest to history)
above_parts from to [] less = refl
above_parts from to (entry ∷ history) less =
    elim (nat_lt (length history) to) as (λ b. nat_lt (length history) to ≡ b → above from (entry ∷ history) ≡ cond b [] (entry ∷ above to history) ++ above from (cond b (entry ∷ history) (oldest to history))) [
      | true ↦ λ is. refl
      | false ↦ λ is. elim (nat_lt (length history) from) as (λ b. nat_lt (length history) from ≡ b → cond b [] (entry ∷ above from history) ≡ entry ∷ (above to history ++ above from (oldest to history))) [
        | true ↦ λ below. absurd (grind (arith, nat_tests))
        | false ↦ λ below. ap (λ rest. entry ∷ rest) (above_parts from to history less)
      ] refl
    ] refl

module _ (schemas : Schemas) (session : ℕ) where
  answered-older : (items : List Pending) (newer older : List Entry) → AreAnswered schemas session items (newer ++ older) → AreAnswered schemas session items older
  answered-older items [] older h = h
  answered-older items (entry ∷ newer) older h = answered-older items newer older h.1

  answered-newer : (items : List Pending) (newer older : List Entry) → AreAnswered schemas session items (newer ++ older) → AreAnswered schemas session (drop (count_by (is_by session) older) items) newer
  answered-newer items [] older h = tt
  answered-newer items (entry ∷ newer) older h =
      let n = count_by (is_by session) older in
      let place : count_by (is_by session) (newer ++ older) ≡ n + count_by (is_by session) newer = sum_by-append (λ e. cond (is_by session e) 1 0) newer older ∙ omega arith in (
        λ author is by.
            let answered = h.0 author is by in
            record {
              item = answered.item;
              there = slice_get-drop items n (count_by (is_by session) newer) (count_by (is_by session) (newer ++ older)) place ∙ answered.there;
              number = answered.number;
              commit = answered.commit;
            },
        answered-newer items newer older h.1,
      )

  module _ (from to : ℕ) (history : History) (items : List Pending) (less : from ≤ to) (h : AreAnswered schemas session items (above from history)) where
    both_parts : AreAnswered schemas session items (above to history ++ above from (oldest to history))
    both_parts = subst (AreAnswered schemas session items) (above_parts from to history less) h

    pub answered_before : AreAnswered schemas session items (above from (oldest to history))
    answered_before = answered-older items (above to history) (above from (oldest to history)) both_parts

    pub answered_after : AreAnswered schemas session (drop (count_by (is_by session) (above from (oldest to history))) items) (above to history)
    answered_after = answered-newer items (above to history) (above from (oldest to history)) both_parts
