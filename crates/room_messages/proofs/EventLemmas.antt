-- The events that a session is told follow from the last entries alone.
use Rattle.std.proofs.Common.{◌≡◌, ℕ, zero, suc, ◌+◌, ◌-◌, ◌≤◌, ◌<◌, nat_lt, pos, Bool, true, false, cond, List, [], ◌∷◌, ◌++◌, length, map, filter, drop, Option, Some, None, refl, sym, ap, subst, ◌∙◌, arith}
use Rattle.std.specs.Prelude.{int_lt}
use Rattle.std.proofs.lemmas.Bool.Decides.{nat_tests}
use Rattle.std.proofs.lemmas.Int.{ints}
use Rattle.std.proofs.lemmas.List.{map-append, length-append, drop-append-le, drop_all}
use Rattle.std.proofs.lemmas.List.Elements.{filter-append}
use Rattle.circular_buffer.specs.Buffer.{keep_last}
use Rattle.sync_msgs.specs.declared.data_event.DataEvent.{DataEvent}
use Rattle.room_model.specs.Schemas.{Schemas, Member}
use Rattle.room_model.specs.Histories.{History, records_of}
use Rattle.room_model.specs.Messages.{event_of, events_after}
use Rattle.room_model.specs.declared.limits.TheConstants.{MOST_TOLD}
use Rattle.room_history.specs.Entries.{RecentTree, recent_tree, newest, trees_of}
use Rattle.room_history.specs.declared.recent_entry.RecentEntry.{RecentEntry}
use Rattle.room_messages.specs.Told.{told_entry, HasOwnActions, is_above}
use Rattle.room_messages.proofs.ToldLemmas as entries

later : (a b : ℕ) → a ≤ b → int_lt (pos a) (pos (suc b)) ≡ true
later a b h = grind (arith, ints)

not_later : (a b : ℕ) → b < a → int_lt (pos a) (pos (suc b)) ≡ false
not_later a b h = grind (arith, ints)

length-trees_of : (history : History) → length (trees_of history) ≡ length history
length-trees_of [] = refl
length-trees_of (entry ∷ history) = let h : length (trees_of history ++ newest entry history ∷ []) ≡ length (trees_of history) + 1 = length-append (trees_of history) (newest entry history ∷ []) in let ih = length-trees_of history in omega arith

-- the newest entry after others
above-newest : (sent : ℕ) (entry : _) (history : History) → filter (is_above sent) (trees_of (entry ∷ history)) ≡ filter (is_above sent) (trees_of history) ++ filter (is_above sent) (newest entry history ∷ [])
above-newest sent entry history = filter-append (is_above sent) (trees_of history) (newest entry history ∷ [])

-- no entry lies above the clock or beyond
none_above : (sent : ℕ) (history : History) → length history ≤ sent → filter (is_above sent) (trees_of history) ≡ []
none_above sent [] low = refl
none_above sent (entry ∷ history) low =
    above-newest sent entry history
    ∙ (λ i. none_above sent history (omega arith) i ++ cond (not_later sent (length history) (omega arith) i) (newest entry history ∷ []) [])

-- those above a clock are among the entries after the first ones up to that clock
after_first : (sent k : ℕ) (history : History) → k ≤ sent → filter (is_above sent) (drop k (trees_of history)) ≡ filter (is_above sent) (trees_of history)
after_first sent zero [] low = refl
after_first sent (suc k) [] low = refl
after_first sent k (entry ∷ history) low =
    elim (nat_lt (length history) k) as (λ b. nat_lt (length history) k ≡ b → filter (is_above sent) (drop k (trees_of (entry ∷ history))) ≡ filter (is_above sent) (trees_of (entry ∷ history))) [
      | true ↦ λ is.
          let all : length (trees_of (entry ∷ history)) ≡ length (entry ∷ history) = length-trees_of (entry ∷ history) in
          let within : length history < k = grind (arith, nat_tests) in
          ap (filter (is_above sent)) (drop_all k (trees_of (entry ∷ history)) (omega arith)) ∙ sym (none_above sent (entry ∷ history) (omega arith))
      | false ↦ λ is.
          let all : length (trees_of history) ≡ length history = length-trees_of history in
          let within : k ≤ length history = grind (arith, nat_tests) in
          ap (filter (is_above sent)) (drop-append-le k (trees_of history) (newest entry history ∷ []) (omega arith))
          ∙ filter-append (is_above sent) (drop k (trees_of history)) (newest entry history ∷ [])
          ∙ ap (λ xs. xs ++ filter (is_above sent) (newest entry history ∷ [])) (after_first sent k history low)
          ∙ sym (above-newest sent entry history)
    ] refl

module _ (schemas : Schemas) (member : Member) where
  abbrev tell : RecentTree → DataEvent
  tell = told_entry schemas member

  each : (sent : ℕ) (history : History) → HasOwnActions schemas history → map tell (filter (is_above sent) (trees_of history)) ≡ events_after schemas member sent history
  each sent [] own = refl
  each sent (entry ∷ history) own =
      let m = records_of (entry ∷ history) in
      let event = event_of schemas member entry history in
      elim (nat_lt (length history) sent) as (λ b. nat_lt (length history) sent ≡ b → map tell (filter (is_above sent) (trees_of (entry ∷ history))) ≡ cond b [] (events_after schemas member sent history ++ event ∷ [])) [
        | true ↦ λ is. ap (map tell) (none_above sent (entry ∷ history) (grind (arith, nat_tests)))
        | false ↦ λ is.
            ap (map tell) (above-newest sent entry history)
            ∙ map-append tell (filter (is_above sent) (trees_of history)) (filter (is_above sent) (newest entry history ∷ []))
            ∙ (λ i. each sent history own.1 i ++ map tell (cond (later sent (length history) (grind (arith, nat_tests)) i) (newest entry history ∷ []) []))
            ∙ ap (λ e. events_after schemas member sent history ++ e ∷ []) (entries.told schemas member m (suc (length history)) entry.diff entry.author own.0)
      ] refl

  -- the events above a clock, by the last entries
  pub events : (sent : ℕ) (history : History) → length history - MOST_TOLD ≤ sent → HasOwnActions schemas history → map tell (filter (is_above sent) (keep_last MOST_TOLD (trees_of history))) ≡ events_after schemas member sent history
  events sent history near own =
      ap (map tell) (after_first sent (length (trees_of history) - MOST_TOLD) history (subst (λ n. n - MOST_TOLD ≤ sent) (sym (length-trees_of history)) near)) ∙ each sent history own

  -- by the code's values of the entries
  of_items : (sent : ℕ) (items : List RecentEntry) → map (λ r. tell (recent_tree r)) (filter (λ r. int_lt (pos sent) r.clock) items) ≡ map tell (filter (is_above sent) (map recent_tree items))
  of_items sent [] = refl
  of_items sent (r ∷ items) =
      let rest = filter (λ r. int_lt (pos sent) r.clock) items in
      let trees = filter (is_above sent) (map recent_tree items) in
      elim (int_lt (pos sent) r.clock) as (λ b. map (λ r. tell (recent_tree r)) (cond b (r ∷ rest) rest) ≡ map tell (cond b (recent_tree r ∷ trees) trees)) [
        | true ↦ ap (λ events. tell (recent_tree r) ∷ events) (of_items sent items)
        | false ↦ of_items sent items
      ]

  pub events_of_items : (sent : ℕ) (history : History) (items : List RecentEntry) → map recent_tree items ≡ keep_last MOST_TOLD (trees_of history) → length history - MOST_TOLD ≤ sent → HasOwnActions schemas history
      → map (λ r. tell (recent_tree r)) (filter (λ r. int_lt (pos sent) r.clock) items) ≡ events_after schemas member sent history
  events_of_items sent history items are near own = of_items sent items ∙ ap (λ recents. map tell (filter (is_above sent) recents)) are ∙ events sent history near own
