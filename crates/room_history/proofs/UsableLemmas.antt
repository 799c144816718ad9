-- What holds of whatever keeps a history.
use Rattle.std.proofs.Common.{◌≡◌, ℕ, suc, ◌≤◌, ◌^◌, ℤ, pos, ◌≤ℤ◌, ◌+ℤ◌, Bool, true, false, ◌||◌, cond, not, List, [], ◌∷◌, ◌++◌, length, map, filter, is_some, Some, None, All, refl, sym, ap, subst, ◌∙◌, arith}
use Rattle.std.proofs.lemmas.Int.{ints}
use Rattle.std.specs.List.{list_any}
use Rattle.std.proofs.Math.Logic.{∥∥₁_elim}
use Rattle.std.proofs.lemmas.Grind.{not_there}
use Rattle.std.proofs.lemmas.List.Elements.{All-cons}
use native.Mathlib.Nat.{ℕ_set}
use mathlib.Core.Bool.{Bool-set}
use Rattle.std.specs.Prelude.{int_le}
use Rattle.schema_core.specs.Admits.{is_document}
use Rattle.schema_core.specs.SchemaOf.{schema_tree}
use Rattle.room_accept.specs.Sizes.{size_of}
use Rattle.room_accept.specs.Suiting.{AreAdmitted}
use Rattle.change_list.specs.declared.entries.Change.{Change}
use Rattle.change_list.specs.Changes.{listed, AreUpTo}
use Rattle.rooms_val.proofs.Truths.{no_items, or_right}
use Rattle.rooms_val.specs.Maps.{value_at, ties}
use Rattle.rooms_val.proofs.MapsLemmas.{ties_flip, ties_same}
use Rattle.room_model.specs.Histories.{History, records_of, names, last_clocks, dead, changed_after, start_of}
use Rattle.room_model.proofs.HistoryLemmas.{Each, each-imp, each-filter, each-append, last_within}
use Rattle.room_model.proofs.LookUpLemmas.{unnamed}
use Rattle.room_history.specs.Keeps.{Keeps, KeepsSome, change_at, present_ids}
use Rattle.room_history.specs.Marks.{is_listed}
use Rattle.room_history.specs.declared.kept.Kept.{Kept}

each-all : {X : Type 0} (P : X → Type 0) (xs : List X) → Each P xs → All P xs
each-all P [] h = λ k d low. absurd (omega arith)
each-all P (x ∷ xs) h = All-cons P x xs h.0 (each-all P xs h.1)

pub each-map : {X Y : Type 0} (P : Y → Type 0) (f : X → Y) (xs : List X) → Each (λ x. P (f x)) xs → Each P (map f xs)
each-map P f [] h = tt
each-map P f (x ∷ xs) h = (h.0, each-map P f xs h.1)

module _ (first : ℕ) (history : History) (kept : Kept) (keeps : Keeps first history kept) where
  -- no listed clock is above the room's
  pub latest : AreUpTo kept.clock (listed kept.changes)
  latest =
      let n = length history in
      let P : Change → Type 0 = λ change. change.clock ≤ℤ kept.clock in
      let up : (live : Bool) (p : List ℕ × ℕ) → p.1 ≤ n → P (change_at live p) = λ live p low. let is = keeps.clock in omega (arith, ints) in
      let live = each-map P (change_at true) (present_ids history) (each-imp (λ p. p.1 ≤ n) (λ p. P (change_at true p)) (up true) (present_ids history) (each-filter (λ p. p.1 ≤ n) _ (last_clocks history) (last_within history))) in
      let gone = each-map P (change_at false) (dead first history) (each-imp (λ p. p.1 ≤ n) (λ p. P (change_at false p)) (up false) (dead first history) (each-filter (λ p. p.1 ≤ n) _ (changed_after (start_of first history) history) (each-filter (λ p. p.1 ≤ n) _ (last_clocks history) (last_within history)))) in
      subst (All P) (λ i. sym keeps.live i ++ sym keeps.dead i) (each-all P _ (each-append P _ _ live gone))

-- an id is among ids with clocks
abbrev among : List ℕ → List (List ℕ × ℕ) → Bool
among q ps = list_any (λ p. ties p.0 q) ps

among-append : (q : List ℕ) (ps rs : List (List ℕ × ℕ)) → among q (ps ++ rs) ≡ among q ps || among q rs
among-append q [] rs = refl
among-append q (p ∷ ps) rs = elim (ties p.0 q) as (λ b. b || among q (ps ++ rs) ≡ (b || among q ps) || among q rs) [ true ↦ refl | false ↦ among-append q ps rs ]

among-at : {V : Type 0} (q : List ℕ) (n : ℕ) (es : List (List ℕ × V)) → among q (map (λ e. (e.0, n)) es) ≡ is_some (value_at es q)
among-at q n [] = refl
among-at q n (e ∷ es) = ap (λ b. b || among q (map (λ e. (e.0, n)) es)) (ties_flip e.0 q) ∙ elim (ties q e.0) as (λ b. b || among q (map (λ e. (e.0, n)) es) ≡ is_some (cond b (Some e.1) (value_at es q))) [ true ↦ refl | false ↦ among-at q n es ]

-- a filter by ids leaves an id that passes
among-filter : (test : List ℕ → Bool) (q : List ℕ) (ps : List (List ℕ × ℕ)) → test q ≡ true → among q ps ≡ true → among q (filter (λ p. test p.0) ps) ≡ true
among-filter test q [] passes has = has
among-filter test q (p ∷ ps) passes has =
    elim (ties p.0 q) as (λ b. ties p.0 q ≡ b → b || among q ps ≡ true → among q (cond (test p.0) (p ∷ filter (λ p. test p.0) ps) (filter (λ p. test p.0) ps)) ≡ true) [
      | true ↦ λ is here.
          let pass : test p.0 ≡ true = ap test (ties_same p.0 q is) ∙ passes in
          ap (λ b. among q (cond b (p ∷ filter (λ p. test p.0) ps) (filter (λ p. test p.0) ps))) pass ∙ ap (λ b. b || among q (filter (λ p. test p.0) ps)) is
      | false ↦ λ is later.
          let rest = among-filter test q ps passes later in
          elim (test p.0) as (λ b. among q (cond b (p ∷ filter (λ p. test p.0) ps) (filter (λ p. test p.0) ps)) ≡ true) [ true ↦ or_right (ties p.0 q) _ rest | false ↦ rest ]
    ] refl has

-- who has a record was named
among-last : (history : History) (q : List ℕ) → is_some (value_at (records_of history) q) ≡ true → among q (last_clocks history) ≡ true
among-last [] q has = absurd (cc)
among-last (entry ∷ history) q has =
    let old = filter (λ p. not (names p.0 entry)) (last_clocks history) in
    among-append q old (map (λ c. (c.0, suc (length history))) entry.diff)
    ∙ elim (value_at entry.diff q) as (λ o. value_at entry.diff q ≡ o → among q old || among q (map (λ c. (c.0, suc (length history))) entry.diff) ≡ true) [
      | Some c ↦ λ is. or_right (among q old) _ (among-at q (suc (length history)) entry.diff ∙ ap is_some is)
      | None ↦ λ is.
          let was = ap is_some (sym (unnamed entry.diff (records_of history) q is)) ∙ has in
          let stays : among q old ≡ true = among-filter (λ id. not (names id entry)) q (last_clocks history) (ap (λ o. not (is_some o)) is) (among-last history q was) in
          ap (λ b. b || among q (map (λ c. (c.0, suc (length history))) entry.diff)) stays
    ] refl

listed-map : (live : Bool) (q : List ℕ) (ps : List (List ℕ × ℕ)) → is_listed (map (change_at live) ps) q ≡ among q ps
listed-map live q [] = refl
listed-map live q (p ∷ ps) = ap (λ b. ties p.0 q || b) (listed-map live q ps)

-- a record's id is live
pub live_there : (first : ℕ) (history : History) (kept : Kept) → Keeps first history kept → (q : List ℕ) → is_some (value_at kept.records.0 q) ≡ true → is_listed kept.changes.live q ≡ true
live_there first history kept keeps q has =
    let here : is_some (value_at (records_of history) q) ≡ true = ap (λ r. is_some (value_at r.0 q)) (sym keeps.records) ∙ has in
    ap (λ cs. is_listed cs q) keeps.live ∙ listed-map true q (present_ids history)
    ∙ among-filter (λ id. is_some (value_at (records_of history) id)) q (last_clocks history) here (among-last history q here)

-- an order of numbers comes out of a truncation
at_most : {A : Type 0} (a b : ℤ) → ∥ A ∥₁ → (A → a ≤ℤ b) → a ≤ℤ b
at_most a b some so =
    elim (int_le a b) as (λ t. int_le a b ≡ t → a ≤ℤ b) [
      | true ↦ λ is. grind (arith, ints)
      | false ↦ λ is. absurd (not_there some (λ x. let below = so x in grind (arith, ints)))
    ] refl

-- what holds of whatever keeps some history
module _ (kept : Kept) (some : ∥ KeepsSome kept ∥₁) where
  pub idle : kept.records.1 ≡ []
  idle = no_items kept.records.1 (∥∥₁_elim some (ℕ_set _ _) (λ k. ap (λ r. length r.1) k.1.1.records))

  pub admitted_are : AreAdmitted (schema_tree kept.schema) kept.records.0
  admitted_are id d is = ∥∥₁_elim some (Bool-set _ _) (λ k. k.1.1.admitted id d (ap (λ r. value_at r.0 id) (sym k.1.1.records) ∙ is))

  pub size_is : kept.size ≡ size_of (is_document (schema_tree kept.schema)) kept.records.0
  size_is =
      let count : kept.size.count ≡ (size_of (is_document (schema_tree kept.schema)) kept.records.0).count = ∥∥₁_elim some (ℕ_set _ _) (λ k. ap (λ s. s.count) k.1.1.size ∙ ap (λ r. (size_of (is_document (schema_tree kept.schema)) r.0).count) (sym k.1.1.records)) in
      let heavy : kept.size.weight ≡ (size_of (is_document (schema_tree kept.schema)) kept.records.0).weight = ∥∥₁_elim some (ℕ_set _ _) (λ k. ap (λ s. s.weight) k.1.1.size ∙ ap (λ r. (size_of (is_document (schema_tree kept.schema)) r.0).weight) (sym k.1.1.records)) in
      (λ i. record { count = count i; weight = heavy i })

  pub live_some : (q : List ℕ) → is_some (value_at kept.records.0 q) ≡ true → is_listed kept.changes.live q ≡ true
  live_some q has = ∥∥₁_elim some (Bool-set _ _) (λ k. live_there k.0 k.1.0 kept k.1.1 q has)

  pub latest_some : AreUpTo kept.clock (listed kept.changes)
  latest_some = λ k d low. at_most _ _ some (λ s. latest s.0 s.1.0 kept s.1.1 k d low)

  pub clock_low : pos 0 ≤ℤ kept.clock
  clock_low = at_most _ _ some (λ k. let is = k.1.1.clock in omega (arith, ints))

  pub clock_high : kept.clock ≤ℤ pos (2 ^ 54)
  clock_high = at_most _ _ some (λ k. let is = k.1.1.clock in let bound = k.1.1.bounded in omega (arith, ints))

  -- clocks that come later are above all that is listed
  pub latest_next : AreUpTo (kept.clock +ℤ pos 1) (listed kept.changes)
  latest_next = λ k d low. let below = latest_some k d low in omega (arith, ints)
