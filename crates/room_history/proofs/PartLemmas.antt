-- What a history has where its newest entry names one id more.
use Rattle.std.proofs.Common.{◌≡◌, ℕ, suc, ◌<◌, nat_lt, Bool, true, false, ◌||◌, cond, not, List, [], ◌∷◌, ◌++◌, length, map, filter, is_eq, Option, Some, None, is_some, refl, sym, ap, ◌∙◌, arith}
use Rattle.std.specs.Prelude.{is_none}
use Rattle.std.proofs.lemmas.List.{map-append, append_assoc}
use Rattle.std.proofs.lemmas.List.Elements.{filter-append, filter_agree}
use Rattle.std.proofs.lemmas.Bool.Decides.{nat_tests}
use Rattle.rooms_val.specs.Data.{Data, Pairs}
use Rattle.rooms_val.specs.Maps.{value_at, set_at, ties}
use Rattle.rooms_val.proofs.MapsLemmas.{at-set_at, ties_same, order_itself}
use Rattle.field_ops.specs.RecordOps.{RecordOpTree, RecordOps}
use Rattle.field_ops.specs.Patched.{raw}
use Rattle.doc_model.specs.Documents.{fold_raw}
use Rattle.room_model.specs.Histories.{History, records_of, last_clocks}
use Rattle.room_model.proofs.HistoryLemmas.{filter_twice}
use Rattle.room_model.proofs.LookUpLemmas.{unnamed}
use Rattle.room_history.proofs.FilterLemmas.{filter_neither, filter_where, filter_passing, named-append, others_stay}

-- an id with its operation
abbrev pub Change : Type 0
Change = List ℕ × RecordOpTree

pub fold-push : (m : Pairs) (diff : RecordOps) (c : Change) → fold_raw m (diff ++ c ∷ []) ≡ set_at (fold_raw m diff) c.0 (raw c.1 (value_at (fold_raw m diff) c.0))
fold-push m [] c = refl
fold-push m (d ∷ diff) c = fold-push (set_at m d.0 (raw d.1 (value_at m d.0))) diff c

named_one : (q : List ℕ) (c : Change) → is_some (value_at (c ∷ []) q) ≡ ties q c.0
named_one q c = elim (ties q c.0) as (λ b. is_some (cond b (Some c.1) None) ≡ b) [ true ↦ refl | false ↦ refl ]

module _ (history : History) where
  abbrev Records : RecordOps → Pairs
  Records diff = fold_raw (records_of history) diff

  -- the clock of the newest entry
  abbrev Clock : ℕ
  Clock = suc (length history)

  -- the last clocks, where the newest entry has this diff; those that are there; and those that aren't and lie above a start
  abbrev pub clocks : RecordOps → List (List ℕ × ℕ)
  clocks diff = filter (λ p. not (is_some (value_at diff p.0))) (last_clocks history) ++ map (λ c. (c.0, suc (length history))) diff

  abbrev pub there : RecordOps → List (List ℕ × ℕ)
  there diff = filter (λ p. is_some (value_at (fold_raw (records_of history) diff) p.0)) (clocks diff)

  abbrev pub gone : ℕ → RecordOps → List (List ℕ × ℕ)
  gone start diff = filter (λ p. is_none (value_at (fold_raw (records_of history) diff) p.0)) (filter (λ p. nat_lt start p.1) (clocks diff))

  module _ (diff : RecordOps) (c : Change) (fresh : value_at diff c.0 ≡ None) where
    -- what the operation leaves
    abbrev Left : Option Data
    Left = raw c.1 (value_at (records_of history) c.0)

    abbrev Other : List ℕ × ℕ → Bool
    Other p = not (ties p.0 c.0)

    clocks-push : clocks (diff ++ c ∷ []) ≡ filter (λ p. not (ties p.0 c.0)) (clocks diff) ++ (c.0, suc (length history)) ∷ []
    clocks-push =
        let old : filter (λ p. not (is_some (value_at (diff ++ c ∷ []) p.0))) (last_clocks history) ≡ filter Other (filter (λ p. not (is_some (value_at diff p.0))) (last_clocks history)) =
        filter_agree _ _ (λ p. ap not (named-append diff (c ∷ []) p.0 ∙ ap (λ b. is_some (value_at diff p.0) || b) (named_one p.0 c))) (last_clocks history)
        ∙ filter_neither (λ (p : List ℕ × ℕ). is_some (value_at diff p.0)) (λ p. ties p.0 c.0) (last_clocks history) in
        let new : map (λ e. (e.0, Clock)) (diff ++ c ∷ []) ≡ map (λ e. (e.0, Clock)) diff ++ (c.0, Clock) ∷ [] = map-append (λ (e : Change). (e.0, Clock)) diff (c ∷ []) in
        let stay : filter Other (map (λ e. (e.0, Clock)) diff) ≡ map (λ e. (e.0, Clock)) diff = others_stay (λ (e : Change). Clock) diff c.0 fresh in
        (λ i. old i ++ new i)
        ∙ sym (append_assoc (filter Other (filter (λ p. not (is_some (value_at diff p.0))) (last_clocks history))) (map (λ e. (e.0, Clock)) diff) ((c.0, Clock) ∷ []))
        ∙ ap (λ r. (filter Other (filter (λ p. not (is_some (value_at diff p.0))) (last_clocks history)) ++ r) ++ (c.0, Clock) ∷ []) (sym stay)
        ∙ ap (λ r. r ++ (c.0, Clock) ∷ []) (sym (filter-append Other (filter (λ p. not (is_some (value_at diff p.0))) (last_clocks history)) (map (λ e. (e.0, Clock)) diff)))

    at-push : (q : List ℕ) → value_at (Records (diff ++ c ∷ [])) q ≡ cond (ties q c.0) Left (value_at (Records diff) q)
    at-push q =
        ap (λ m. value_at m q) (fold-push (records_of history) diff c)
        ∙ at-set_at (Records diff) c.0 q (raw c.1 (value_at (Records diff) c.0))
        ∙ ap (λ r. cond (ties q c.0) (raw c.1 r) (value_at (Records diff) q)) (unnamed diff (records_of history) c.0 fresh)

    elsewhere : (g : Option Data → Bool) (p : List ℕ × ℕ) → Other p ≡ true → g (value_at (Records (diff ++ c ∷ [])) p.0) ≡ g (value_at (Records diff) p.0)
    elsewhere g p other = ap g (at-push p.0) ∙ elim (ties p.0 c.0) as (λ b. not b ≡ true → g (cond b Left (value_at (Records diff) p.0)) ≡ g (value_at (Records diff) p.0)) [ true ↦ λ is. absurd (cc) | false ↦ λ is. refl ] other

    itself : value_at (Records (diff ++ c ∷ [])) c.0 ≡ Left
    itself = at-push c.0 ∙ ap (λ o. cond (is_eq o) Left (value_at (Records diff) c.0)) (order_itself c.0)

    pub there-push : there (diff ++ c ∷ []) ≡ filter (λ p. not (ties p.0 c.0)) (there diff) ++ cond (is_some (raw c.1 (value_at (records_of history) c.0))) ((c.0, suc (length history)) ∷ []) []
    there-push =
        let test : List ℕ × ℕ → Bool = λ p. is_some (value_at (Records (diff ++ c ∷ [])) p.0) in
        ap (filter test) clocks-push ∙ filter-append test (filter Other (clocks diff)) ((c.0, Clock) ∷ [])
        ∙ (λ i. filter_where test (λ p. is_some (value_at (Records diff) p.0)) Other (elsewhere is_some) (clocks diff) i ++ cond (is_some (itself i)) ((c.0, Clock) ∷ []) [])

    pub gone-push : (start : ℕ) → start < suc (length history) → gone start (diff ++ c ∷ []) ≡ filter (λ p. not (ties p.0 c.0)) (gone start diff) ++ cond (is_none (raw c.1 (value_at (records_of history) c.0))) ((c.0, suc (length history)) ∷ []) []
    gone-push start below =
        let test : List ℕ × ℕ → Bool = λ p. is_none (value_at (Records (diff ++ c ∷ [])) p.0) in
        let late : List ℕ × ℕ → Bool = λ p. nat_lt start p.1 in
        let passes : late (c.0, Clock) ≡ true = grind (arith, nat_tests) in
        let after : filter late (clocks (diff ++ c ∷ [])) ≡ filter Other (filter late (clocks diff)) ++ (c.0, Clock) ∷ [] =
        ap (filter late) clocks-push ∙ filter-append late (filter Other (clocks diff)) ((c.0, Clock) ∷ [])
        ∙ (λ i. filter_twice late Other (clocks diff) i ++ cond (passes i) ((c.0, Clock) ∷ []) []) in
        ap (filter test) after ∙ filter-append test (filter Other (filter late (clocks diff))) ((c.0, Clock) ∷ [])
        ∙ (λ i. filter_where test (λ p. is_none (value_at (Records diff) p.0)) Other (elsewhere is_none) (filter late (clocks diff)) i ++ cond (is_none (itself i)) ((c.0, Clock) ∷ []) [])

    -- an id that was there isn't among those that are gone
    pub gone-other : (start : ℕ) → is_some (value_at (records_of history) c.0) ≡ true → filter (λ p. not (ties p.0 c.0)) (gone start diff) ≡ gone start diff
    gone-other start was =
        filter_passing Other (λ p. is_none (value_at (Records diff) p.0)) (λ p is.
        elim (ties p.0 c.0) as (λ b. ties p.0 c.0 ≡ b → not b ≡ true) [
          | true ↦ λ same.
              let here : value_at (Records diff) p.0 ≡ value_at (records_of history) c.0 = ap (value_at (Records diff)) (ties_same p.0 c.0 same) ∙ unnamed diff (records_of history) c.0 fresh in
              absurd (not_both (value_at (records_of history) c.0) was (ap is_none (sym here) ∙ is))
          | false ↦ λ same. refl
        ] refl) (filter (λ p. nat_lt start p.1) (clocks diff))
      where
        not_both : (o : Option Data) → is_some o ≡ true → is_none o ≡ true → ⊥
        not_both None p q = cc
        not_both (Some d) p q = cc
