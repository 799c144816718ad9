-- What is saved of what a room keeps is what is saved of its history.
use Rattle.std.proofs.Common.{◌≡◌, ℕ, suc, nat_lt, ℤ, pos, Bool, true, false, ◌&&◌, ◌||◌, cond, not, List, [], ◌∷◌, ◌++◌, length, map, filter, fold, filter_map, codes, option_map, option_and_then, Option, Some, None, is_some, is_eq, All, refl, sym, ap, subst, ◌∙◌, arith}
use Rattle.std.specs.List.{list_any, cons_option}
use Rattle.std.specs.Option.{option_map_or}
use Rattle.std.specs.Prelude.{IsPermutation}
use Rattle.std.proofs.lemmas.Bool.Decides.{nat_tests}
use Rattle.std.proofs.lemmas.List.Elements.{All-cons, All-head, All-tail}
use Rattle.std.proofs.lemmas.List.Sorted.{All-permutation, list_any-IsPermutation}
use Rattle.rooms_val.proofs.Truths.{none_some}
use Rattle.rooms_val.specs.Data.{Data, Pairs, whole}
use Rattle.rooms_val.specs.Kinds.{field, as_text}
use Rattle.rooms_val.specs.Maps.{ties, AreRising, value_at, keys_of}
use Rattle.rooms_val.proofs.MapsLemmas.{ties_flip, ties_same, order_itself, at-with_key, rising-with_key, none_later, rising_rest}
use Rattle.change_list.specs.declared.entries.Change.{Change}
use Rattle.change_list.specs.Changes.{listed, is_after}
use Rattle.schema_core.specs.Admits.{is_document}
use Rattle.schema_core.specs.SchemaOf.{schema_tree}
use Rattle.schema_core.proofs.AdmitsLemmas.{law}
use Rattle.room_model.specs.Histories.{History, records_of, names, last_clock, last_clocks, dead}
use Rattle.room_model.specs.Schemas.{records_with}
use Rattle.room_model.specs.declared.saved.SavedRecord.{SavedRecord}
use Rattle.room_model.specs.declared.saved.SavedTomb.{SavedTomb}
use Rattle.room_model.proofs.BaseLemmas.{rising-records}
use Rattle.room_model.proofs.HistoryLemmas.{Each, each-imp, each-two, each-filter, each-passes, each-append}
use Rattle.room_model.proofs.LookUpLemmas.{at-mapped, rising-mapped}
use Rattle.room_history.specs.Clocks.{with_clock, with_removal, number_of, clock_at, saved_under, with_own_clock}
use Rattle.room_history.specs.Keeps.{Keeps, change_at, present_ids}
use Rattle.room_history.specs.Marks.{is_listed}
use Rattle.room_history.specs.Saving.{with_own_id, clocks_of}
use Rattle.room_history.specs.declared.kept.Kept.{Kept}
use Rattle.room_history.proofs.UsableLemmas.{live_there, each-map as each_mapped}

module _ {X : Type 0} where
  from_each : (P : X → Type 0) (xs : List X) → Each P xs → All P xs
  from_each P [] h = λ k d low. absurd (omega arith)
  from_each P (x ∷ xs) h = All-cons P x xs h.0 (from_each P xs h.1)

  to_each : (P : X → Type 0) (xs : List X) → All P xs → Each P xs
  to_each P [] h = tt
  to_each P (x ∷ xs) h = (All-head P x xs h, to_each P xs (All-tail P x xs h))

  filter_every : (test : X → Bool) (xs : List X) → Each (λ x. test x ≡ true) xs → filter test xs ≡ xs
  filter_every test [] h = refl
  filter_every test (x ∷ xs) h = ap (λ b. cond b (x ∷ filter test xs) (filter test xs)) h.0 ∙ ap (λ r. x ∷ r) (filter_every test xs h.1)

  any-append : (test : X → Bool) (xs ys : List X) → list_any test (xs ++ ys) ≡ list_any test xs || list_any test ys
  any-append test [] ys = refl
  any-append test (x ∷ xs) ys = elim (test x) as (λ b. b || list_any test (xs ++ ys) ≡ (b || list_any test xs) || list_any test ys) [ true ↦ refl | false ↦ any-append test xs ys ]

map_after : {X Y Z : Type 0} (g : Y → Z) (f : X → Y) (xs : List X) → map (λ x. g (f x)) xs ≡ map g (map f xs)
map_after g f [] = refl
map_after g f (x ∷ xs) = ap (λ r. g (f x) ∷ r) (map_after g f xs)

itself : (q : List ℕ) → ties q q ≡ true
itself q = ap is_eq (order_itself q)

module _ {V : Type 0} where
  -- each key of a map is there
  each_there : (es : List (List ℕ × V)) → Each (λ e. is_some (value_at es e.0) ≡ true) es
  each_there [] = tt
  each_there (e ∷ es) =
      let P : List ℕ × V → Type 0 = λ p. is_some (value_at es p.0) ≡ true in
      let Q : List ℕ × V → Type 0 = λ p. is_some (value_at (e ∷ es) p.0) ≡ true in
      let still : (p : List ℕ × V) → P p → Q p = λ p is. elim (ties p.0 e.0) as (λ b. is_some (cond b (Some e.1) (value_at es p.0)) ≡ true) [ true ↦ refl | false ↦ is ] in
      (ap (λ b. is_some (cond b (Some e.1) (value_at es e.0))) (itself e.0), each-imp P Q still es (each_there es))

  -- each value of a rising map stands under its key
  each_found : (es : List (List ℕ × V)) → AreRising es → Each (λ e. value_at es e.0 ≡ Some e.1) es
  each_found [] rising = tt
  each_found (e ∷ es) rising =
      let P : List ℕ × V → Type 0 = λ p. value_at es p.0 ≡ Some p.1 in
      let Q : List ℕ × V → Type 0 = λ p. value_at (e ∷ es) p.0 ≡ Some p.1 in
      let still : (p : List ℕ × V) → P p → Q p =
      λ p is. elim (ties p.0 e.0) as (λ b. ties p.0 e.0 ≡ b → cond b (Some e.1) (value_at es p.0) ≡ Some p.1) [
        | true ↦ λ same. absurd (none_some p.1 (sym (none_later e es rising) ∙ ap (value_at es) (sym (ties_same p.0 e.0 same)) ∙ is))
        | false ↦ λ other. is
      ] refl in
      (ap (λ b. cond b (Some e.1) (value_at es e.0)) (itself e.0), each-imp P Q still es (each_found es (rising_rest e es rising)))

-- each id is listed with its last clock
pub last_are : (history : History) → Each (λ p. p.1 ≡ last_clock history p.0) (last_clocks history)
last_are [] = tt
last_are (entry ∷ history) =
    let n = suc (length history) in
    let P : List ℕ × ℕ → Type 0 = λ p. p.1 ≡ last_clock (entry ∷ history) p.0 in
    let unnamed : (p : List ℕ × ℕ) → not (names p.0 entry) ≡ true → p.1 ≡ last_clock history p.0 → P p =
    λ p out is. is ∙ elim (names p.0 entry) as (λ b. not b ≡ true → last_clock history p.0 ≡ cond b n (last_clock history p.0)) [ true ↦ λ bad. absurd (cc) | false ↦ λ fine. refl ] out in
    each-append P _ _
    (each-two (λ p. not (names p.0 entry) ≡ true) (λ p. p.1 ≡ last_clock history p.0) P unnamed (filter (λ p. not (names p.0 entry)) (last_clocks history))
    (each-passes (λ p. not (names p.0 entry)) (last_clocks history)) (each-filter (λ p. p.1 ≡ last_clock history p.0) (λ p. not (names p.0 entry)) (last_clocks history) (last_are history)))
    (each_mapped P (λ c. (c.0, n)) entry.diff (each-imp (λ c. is_some (value_at entry.diff c.0) ≡ true) (λ c. n ≡ last_clock (entry ∷ history) c.0) (λ c is. sym (ap (λ b. cond b n (last_clock history c.0)) is)) entry.diff (each_there entry.diff)))

-- no clock of an entry is 0
last_low : (history : History) → Each (λ p. nat_lt 0 p.1 ≡ true) (last_clocks history)
last_low [] = tt
last_low (entry ∷ history) =
    let P : List ℕ × ℕ → Type 0 = λ p. nat_lt 0 p.1 ≡ true in
    let low : nat_lt 0 (suc (length history)) ≡ true = grind (arith, nat_tests) in
    each-append P _ _ (each-filter P (λ p. not (names p.0 entry)) (last_clocks history) (last_low history))
    (each_mapped P (λ c. (c.0, suc (length history))) entry.diff (each-imp (λ c. is_some (value_at entry.diff c.0) ≡ true) (λ c. nat_lt 0 (suc (length history)) ≡ true) (λ c is. low) entry.diff (each_there entry.diff)))

module _ (f : List ℕ → ℤ) where
  abbrev IsAt : Change → Type 0
  IsAt c = c.clock ≡ f c.id

  -- clocks by id of those changes that pass, where the clock is a matter of the id
  at-clocks : (pass : Change → Bool) (cs : List Change) → Each IsAt cs → (m : Pairs) (q : List ℕ)
      → value_at (fold (λ m c. cond (pass c) (with_clock m c) m) m cs) q ≡ cond (list_any (λ c. pass c && ties c.id q) cs) (Some (whole (f q))) (value_at m q)
  at-clocks pass [] each m q = refl
  at-clocks pass (c ∷ cs) each m q =
      let R = list_any (λ c. pass c && ties c.id q) cs in
      let here : cond R (Some (whole (f q))) (value_at (with_clock m c) q) ≡ cond (ties c.id q || R) (Some (whole (f q))) (value_at m q) =
      ap (cond R (Some (whole (f q)))) (at-with_key m c.id q (whole c.clock))
      ∙ ap (λ t. cond R (Some (whole (f q))) (cond t (Some (whole c.clock)) (value_at m q))) (sym (ties_flip c.id q))
      ∙ elim (ties c.id q) as (λ b. ties c.id q ≡ b → cond R (Some (whole (f q))) (cond b (Some (whole c.clock)) (value_at m q)) ≡ cond (b || R) (Some (whole (f q))) (value_at m q)) [
        | true ↦ λ same. elim R as (λ r. cond r (Some (whole (f q))) (Some (whole c.clock)) ≡ Some (whole (f q))) [ true ↦ refl | false ↦ ap (λ z. Some (whole z)) (each.0 ∙ ap f (ties_same c.id q same)) ]
        | false ↦ λ other. refl
      ] refl in
      at-clocks pass cs each.1 (cond (pass c) (with_clock m c) m) q
      ∙ elim (pass c) as (λ b. cond R (Some (whole (f q))) (value_at (cond b (with_clock m c) m) q) ≡ cond ((b && ties c.id q) || R) (Some (whole (f q))) (value_at m q)) [ true ↦ here | false ↦ refl ]

rising-clocks : (pass : Change → Bool) (cs : List Change) (m : Pairs) → AreRising m → AreRising (fold (λ m c. cond (pass c) (with_clock m c) m) m cs)
rising-clocks pass [] m rising = rising
rising-clocks pass (c ∷ cs) m rising =
    rising-clocks pass cs (cond (pass c) (with_clock m c) m)
    (elim (pass c) as (λ b. AreRising (cond b (with_clock m c) m)) [ true ↦ rising-with_key m c.id (whole c.clock) rising | false ↦ rising ])

-- the same for ids with clocks
at-pairs : (h : List ℕ → ℕ) (ps : List (List ℕ × ℕ)) → Each (λ p. p.1 ≡ h p.0) ps → (q : List ℕ) → value_at (map (λ p. (p.0, pos p.1)) ps) q ≡ cond (list_any (λ p. ties p.0 q) ps) (Some (pos (h q))) None
at-pairs h [] each q = refl
at-pairs h (p ∷ ps) each q =
    ap (λ t. cond t (Some (pos p.1)) (value_at (map (λ p. (p.0, pos p.1)) ps) q)) (sym (ties_flip p.0 q))
    ∙ elim (ties p.0 q) as (λ b. ties p.0 q ≡ b → cond b (Some (pos p.1)) (value_at (map (λ p. (p.0, pos p.1)) ps) q) ≡ cond (b || list_any (λ p. ties p.0 q) ps) (Some (pos (h q))) None) [
      | true ↦ λ same. ap (λ n. Some (pos n)) (each.0 ∙ ap h (ties_same p.0 q same))
      | false ↦ λ other. at-pairs h ps each.1 q
    ] refl

-- which ids of changes are removals of the document's
abbrev is_removal : (List ℕ → Bool) → Change → Bool
is_removal test c = not c.live && test c.id

none_live : (test : List ℕ → Bool) (q : List ℕ) (ps : List (List ℕ × ℕ)) → list_any (λ c. is_removal test c && ties c.id q) (map (change_at true) ps) ≡ false
none_live test q [] = refl
none_live test q (p ∷ ps) = none_live test q ps

those_dead : (test : List ℕ → Bool) (q : List ℕ) (ps : List (List ℕ × ℕ)) → list_any (λ c. is_removal test c && ties c.id q) (map (change_at false) ps) ≡ test q && list_any (λ p. ties p.0 q) ps
those_dead test q [] = elim (test q) as (λ b. false ≡ b && false) [ true ↦ refl | false ↦ refl ]
those_dead test q (p ∷ ps) =
    ap (λ r. (test p.0 && ties p.0 q) || r) (those_dead test q ps)
    ∙ elim (ties p.0 q) as (λ b. ties p.0 q ≡ b → (test p.0 && b) || (test q && list_any (λ p. ties p.0 q) ps) ≡ test q && (b || list_any (λ p. ties p.0 q) ps)) [
      | true ↦ λ same. ap (λ id. (test id && true) || (test q && list_any (λ p. ties p.0 q) ps)) (ties_same p.0 q same) ∙ elim (test q) as (λ b. (b && true) || (b && list_any (λ p. ties p.0 q) ps) ≡ b && true) [ true ↦ refl | false ↦ refl ]
      | false ↦ λ other. elim (test p.0) as (λ b. (b && false) || (test q && list_any (λ p. ties p.0 q) ps) ≡ test q && list_any (λ p. ties p.0 q) ps) [ true ↦ refl | false ↦ refl ]
    ] refl

-- the id that a record says
abbrev says : Data → Option (List ℕ)
says d = option_and_then as_text (field d (codes "id"))

-- what is saved of a record, with the id that it says
abbrev with_said : Data × ℤ → Option (List ℕ) × (Data × ℤ)
with_said x = (says x.0, x)

module _ (test : List ℕ → Bool) (records clocks : Pairs) (h : List ℕ → ℕ)
    (good : (q : List ℕ) (d : Data) → value_at records q ≡ Some d → (says d ≡ Some q) × (clock_at clocks q ≡ pos (h q))) where
  -- a record by id, with the id and the clock
  abbrev with_id : List ℕ × Data → Option (List ℕ) × (Data × ℤ)
  with_id p = (Some p.0, (p.1, pos (h p.0)))

  walk : (left : Pairs) → Each (λ p. value_at records p.0 ≡ Some p.1) left
      → map with_said (filter_map (saved_under test records clocks) (keys_of left)) ≡ map with_id (records_with test left)
  walk [] each = refl
  walk (e ∷ left) each =
      let rest : List (Data × ℤ) = filter_map (saved_under test records clocks) (keys_of left) in
      let fine = good e.0 e.1 each.0 in
      let same : with_said (e.1, clock_at clocks e.0) ≡ with_id e = λ i. (fine.0 i, (e.1, fine.1 i)) in
      ap (λ o. map with_said (cons_option (cond (test e.0) (option_map (λ d. (d, clock_at clocks e.0)) o) None) rest)) each.0
      ∙ elim (test e.0) as (λ b. map with_said (cons_option (cond b (Some (e.1, clock_at clocks e.0)) None) rest) ≡ map with_id (cond b (e ∷ records_with test left) (records_with test left))) [
        | true ↦ λ i. same i ∷ walk left each.1 i
        | false ↦ walk left each.1
      ]

module _ (first : ℕ) (history : History) (kept : Kept) (keeps : Keeps first history kept) (found : List Change) (same : IsPermutation (filter (is_after (pos 0)) (listed kept.changes)) found) where
  abbrev Last : List ℕ → ℕ
  Last q = last_clock history q

  abbrev Doc : List ℕ → Bool
  Doc = is_document (schema_tree kept.schema)

  abbrev Live : List Change
  Live = map (change_at true) (present_ids history)

  abbrev Dead : List Change
  Dead = map (change_at false) (dead first history)

  listed_are : listed kept.changes ≡ Live ++ Dead
  listed_are = λ i. keeps.live i ++ keeps.dead i

  -- what holds of each id with its last clock holds of each listed change
  each_listed : (P : Change → Type 0) → ((live : Bool) → Each (λ p. P (change_at live p)) (last_clocks history)) → Each P (Live ++ Dead)
  each_listed P all =
      each-append P _ _
      (each_mapped P (change_at true) (present_ids history) (each-filter (λ p. P (change_at true p)) _ (last_clocks history) (all true)))
      (each_mapped P (change_at false) (dead first history) (each-filter (λ p. P (change_at false p)) _ _ (each-filter (λ p. P (change_at false p)) _ (last_clocks history) (all false))))

  all_after : filter (is_after (pos 0)) (listed kept.changes) ≡ Live ++ Dead
  all_after =
      ap (filter (is_after (pos 0))) listed_are
      ∙ filter_every (is_after (pos 0)) (Live ++ Dead) (each_listed (λ c. is_after (pos 0) c ≡ true) (λ live. last_low history))

  moved : IsPermutation (Live ++ Dead) found
  moved = subst (λ (xs : List Change). IsPermutation xs found) all_after same

  found_at : Each (λ c. c.clock ≡ pos (Last c.id)) found
  found_at =
      let P : Change → Type 0 = λ c. c.clock ≡ pos (Last c.id) in
      to_each P found (All-permutation P (Live ++ Dead) found moved (from_each P (Live ++ Dead)
      (each_listed P (λ live. each-imp (λ p. p.1 ≡ Last p.0) (λ p. P (change_at live p)) (λ p is. ap pos is) (last_clocks history) (last_are history)))))

  abbrev Records : Pairs
  Records = records_of history

  abbrev Clocks : Pairs
  Clocks = fold with_clock [] found

  or_first : (a b : Bool) → a ≡ true → a || b ≡ true
  or_first a b is = ap (λ x. x || b) is

  clock_of : (q : List ℕ) (d : Data) → value_at Records q ≡ Some d → clock_at Clocks q ≡ pos (Last q)
  clock_of q d is =
      let there : is_listed kept.changes.live q ≡ true = live_there first history kept keeps q (ap (λ r. is_some (value_at r.0 q)) keeps.records ∙ ap is_some is) in
      let has : list_any (λ c. ties c.id q) found ≡ true =
      sym (list_any-IsPermutation (λ c. ties c.id q) (Live ++ Dead) found moved)
      ∙ any-append (λ c. ties c.id q) Live Dead
      ∙ or_first _ _ (ap (λ cs. list_any (λ c. ties c.id q) cs) (sym keeps.live) ∙ there) in
      ap (λ o. option_map_or number_of o (pos 0)) (at-clocks (λ q. pos (Last q)) (λ c. true) found found_at [] q ∙ ap (λ b. cond b (Some (whole (pos (Last q)))) None) has)

  pub saved_documents : (documents : List SavedRecord) → map with_own_clock documents ≡ filter_map (saved_under Doc kept.records.0 Clocks) (keys_of kept.records.0)
      → map with_own_id documents ≡ map (λ p. (Some p.0, (p.1, pos (last_clock history p.0)))) (records_with Doc (records_of history))
  saved_documents documents is =
      let own : (q : List ℕ) (d : Data) → value_at Records q ≡ Some d → says d ≡ Some q =
      λ q d there. ap (option_and_then as_text) ((law (schema_tree kept.schema) q d).0 (keeps.admitted q d there)).own in
      map_after with_said with_own_clock documents
      ∙ ap (map with_said) is
      ∙ ap (λ (r : Pairs × List Pairs). map with_said (filter_map (saved_under Doc r.0 Clocks) (keys_of r.0))) keeps.records
      ∙ walk Doc Records Clocks Last (λ q d there. (own q d there, clock_of q d there)) Records (each_found Records (rising-records history))

  abbrev Removals : Pairs
  Removals = fold (with_removal Doc) [] found

  pub saved_rising : (tombs : List SavedTomb) → clocks_of tombs ≡ map (λ p. (p.0, number_of p.1)) Removals → AreRising (clocks_of tombs)
  saved_rising tombs is = subst AreRising (sym is) (rising-mapped (λ k v. number_of v) Removals (rising-clocks (is_removal Doc) found [] tt))

  pub saved_removed : (tombs : List SavedTomb) → clocks_of tombs ≡ map (λ p. (p.0, number_of p.1)) Removals
      → (id : List ℕ) → value_at (clocks_of tombs) id ≡ cond (Doc id) (value_at (map (λ p. (p.0, pos p.1)) (dead first history)) id) None
  saved_removed tombs is id =
      let A = list_any (λ p. ties p.0 id) (dead first history) in
      let which : list_any (λ c. is_removal Doc c && ties c.id id) found ≡ Doc id && A =
      sym (list_any-IsPermutation (λ c. is_removal Doc c && ties c.id id) (Live ++ Dead) found moved)
      ∙ any-append (λ c. is_removal Doc c && ties c.id id) Live Dead
      ∙ ap (λ b. b || list_any (λ c. is_removal Doc c && ties c.id id) Dead) (none_live Doc id (present_ids history))
      ∙ those_dead Doc id (dead first history) in
      let each : Each (λ p. p.1 ≡ Last p.0) (dead first history) = each-filter (λ p. p.1 ≡ Last p.0) _ _ (each-filter (λ p. p.1 ≡ Last p.0) _ (last_clocks history) (last_are history)) in
      ap (λ ps. value_at ps id) is
      ∙ at-mapped (λ k v. number_of v) Removals id
      ∙ ap (option_map number_of) (at-clocks (λ q. pos (Last q)) (is_removal Doc) found found_at [] id)
      ∙ ap (λ b. option_map number_of (cond b (Some (whole (pos (Last id)))) None)) which
      ∙ elim (Doc id) as (λ b. option_map number_of (cond (b && A) (Some (whole (pos (Last id)))) None) ≡ cond b (cond A (Some (pos (Last id))) None) None) [
        | true ↦ elim A as (λ a. option_map number_of (cond a (Some (whole (pos (Last id)))) None) ≡ cond a (Some (pos (Last id))) None) [ true ↦ refl | false ↦ refl ]
        | false ↦ refl
      ]
      ∙ ap (λ o. cond (Doc id) o None) (sym (at-pairs Last (dead first history) each id))
