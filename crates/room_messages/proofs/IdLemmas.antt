-- A diff that has what the records have under each of some ids: which ids these are is all that matters.
use Rattle.std.proofs.Common.{◌≡◌, ℕ, nat_lt, pos, ℤ, Bool, true, false, ◌&&◌, ◌||◌, cond, not, List, [], ◌∷◌, zero, suc, length, get_or, map, filter, fold, Contains, Option, Some, None, is_some, is_eq, refl, sym, ap, subst, ◌∙◌, arith, ◌<◌, ◌+◌}
use Rattle.std.specs.List.{count_by}
use Rattle.std.specs.Prelude.{IsPermutation}
use Rattle.std.specs.Option.{option_map_or}
use Rattle.std.proofs.lemmas.Bool.Decides.{nat_tests}
use Rattle.std.proofs.lemmas.List.Sorted.{sum_by-IsPermutation, IsPermutation-map, length_permutation}
use Rattle.std.proofs.lemmas.List.{length-map}
use Rattle.std.proofs.lemmas.List.Sums.{sum_by-cons}
use Rattle.rooms_val.specs.Data.{Data, Pairs}
use Rattle.rooms_val.specs.Maps.{AreRising, value_at, with_key, ties, keys_of}
use Rattle.rooms_val.proofs.MapsLemmas.{order_itself, by_tie, same_pairs}
use Rattle.field_ops.specs.RecordOps.{RecordOpTree, put, remove, RecordOps}
use Rattle.room_model.specs.Schemas.{Schemas, Plan, Member, presence_id, is_own, records_with, pres}
use Rattle.room_model.specs.Histories.{History, records_of, last_clock, changed_after}
use Rattle.room_model.specs.Messages.{state_op, changes_after, with_puts, others_of}
use Rattle.room_model.proofs.ActingLemmas.{differ}
use Rattle.rooms_val.proofs.Truths.{or_right}
use Rattle.room_model.proofs.LookUpLemmas.{has, at-filter, rising-filter, at-fold, rising-fold, at-over, rising-over, seen_or, has-filter, has-changed}
use Rattle.room_model.proofs.BaseLemmas.{rising-records}
use Rattle.room_messages.proofs.ListLemmas.{filter-both, filter-same}

-- whether an id is one of a list is a matter of how often it stands there
counted : (q : List ℕ) (ids : List (List ℕ)) → has q ids ≡ nat_lt 0 (count_by (ties q) ids)
counted q [] = refl
counted q (id ∷ ids) =
    let ih = counted q ids in
    let more : count_by (ties q) (id ∷ ids) ≡ cond (ties q id) 1 0 + count_by (ties q) ids = sum_by-cons (λ k. cond (ties q k) 1 0) id ids in
    elim (ties q id) as (λ b. count_by (ties q) (id ∷ ids) ≡ cond b 1 0 + count_by (ties q) ids → b || has q ids ≡ nat_lt 0 (count_by (ties q) (id ∷ ids))) [
      | true ↦ λ is. grind (arith, nat_tests)
      | false ↦ λ is. let same : count_by (ties q) (id ∷ ids) ≡ count_by (ties q) ids = omega arith in ih ∙ ap (nat_lt 0) (sym same)
    ] more

has-permutation : (q : List ℕ) (ids others : List (List ℕ)) → IsPermutation ids others → has q ids ≡ has q others
has-permutation q ids others moved =
    counted q ids ∙ ap (nat_lt 0) (sym (sum_by-IsPermutation (λ k. cond (ties q k) 1 0) ids others moved)) ∙ sym (counted q others)

map-map : {X Y Z : Type 0} (g : Y → Z) (f : X → Y) (xs : List X) → map g (map f xs) ≡ map (λ x. g (f x)) xs
map-map g f [] = refl
map-map g f (x ∷ xs) = ap (λ rest. g (f x) ∷ rest) (map-map g f xs)

-- ids are those that changed after a clock, in another order
abbrev pub AreChanged : ℕ → History → List (List ℕ) → Type 0
AreChanged clock history ids = IsPermutation (map (λ p. p.0) (changed_after clock history)) ids

-- by what has the ids with their clocks
pub changed_ids : {X : Type 0} (id : X → List ℕ) (at : X → ℤ) (clock : ℕ) (history : History) (found : List X)
    → IsPermutation {X = List ℕ × ℤ} (map (λ p. (p.0, pos p.1)) (changed_after clock history)) (map (λ x. (id x, at x)) found) → AreChanged clock history (map id found)
changed_ids id at clock history found moved =
    let clocks : List (List ℕ × ℤ) = map (λ p. (p.0, pos p.1)) (changed_after clock history) in
    let others : List (List ℕ × ℤ) = map (λ x. (id x, at x)) found in
    subst (λ (xs : List (List ℕ)). IsPermutation xs (map id found)) (map-map (λ (p : List ℕ × ℤ). p.0) (λ (p : List ℕ × ℕ). (p.0, pos p.1)) (changed_after clock history))
    (subst (λ (ys : List (List ℕ)). IsPermutation (map (λ p. p.0) clocks) ys) (map-map (λ (p : List ℕ × ℤ). p.0) (λ x. (id x, at x)) found) (IsPermutation-map (λ p. p.0) clocks others moved))

-- then they are the ids whose last entry lies above it
has-those : (clock : ℕ) (history : History) (ids : List (List ℕ)) → AreChanged clock history ids → (q : List ℕ) → has q ids ≡ nat_lt clock (last_clock history q)
has-those clock history ids moved q = sym (has-permutation q (map (λ p. p.0) (changed_after clock history)) ids moved) ∙ has-changed clock history q

-- and as many
pub as_many : (clock : ℕ) (history : History) (ids : List (List ℕ)) → AreChanged clock history ids → length ids ≡ length (changed_after clock history)
as_many clock history ids moved = length_permutation (map (λ p. p.0) (changed_after clock history)) ids moved ∙ length-map (changed_after clock history) (λ p. p.0)

-- an id is one of a map's keys if something stands under it
has-keys : {V : Type 0} (es : List (List ℕ × V)) (q : List ℕ) → has q (keys_of es) ≡ is_some (value_at es q)
has-keys [] q = refl
has-keys (e ∷ es) q = elim (ties q e.0) as (λ b. b || has q (keys_of es) ≡ is_some (cond b (Some e.1) (value_at es q))) [ true ↦ refl | false ↦ has-keys es q ]

-- an id that a list contains is one of it
contained : (q : List ℕ) (ids : List (List ℕ)) (k : ℕ) → k < length ids → get_or ids k q ≡ q → has q ids ≡ true
contained q [] k less is = absurd (omega arith)
contained q (id ∷ ids) zero less is = ap (λ i. ties q i || has q ids) is ∙ ap (λ o. is_eq o || has q ids) (order_itself q)
contained q (id ∷ ids) (suc k) less is = or_right (ties q id) (has q ids) (contained q ids k (omega arith) is)

-- what holds of the ids of all sessions' presence holds of each of some
each_presence : (test : List ℕ → Bool) → ((number : ℕ) → test (presence_id number) ≡ true) → (q : List ℕ) (numbers : List ℕ) → has q (map presence_id numbers) ≡ true → test q ≡ true
each_presence test all q [] is = absurd (differ (sym is))
each_presence test all q (n ∷ numbers) is =
    by_tie (λ t. t || has q (map presence_id numbers) ≡ true → test q ≡ true) q (presence_id n) (λ same h. ap test same ∙ all n) (λ h. each_presence test all q numbers h) is

-- to look for those that are there comes to the same as to go through all
same_tests : (own some pres one : Bool) → (pres ≡ true → some ≡ true → one ≡ true) → (one ≡ true → pres ≡ true) → (own && some) && one ≡ (pres && own) && some
same_tests true true true true f g = refl
same_tests true true true false f g = absurd (differ (sym (f refl refl)))
same_tests true true false true f g = absurd (differ (sym (g refl)))
same_tests true true false false f g = refl
same_tests true false true one f g = refl
same_tests true false false one f g = refl
same_tests false some true one f g = refl
same_tests false some false one f g = refl

-- the presence of others, by one test
others_by : (schemas : Schemas) (session : ℕ) (m : Pairs) → records_with (λ id. schemas.is_presence id && not (is_own session id)) m ≡ others_of schemas session m
others_by schemas session m =
    filter-same (λ p. schemas.is_presence p.0 && not (is_own session p.0)) (λ p. not (is_own session p.0) && schemas.is_presence p.0) (λ p. swap (schemas.is_presence p.0) (not (is_own session p.0))) m
    ∙ sym (filter-both (λ p. not (is_own session p.0)) (λ p. schemas.is_presence p.0) m)
  where
    swap : (a b : Bool) → a && b ≡ b && a
    swap true true = refl
    swap true false = refl
    swap false true = refl
    swap false false = refl

module _ (schemas : Schemas) (plan : Plan) (history : History) where
  abbrev m : Pairs
  m = records_of history

  abbrev pub with_states : RecordOps → List (List ℕ) → RecordOps
  with_states diff ids = fold (λ d id. with_key d id (state_op schemas plan m id)) diff ids

  -- what changed, by the ids that did
  pub states_changed : (test : List ℕ → Bool) (clock : ℕ) (ids : List (List ℕ)) → AreChanged clock history ids → with_states [] (filter test ids) ≡ changes_after schemas plan test clock history
  states_changed test clock ids moved =
      let op = state_op schemas plan m in
      let changed = map (λ p. p.0) (changed_after clock history) in
      same_pairs _ _ (rising-fold op (filter test ids) [] tt) (rising-fold op (filter test changed) [] tt) (λ q.
      at-fold op (filter test ids) [] q
      ∙ ap (λ b. cond b (Some (op q)) None)
      (has-filter test ids q ∙ ap (λ b. test q && b) (has-those clock history ids moved q ∙ sym (has-changed clock history q)) ∙ sym (has-filter test changed q))
      ∙ sym (at-fold op (filter test changed) [] q))

  put_or : (t : Bool) (r : Option Data) (o : Option RecordOpTree) → cond (t && is_some r) (Some (option_map_or (λ d. put (schemas.lower plan d)) r remove)) o ≡ seen_or (λ d. put (schemas.lower plan d)) (cond t r None) o
  put_or true None o = refl
  put_or true (Some d) o = refl
  put_or false r o = refl

  -- the records under some ids, put over a diff, where these are the ones that a test passes and that are there
  states_found : (test : List ℕ → Bool) (ids : List (List ℕ)) → ((q : List ℕ) → has q ids ≡ test q && is_some (value_at m q)) → (diff : RecordOps) → AreRising diff
      → with_states diff ids ≡ with_puts schemas plan (records_with test m) diff
  states_found test ids are diff rising =
      let op = state_op schemas plan m in
      let as_put : Data → RecordOpTree = λ d. put (schemas.lower plan d) in
      let rises = rising-records history in
      same_pairs _ _ (rising-fold op ids diff rising) (rising-over as_put (records_with test m) diff rising) (λ q.
      at-fold op ids diff q
      ∙ ap (λ b. cond b (Some (op q)) (value_at diff q)) (are q)
      ∙ put_or (test q) (value_at m q) (value_at diff q)
      ∙ ap (λ o. seen_or as_put o (value_at diff q)) (sym (at-filter test m q))
      ∙ sym (at-over as_put (records_with test m) diff q (rising-filter test m rises)))

  -- the records under the ids of a map, put over a diff
  pub states_put : (test : List ℕ → Bool) (diff : RecordOps) → AreRising diff → with_states diff (filter test (keys_of m)) ≡ with_puts schemas plan (records_with test m) diff
  states_put test diff rising = states_found test (filter test (keys_of m)) (λ q. has-filter test (keys_of m) q ∙ ap (λ b. test q && b) (has-keys m q)) diff rising

  -- the presence of others, looked for under the ids of the sessions that are in the room
  pub others_put : ((number : ℕ) → schemas.is_presence (presence_id number) ≡ true) → (session : ℕ) (numbers : List ℕ) (diff : RecordOps) → AreRising diff
      → ((id : List ℕ) → schemas.is_presence id ≡ true → is_some (value_at m id) ≡ true → Contains (map presence_id numbers) id)
      → with_states diff (filter (λ id. not (is_own session id) && is_some (value_at m id)) (map presence_id numbers)) ≡ with_puts schemas plan (others_of schemas session m) diff
  others_put presences session numbers diff rising are =
      let ids = map presence_id numbers in
      let there : List ℕ → Bool = λ id. not (is_own session id) && is_some (value_at m id) in
      states_found (λ id. schemas.is_presence id && not (is_own session id)) (filter there ids) (λ q.
      has-filter there ids q
      ∙ same_tests (not (is_own session q)) (is_some (value_at m q)) (schemas.is_presence q) (has q ids)
      (λ pres some. let among = are q pres some in contained q ids among.0 among.1 among.2)
      (each_presence schemas.is_presence presences q numbers)) diff rising
      ∙ ap (λ others. with_puts schemas plan others diff) (others_by schemas session m)
