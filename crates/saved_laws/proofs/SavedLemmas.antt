-- What is saved of a sound room, one record and one removed id after the other.
use Rattle.std.proofs.Common.{◌≡◌, ℕ, suc, ◌+◌, ◌≤◌, ◌<◌, nat_lt, ℤ, pos, Bool, true, false, ◌||◌, cond, List, [], ◌∷◌, length, map, sum, filter, Option, Some, None, is_some, Less, Equal, Greater, refl, sym, ap, subst, ◌∙◌, arith}
use Rattle.std.specs.Prelude.{is_none}
use Rattle.std.specs.FinMap.Entries.{by_order}
use Rattle.std.specs.Option.{option_map_or}
use Rattle.std.proofs.lemmas.Bool.Decides.{nat_tests}
use Rattle.std.proofs.lemmas.List.Sums.{sum_by-cons}
use Rattle.rooms_val.proofs.Truths.{some_same}
use Rattle.rooms_val.specs.Data.{Data, Pairs}
use Rattle.rooms_val.specs.Maps.{value_at, with_key, ties, order, AreRising}
use Rattle.rooms_val.specs.View.{data_of}
use Rattle.rooms_val.specs.Weight.{weight}
use Rattle.rooms_val.proofs.MapsLemmas.{at-with_key, rising-with_key, same_pairs, ties_same}
use Rattle.room_model.specs.Histories.{History, records_of, last_clock, last_clocks, changed_after, start_of, dead}
use Rattle.room_model.specs.Saves.{own_id}
use Rattle.room_model.specs.Schemas.{records_with}
use Rattle.room_model.specs.declared.limits.TheConstants.{MOST_DEAD}
use Rattle.room_model.specs.declared.saved.SavedRecord.{SavedRecord}
use Rattle.room_model.specs.declared.saved.SavedRoom.{SavedRoom}
use Rattle.room_model.specs.declared.saved.SavedTomb.{SavedTomb}
use Rattle.room_model.proofs.HistoryLemmas.{Each, each-two, each-filter, each-passes, at_most-filter, last_within, few_dead}
use Rattle.room_model.proofs.LookUpLemmas.{at-filter, has, has-changed}
use Rattle.room_history.specs.Saving.{IsSavedOf, with_own_id, clocks_of}
use Rattle.room_history.proofs.BegunLemmas.{says, record_at, tomb_at}
use Rattle.room_history.proofs.SavingLemmas.{last_are}
use Rattle.saved_laws.proofs.KeptLemmas.{cond_none}

pub none_some : {X Y : Type 0} (y : Y) → ◌≡◌ {A = Option Y} None (Some y) → X
none_some y is = let never = ap is_some is in absurd (cc)

module _ {V : Type 0} where
  -- nothing stands under a key that none of the map's is
  pub none_ties : (es : List (List ℕ × V)) (q : List ℕ) → value_at es q ≡ None → Each (λ e. ties q e.0 ≡ false) es
  none_ties [] q none = tt
  none_ties (e ∷ es) q none =
      elim (ties q e.0) as (λ b. cond b (Some e.1) (value_at es q) ≡ None → (b ≡ false) × Each (λ x. ties q x.0 ≡ false) es) [
        | true ↦ λ no. none_some e.1 (sym no)
        | false ↦ λ rest. (refl, none_ties es q rest)
      ] none

  -- what stands in a map has what each of its pairs has
  pub found_has : (P : List ℕ → V → Type 0) (es : List (List ℕ × V)) (q : List ℕ) (v : V) → Each (λ e. P e.0 e.1) es → value_at es q ≡ Some v → P q v
  found_has P [] q v each at = none_some v at
  found_has P (e ∷ es) q v each at =
      elim (ties q e.0) as (λ b. ties q e.0 ≡ b → cond b (Some e.1) (value_at es q) ≡ Some v → P q v) [
        | true ↦ λ same here. subst (λ k. P k v) (sym (ties_same q e.0 same)) (subst (P e.0) (some_same e.1 v here) each.0)
        | false ↦ λ other later. found_has P es q v each.1 later
      ] refl at

  there-has : (es : List (List ℕ × V)) (q : List ℕ) → is_some (value_at es q) ≡ has q (map (λ e. e.0) es)
  there-has [] q = refl
  there-has (e ∷ es) q = elim (ties q e.0) as (λ b. is_some (cond b (Some e.1) (value_at es q)) ≡ b || has q (map (λ e. e.0) es)) [ true ↦ refl | false ↦ there-has es q ]

  pub length-with_key : (es : List (List ℕ × V)) (k : List ℕ) (v : V) → length (with_key es k v) ≤ suc (length es)
  length-with_key [] k v = omega arith
  length-with_key (e ∷ es) k v =
      let ih = length-with_key es k v in
      elim (order k e.0) as (λ o. length (by_order o ((k, v) ∷ e ∷ es) ((e.0, v) ∷ es) (e ∷ with_key es k v)) ≤ suc (suc (length es))) [ Less ↦ omega arith | Equal ↦ omega arith | Greater ↦ omega arith ]

-- what a remembered id has: it is gone, and its last clock is its own, above the start
pub record IsDead (start : ℕ) (history : History) (id : List ℕ) (clock : ℕ) : Type 0 where
  pub gone : value_at (records_of history) id ≡ None
  pub late : start < clock
  pub within : clock ≤ length history
  pub last : clock ≡ last_clock history id

nothing_there : (o : Option Data) → is_none o ≡ true → o ≡ None
nothing_there None is = refl
nothing_there (Some d) is = absurd (cc)

-- the clocks from which ids are known to be removed
module _ (start : ℕ) (history : History) where
  abbrev pub removed_after : List (List ℕ × ℕ)
  removed_after = filter (λ p. is_none (value_at (records_of history) p.0)) (changed_after start history)

  pub each_dead : Each (λ p. IsDead start history p.0 p.1) removed_after
  each_dead =
      let gone : List ℕ × ℕ → Bool = λ p. is_none (value_at (records_of history) p.0) in
      let late : List ℕ × ℕ → Bool = λ p. nat_lt start p.1 in
      let Known : List ℕ × ℕ → Type 0 = λ p. (late p ≡ true) × (p.1 ≤ length history) × (p.1 ≡ last_clock history p.0) in
      let both = each-two (λ p. p.1 ≤ length history) (λ p. p.1 ≡ last_clock history p.0) (λ p. (p.1 ≤ length history) × (p.1 ≡ last_clock history p.0)) (λ p a b. (a, b)) (last_clocks history) (last_within history) (last_are history) in
      let known : Each Known (changed_after start history) =
      each-two (λ p. late p ≡ true) (λ p. (p.1 ≤ length history) × (p.1 ≡ last_clock history p.0)) Known (λ p a b. (a, b.0, b.1)) (changed_after start history) (each-passes late (last_clocks history)) (each-filter (λ p. (p.1 ≤ length history) × (p.1 ≡ last_clock history p.0)) late (last_clocks history) both) in
      each-two (λ p. gone p ≡ true) Known (λ p. IsDead start history p.0 p.1)
      (λ p a b. record { gone = nothing_there (value_at (records_of history) p.0) a; late = (let l = b.0 in grind (arith, nat_tests)); within = b.1; last = b.2 })
      removed_after (each-passes gone (changed_after start history)) (each-filter Known gone (changed_after start history) known)

  -- an id that is gone is remembered exactly if its last clock lies above the start
  pub is_remembered : (q : List ℕ) → value_at (records_of history) q ≡ None → is_some (value_at removed_after q) ≡ nat_lt start (last_clock history q)
  is_remembered q gone =
      ap is_some (at-filter (λ id. is_none (value_at (records_of history) id)) (changed_after start history) q ∙ ap (λ o. cond (is_none o) (value_at (changed_after start history) q) None) gone)
      ∙ there-has (changed_after start history) q
      ∙ has-changed start history q

  pub dead_at : (q : List ℕ) (n : ℕ) → value_at removed_after q ≡ Some n → IsDead start history q n
  dead_at q n at = found_has (IsDead start history) removed_after q n each_dead at

-- clocks as whole numbers
abbrev whole_clocks : List (List ℕ × ℕ) → List (List ℕ × ℤ)
whole_clocks ps = map (λ p. (p.0, pos p.1)) ps

at-whole : (ps : List (List ℕ × ℕ)) (q : List ℕ) (z : ℤ) → value_at (whole_clocks ps) q ≡ Some z → (n : ℕ) × (value_at ps q ≡ Some n) × (z ≡ pos n)
at-whole [] q z at = none_some z at
at-whole (p ∷ ps) q z at =
    elim (ties q p.0) as (λ b. cond b (Some (pos p.1)) (value_at (whole_clocks ps) q) ≡ Some z → (n : ℕ) × (cond b (Some p.1) (value_at ps q) ≡ Some n) × (z ≡ pos n)) [
      | true ↦ λ here. (p.1, refl, sym (some_same (pos p.1) z here))
      | false ↦ λ later. at-whole ps q z later
    ] at

none-whole : (ps : List (List ℕ × ℕ)) (q : List ℕ) → value_at (whole_clocks ps) q ≡ None → value_at ps q ≡ None
none-whole [] q none = refl
none-whole (p ∷ ps) q none =
    elim (ties q p.0) as (λ b. cond b (Some (pos p.1)) (value_at (whole_clocks ps) q) ≡ None → cond b (Some p.1) (value_at ps q) ≡ None) [
      | true ↦ λ no. none_some (pos p.1) (sym no)
      | false ↦ λ later. none-whole ps q later
    ] none

-- ids with clocks, as a map in which the first of two with one id counts
abbrev pub sorted_clocks : List (List ℕ × ℕ) → List (List ℕ × ℤ)
sorted_clocks [] = []
sorted_clocks (p ∷ ps) = with_key (sorted_clocks ps) p.0 (pos p.1)

pub rising-sorted : (ps : List (List ℕ × ℕ)) → AreRising (sorted_clocks ps)
rising-sorted [] = tt
rising-sorted (p ∷ ps) = rising-with_key (sorted_clocks ps) p.0 (pos p.1) (rising-sorted ps)

pub at-sorted : (ps : List (List ℕ × ℕ)) (q : List ℕ) → value_at (sorted_clocks ps) q ≡ value_at (whole_clocks ps) q
at-sorted [] q = refl
at-sorted (p ∷ ps) q = at-with_key (sorted_clocks ps) p.0 q (pos p.1) ∙ ap (cond (ties q p.0) (Some (pos p.1))) (at-sorted ps q)

pub length-sorted : (ps : List (List ℕ × ℕ)) → length (sorted_clocks ps) ≤ length ps
length-sorted [] = omega arith
length-sorted (p ∷ ps) = let ih = length-sorted ps in let one = length-with_key (sorted_clocks ps) p.0 (pos p.1) in omega arith

pub at-tests : (test : List ℕ → Bool) (ps : List (List ℕ × ℕ)) (q : List ℕ) → value_at (whole_clocks (filter (λ p. test p.0) ps)) q ≡ cond (test q) (value_at (whole_clocks ps) q) None
at-tests test [] q = sym (cond_none (test q))
at-tests test (p ∷ ps) q =
    let ih = at-tests test ps q in
    elim (ties q p.0) as (λ t. ties q p.0 ≡ t → value_at (whole_clocks (cond (test p.0) (p ∷ filter (λ p. test p.0) ps) (filter (λ p. test p.0) ps))) q ≡ cond (test q) (cond t (Some (pos p.1)) (value_at (whole_clocks ps) q)) None) [
      | true ↦ λ same.
          let key = ap test (ties_same q p.0 same) in
          elim (test p.0) as (λ b. test p.0 ≡ b → value_at (whole_clocks (cond b (p ∷ filter (λ p. test p.0) ps) (filter (λ p. test p.0) ps))) q ≡ cond (test q) (Some (pos p.1)) None) [
            | true ↦ λ is. ap (λ t. cond t (Some (pos p.1)) (value_at (whole_clocks (filter (λ p. test p.0) ps)) q)) same ∙ ap (λ b. cond b (Some (pos p.1)) None) (sym (key ∙ is))
            | false ↦ λ is. ih ∙ ap (λ b. cond b (value_at (whole_clocks ps) q) None) (key ∙ is) ∙ ap (λ b. cond b (Some (pos p.1)) None) (sym (key ∙ is))
          ] refl
      | false ↦ λ other.
          elim (test p.0) as (λ b. value_at (whole_clocks (cond b (p ∷ filter (λ p. test p.0) ps) (filter (λ p. test p.0) ps))) q ≡ cond (test q) (value_at (whole_clocks ps) q) None) [
            | true ↦ ap (λ t. cond t (Some (pos p.1)) (value_at (whole_clocks (filter (λ p. test p.0) ps)) q)) other ∙ ih
            | false ↦ ih
          ]
    ] refl

-- saved records are those of a document one after the other, with these clocks
abbrev pub AreOf : (List ℕ → ℕ) → List SavedRecord → Pairs → Type 0
AreOf last [] [] = Unit {0}
AreOf last (r ∷ rs) (p ∷ ps) = ((own_id r ≡ Some p.0) × (data_of r.record ≡ p.1) × (r.clock ≡ pos (last p.0))) × AreOf last rs ps
AreOf last rs ps = ⊥

module _ (last : List ℕ → ℕ) where
  abbrev with_clock : List ℕ × Data → Option (List ℕ) × (Data × ℤ)
  with_clock p = (Some p.0, (p.1, pos (last p.0)))

  pub are_of : (rs : List SavedRecord) (ps : Pairs) → map with_own_id rs ≡ map with_clock ps → AreOf last rs ps
  are_of [] [] is = tt
  are_of [] (p ∷ ps) is = absurd (cc)
  are_of (r ∷ rs) [] is = absurd (cc)
  are_of (r ∷ rs) (p ∷ ps) is =
      let one : with_own_id r ≡ with_clock p = cc in
      let more : map with_own_id rs ≡ map with_clock ps = cc in
      ((ap (λ x. x.0) one, ap (λ x. x.1.0) one, ap (λ x. x.1.1) one), are_of rs ps more)

  pub length-are : (rs : List SavedRecord) (ps : Pairs) → AreOf last rs ps → length rs ≡ length ps
  length-are [] [] are = refl
  length-are [] (p ∷ ps) are = absurd are
  length-are (r ∷ rs) [] are = absurd are
  length-are (r ∷ rs) (p ∷ ps) are = ap suc (length-are rs ps are.1)

  pub weight-are : (rs : List SavedRecord) (ps : Pairs) → AreOf last rs ps → sum (map (λ r. weight (data_of r.record)) rs) ≡ sum (map (λ p. weight p.1) ps)
  weight-are [] [] are = refl
  weight-are [] (p ∷ ps) are = absurd are
  weight-are (r ∷ rs) [] are = absurd are
  weight-are (r ∷ rs) (p ∷ ps) are =
      let same = ap weight are.0.1 in
      let ih = weight-are rs ps are.1 in
      sum_by-cons (λ x. x) (weight (data_of r.record)) (map (λ r. weight (data_of r.record)) rs)
      ∙ (λ i. same i + ih i)
      ∙ sym (sum_by-cons (λ x. x) (weight p.1) (map (λ p. weight p.1) ps))

  -- the record of an id, with its clock
  pub record-at : (rs : List SavedRecord) (ps : Pairs) (q : List ℕ) → AreOf last rs ps → option_map_or (λ r. Some (data_of r.record)) (record_at rs q) None ≡ value_at ps q
  record-at [] [] q are = refl
  record-at [] (p ∷ ps) q are = absurd are
  record-at (r ∷ rs) [] q are = absurd are
  record-at (r ∷ rs) (p ∷ ps) q are =
      ap (λ o. option_map_or (λ r. Some (data_of r.record)) (cond (option_map_or (λ id. ties q id) o false) (Some r) (record_at rs q)) None) are.0.0
      ∙ elim (ties q p.0) as (λ b. option_map_or (λ r. Some (data_of r.record)) (cond b (Some r) (record_at rs q)) None ≡ cond b (Some p.1) (value_at ps q)) [
        | true ↦ ap Some are.0.1
        | false ↦ record-at rs ps q are.1
      ]

  pub clock-at : (rs : List SavedRecord) (ps : Pairs) (q : List ℕ) (r : SavedRecord) → AreOf last rs ps → record_at rs q ≡ Some r → r.clock ≡ pos (last q)
  clock-at [] [] q x are at = none_some x at
  clock-at [] (p ∷ ps) q x are at = absurd are
  clock-at (r ∷ rs) [] q x are at = absurd are
  clock-at (r ∷ rs) (p ∷ ps) q x are at =
      elim (ties q p.0) as (λ b. ties q p.0 ≡ b → cond b (Some r) (record_at rs q) ≡ Some x → x.clock ≡ pos (last q)) [
        | true ↦ λ same here. ap (λ (r : SavedRecord). r.clock) (sym (some_same r x here)) ∙ are.0.2 ∙ ap (λ k. pos (last k)) (sym (ties_same q p.0 same))
        | false ↦ λ other later. clock-at rs ps q x are.1 later
      ] refl (sym (ap (λ o. cond (option_map_or (λ id. ties q id) o false) (Some r) (record_at rs q)) are.0.0) ∙ at)

-- the tombstone of an id
pub tomb-at : (ts : List SavedTomb) (q : List ℕ) → option_map_or (λ (t : SavedTomb). Some t.clock) (tomb_at ts q) None ≡ value_at (clocks_of ts) q
tomb-at [] q = refl
tomb-at (t ∷ ts) q = elim (ties q t.id) as (λ b. option_map_or (λ (t : SavedTomb). Some t.clock) (cond b (Some t) (tomb_at ts q)) None ≡ cond b (Some t.clock) (value_at (clocks_of ts) q)) [ true ↦ refl | false ↦ tomb-at ts q ]

module _ (test : List ℕ → Bool) (first : ℕ) (history : History) (saved : SavedRoom) (is : IsSavedOf test first history saved) where
  abbrev S : ℕ
  S = start_of first history

  abbrev pub document : Pairs
  document = records_with test (records_of history)

  pub records_are : AreOf (last_clock history) saved.documents.items document
  records_are = are_of (last_clock history) saved.documents.items document is.documents

  abbrev C : List (List ℕ × ℤ)
  C = clocks_of saved.tombstones.items

  -- the tombstones are the removed ids that are remembered
  pub tombs_are : clocks_of saved.tombstones.items ≡ sorted_clocks (filter (λ p. test p.0) (dead first history))
  tombs_are = same_pairs _ _ is.rising (rising-sorted (filter (λ p. test p.0) (dead first history))) (λ q. is.removed q ∙ sym (at-sorted (filter (λ p. test p.0) (dead first history)) q ∙ at-tests test (dead first history) q))

  pub tombs_few : length (clocks_of saved.tombstones.items) ≤ MOST_DEAD
  tombs_few =
      let same = ap length tombs_are in
      let a = length-sorted (filter (λ p. test p.0) (dead first history)) in
      let b = at_most-filter (λ p. test p.0) (dead first history) in
      let c = few_dead first history in
      omega arith

  -- what a tombstone says
  pub tomb_says : (q : List ℕ) (z : ℤ) → value_at (clocks_of saved.tombstones.items) q ≡ Some z → (test q ≡ true) × (n : ℕ) × (z ≡ pos n) × IsDead (start_of first history) history q n
  tomb_says q z at =
      elim (test q) as (λ b. cond b (value_at (whole_clocks (dead first history)) q) None ≡ Some z → (b ≡ true) × (n : ℕ) × (z ≡ pos n) × IsDead S history q n) [
        | false ↦ λ no. none_some z no
        | true ↦ λ some. let n = at-whole (dead first history) q z some in (refl, n.0, n.2, dead_at S history q n.0 n.1)
      ] (sym (is.removed q) ∙ at)

  -- an id of the document without a tombstone isn't remembered
  pub no_tomb : (q : List ℕ) → test q ≡ true → value_at (clocks_of saved.tombstones.items) q ≡ None → value_at (dead first history) q ≡ None
  no_tomb q document none = none-whole (dead first history) q (sym (ap (λ b. cond b (value_at (whole_clocks (dead first history)) q) None) document) ∙ sym (is.removed q) ∙ none)
