-- Which ids are remembered as removed where a room begins from a saved one, and from which clock on.
use Rattle.std.proofs.Common.{◌≡◌, ℕ, zero, suc, ◌+◌, ◌<◌, ◌≤◌, nat_abs, nat_le, nat_lt, ◌==◌, ℤ, pos, Bool, true, false, cond, not, List, [], ◌∷◌, length, filter, fold, Some, None, is_some, refl, sym, ap, subst, ◌∙◌, arith}
use Rattle.std.specs.Prelude.{is_none, ◌-◌}
use Rattle.std.specs.FinMap.Entries.{by_order}
use Rattle.std.specs.Option.{option_map_or}
use Rattle.std.specs.declared.cmp.Ordering.TheVariants.{Less, Equal, Greater}
use Rattle.std.proofs.lemmas.Int.{ints}
use Rattle.std.proofs.lemmas.Bool.Decides.{nat_tests}
use Rattle.std.proofs.lemmas.List.{length-map, length-append}
use Rattle.rooms_val.proofs.Truths.{filter_shorter}
use Rattle.rooms_val.specs.Maps.{value_at, with_key, order}
use Rattle.rooms_val.specs.View.{data_of}
use Rattle.field_ops.specs.RecordOps.{RecordOpTree, RecordOps, put, remove}
use Rattle.field_ops.specs.Patched.{raw}
use Rattle.change_list.specs.Changes.{without_id, has_id}
use Rattle.room_model.proofs.HistoryLemmas.{Each, each-imp, each-append, each-filter, filter_twice, filter_through, at_most-filter}
use Rattle.room_model.specs.Histories.{records_of, last_clocks, absent_after, start_of, start_after, clock_at, dead, names}
use Rattle.room_model.specs.Saves.{own_id, with_record, with_tomb, diff_at, begun_to, begun}
use Rattle.room_model.specs.declared.history.Entry.{Entry}
use Rattle.room_model.specs.declared.limits.TheConstants.{MOST_DEAD, KEPT_DEAD}
use Rattle.room_model.specs.declared.saved.SavedRecord.{SavedRecord}
use Rattle.room_model.specs.declared.saved.SavedRoom.{SavedRoom}
use Rattle.room_model.specs.declared.saved.SavedTomb.{SavedTomb}
use Rattle.room_history.specs.Begins.{mark_new, mark_diff}
use Rattle.room_history.specs.Keeps.{change_at}
use Rattle.room_history.specs.Marks.{Lists}
use Rattle.room_model.proofs.BegunLemmas.{rising-diff}
use Rattle.room_history.proofs.BegunLemmas.{Fits, tomb_at, record_at, put_by, removed_by, standing, at-diff, at-begun}
use Rattle.room_history.proofs.NextLemmas.{each_found, lists_of, long, next_clock}
use Rattle.room_history.proofs.UsableLemmas.{each-map}

-- one that counts, or none
abbrev one_if : Bool → ℕ
one_if b = cond b 1 0

-- how many operations leave no record where there is none
abbrev lacking : RecordOps → ℕ
lacking [] = 0
lacking (c ∷ diff) = one_if (not (is_some (raw c.1 None))) + lacking diff

-- how many tombstones pass a test
abbrev counted : (SavedTomb → Bool) → List SavedTomb → ℕ
counted test [] = 0
counted test (t ∷ ts) = one_if (test t) + counted test ts

lacking-with_key : (es : RecordOps) (k : List ℕ) (op : RecordOpTree) → lacking (with_key es k op) ≤ lacking es + one_if (not (is_some (raw op None)))
lacking-with_key [] k op = omega arith
lacking-with_key (e ∷ es) k op =
    let ih = lacking-with_key es k op in
    elim (order k e.0) as (λ o. lacking (by_order o ((k, op) ∷ e ∷ es) ((e.0, op) ∷ es) (e ∷ with_key es k op)) ≤ (one_if (not (is_some (raw e.1 None))) + lacking es) + one_if (not (is_some (raw op None)))) [
      | Less ↦ omega arith
      | Equal ↦ omega arith
      | Greater ↦ omega arith
    ]

module _ (n : ℕ) where
  abbrev is_of : SavedTomb → Bool
  is_of t = nat_abs t.clock == n

  lacking-records : (rs : List SavedRecord) (es : RecordOps) → lacking (fold (with_record n) es rs) ≤ lacking es
  lacking-records [] es = omega arith
  lacking-records (r ∷ rs) es =
      let ih = lacking-records rs (with_record n es r) in
      let one : lacking (with_record n es r) ≤ lacking es =
      elim (nat_abs r.clock == n) as (λ b. lacking (cond b (option_map_or (λ id. with_key es id (put (data_of r.record))) (own_id r) es) es) ≤ lacking es) [
        | true ↦ elim (own_id r) as (λ o. lacking (option_map_or (λ id. with_key es id (put (data_of r.record))) o es) ≤ lacking es) [ None ↦ omega arith | Some id ↦ let more = lacking-with_key es id (put (data_of r.record)) in omega arith ]
        | false ↦ omega arith
      ] in
      omega arith

  lacking-tombs : (ts : List SavedTomb) (es : RecordOps) → lacking (fold (with_tomb n) es ts) ≤ lacking es + counted (λ t. nat_abs t.clock == n) ts
  lacking-tombs [] es = omega arith
  lacking-tombs (t ∷ ts) es =
      let ih = lacking-tombs ts (with_tomb n es t) in
      let one : lacking (with_tomb n es t) ≤ lacking es + one_if (nat_abs t.clock == n) =
      elim (nat_abs t.clock == n) as (λ b. lacking (cond b (with_key es t.id remove) es) ≤ lacking es + one_if b) [ true ↦ lacking-with_key es t.id remove | false ↦ omega arith ] in
      omega arith

lacking-diff : (saved : SavedRoom) (n : ℕ) → lacking (diff_at saved n) ≤ counted (λ t. nat_abs t.clock == n) saved.tombstones.items
lacking-diff saved n =
    let records = lacking-records n saved.documents.items [] in
    let tombs = lacking-tombs n saved.tombstones.items (fold (with_record n) [] saved.documents.items) in
    omega arith

-- marks add at most one removed id for each operation that leaves no record
marked_few : (clock : ℤ) (diff : RecordOps) (lists : Lists) → length (mark_diff clock diff lists).1 ≤ length lists.1 + lacking diff
marked_few clock [] lists = omega arith
marked_few clock (c ∷ diff) lists =
    let b = is_some (raw c.1 None) in
    let ih = marked_few clock diff (mark_new clock c.0 b lists) in
    let one : length (mark_new clock c.0 b lists).1 ≤ length lists.1 + one_if (not b) =
    elim b as (λ t. length (mark_new clock c.0 t lists).1 ≤ length lists.1 + one_if (not t)) [
      | true ↦ let less = filter_shorter (λ change. not (has_id c.0 change)) lists.1 in omega arith
      | false ↦ let less = filter_shorter (λ change. not (has_id c.0 change)) lists.1 in let long = length-append (without_id c.0 lists.1) (record { id = c.0; clock = clock; live = false } ∷ []) in omega arith
    ] in
    omega arith

counted_next : (n : ℕ) (ts : List SavedTomb) → counted (λ t. nat_le (nat_abs t.clock) (suc n)) ts ≡ counted (λ t. nat_le (nat_abs t.clock) n) ts + counted (λ t. nat_abs t.clock == suc n) ts
counted_next n [] = refl
counted_next n (t ∷ ts) =
    let ih = counted_next n ts in
    let k = nat_abs t.clock in
    let one : one_if (nat_le k (suc n)) ≡ one_if (nat_le k n) + one_if (k == suc n) = split k n in
    omega arith
  where
    split : (k n : ℕ) → one_if (nat_le k (suc n)) ≡ one_if (nat_le k n) + one_if (k == suc n)
    split k n = grind (arith, nat_tests)

counted_all : (test : SavedTomb → Bool) (ts : List SavedTomb) → counted test ts ≤ length ts
counted_all test [] = omega arith
counted_all test (t ∷ ts) =
    let ih = counted_all test ts in
    elim (test t) as (λ b. one_if b + counted test ts ≤ suc (length ts)) [ true ↦ omega arith | false ↦ omega arith ]

module _ (saved : SavedRoom) (fits : Fits saved) where
  abbrev D : List SavedRecord
  D = saved.documents.items

  abbrev T : List SavedTomb
  T = saved.tombstones.items

  -- no more ids are absent than there are tombstones of clocks up to there
  few_to : (n : ℕ) → length (absent_after 0 (begun_to saved n)) ≤ counted (λ t. nat_le (nat_abs t.clock) n) saved.tombstones.items
  few_to zero = omega arith
  few_to (suc n) =
      let ih = few_to n in
      let was : length (lists_of (begun_to saved n)).1 ≡ length (absent_after 0 (begun_to saved n)) = length-map (absent_after 0 (begun_to saved n)) (change_at false) in
      let is : length (lists_of (begun_to saved (suc n))).1 ≡ length (absent_after 0 (begun_to saved (suc n))) = length-map (absent_after 0 (begun_to saved (suc n))) (change_at false) in
      let step = marked_few (pos (suc n)) (diff_at saved (suc n)) (lists_of (begun_to saved n)) in
      let same : length (mark_diff (pos (suc n)) (diff_at saved (suc n)) (lists_of (begun_to saved n))).1 ≡ length (lists_of (begun_to saved (suc n))).1 = ap (λ (l : Lists). length l.1) (next_clock saved fits n) in
      let more = lacking-diff saved (suc n) in
      let next = counted_next n T in
      omega arith

  few : (n : ℕ) → length (absent_after 0 (begun_to saved n)) ≤ length saved.tombstones.items
  few n = let some = few_to n in let all = counted_all (λ t. nat_le (nat_abs t.clock) n) T in omega arith

  -- the room's first start
  abbrev pub S : ℕ
  S = nat_abs saved.start

  abbrev pub N : ℕ
  N = nat_abs saved.clock

  fewer_after : (n : ℕ) → length (absent_after (nat_abs saved.start) (begun_to saved n)) ≤ length saved.tombstones.items
  fewer_after n =
      let h = begun_to saved n in
      let none : List ℕ × ℕ → Bool = λ p. is_none (value_at (records_of h) p.0) in
      let later : absent_after S h ≡ filter (λ p. nat_lt S p.1) (absent_after 0 h) =
      ap (filter none) (sym (filter_through (λ p. nat_lt S p.1) (λ p. nat_lt 0 p.1) (λ p is. grind (arith, nat_tests)) (last_clocks h)))
      ∙ filter_twice none (λ p. nat_lt S p.1) (filter (λ p. nat_lt 0 p.1) (last_clocks h)) in
      let less = at_most-filter (λ p. nat_lt S p.1) (absent_after 0 h) in
      let all = few n in
      let same = ap length later in
      omega arith

  pub start_is : length saved.tombstones.items ≤ MOST_DEAD → (n : ℕ) → start_of (nat_abs saved.start) (begun_to saved n) ≡ nat_abs saved.start
  start_is most zero = refl
  start_is most (suc n) =
      let ih = start_is most n in
      let all = fewer_after (suc n) in
      let within : nat_le (length (absent_after S (begun_to saved (suc n)))) MOST_DEAD ≡ true = grind (arith, nat_tests) in
      ap (λ s. start_after s (absent_after s (begun_to saved (suc n)))) ih
      ∙ ap (λ b. cond b S (clock_at (length (absent_after S (begun_to saved (suc n))) - KEPT_DEAD) (absent_after S (begun_to saved (suc n))))) within

  -- what is named without a record at the end is named above the start
  named_late : (n : ℕ) → suc n ≤ nat_abs saved.clock → (q : List ℕ) (c : RecordOpTree) → value_at (diff_at saved (suc n)) q ≡ Some c
      → is_none (value_at (records_of (begun saved)) q) ≡ true → nat_abs saved.start < suc n
  named_late n within q c is none =
      elim (tomb_at T q) as (λ t. tomb_at T q ≡ t → removed_by (suc n) t (put_by (suc n) (record_at D q) None) ≡ Some c → nat_abs saved.start < suc n) [
        | Some t ↦ λ at h.
            (elim (nat_abs t.clock == suc n) as (λ b. nat_abs t.clock == suc n ≡ b → cond b (Some remove) (put_by (suc n) (record_at D q) None) ≡ Some c → nat_abs saved.start < suc n) [
              | true ↦ λ here h. let clocks = fits.tomb_clocks q t at in let low = clocks.0 in let from = fits.start_low in let number : nat_abs t.clock ≡ suc n = grind (arith, nat_tests) in omega (arith, ints)
              | false ↦ λ here h. let no : None ≡ Some c = ap (λ o. put_by (suc n) o None) (sym (fits.both_apart q t at)) ∙ h in let never = ap is_some no in absurd (cc)
            ] refl h)
        | None ↦ λ at h.
            (elim (record_at D q) as (λ o. record_at D q ≡ o → put_by (suc n) o None ≡ Some c → nat_abs saved.start < suc n) [
              | None ↦ λ there h. let never = ap is_some h in absurd (cc)
              | Some r ↦ λ there h. stands r there h
            ] refl h)
      ] refl (sym (at-diff saved fits (suc n) q) ∙ is)
    where
      stands : (r : SavedRecord) → record_at saved.documents.items q ≡ Some r → put_by (suc n) (Some r) None ≡ Some c → nat_abs saved.start < suc n
      stands r there h =
          let high = (fits.record_clocks q r there).1 in
          let low = (fits.record_clocks q r there).0 in
          let up : nat_le (nat_abs r.clock) (nat_abs saved.clock) ≡ true = grind (arith, ints, nat_tests) in
          let some : is_none (value_at (records_of (begun saved)) q) ≡ false =
          ap is_none (at-begun saved fits (nat_abs saved.clock) q ∙ ap (standing saved fits (nat_abs saved.clock)) there ∙ ap (λ b. cond b (Some (data_of r.record)) None) up) in
          let never = sym some ∙ none in
          absurd (cc)

  late_to : (n : ℕ) → n ≤ nat_abs saved.clock → Each (λ p. is_none (value_at (records_of (begun saved)) p.0) ≡ true → nat_abs saved.start < p.1) (last_clocks (begun_to saved n))
  late_to zero within = tt
  late_to (suc n) within =
      let P : List ℕ × ℕ → Type 0 = λ p. is_none (value_at (records_of (begun saved)) p.0) ≡ true → nat_abs saved.start < p.1 in
      let entry : Entry = record { diff = diff_at saved (suc n); author = None } in
      let old = each-filter P (λ p. not (names p.0 entry)) (last_clocks (begun_to saved n)) (late_to n (omega arith)) in
      let new = each-map P (λ (c : List ℕ × RecordOpTree). (c.0, suc (length (begun_to saved n)))) (diff_at saved (suc n))
      (each_found (λ q (c : RecordOpTree). P (q, suc (length (begun_to saved n)))) (diff_at saved (suc n)) (rising-diff saved (suc n))
      (λ q c is none. subst (λ k. nat_abs saved.start < suc k) (sym (long saved n)) (named_late n within q c is none))) in
      each-append P _ _ old new

  filter_late : {X : Type 0} (f g : X → Bool) (xs : List X) → Each (λ x. f x ≡ true → g x ≡ true) xs → filter f (filter g xs) ≡ filter f xs
  filter_late f g [] late = refl
  filter_late f g (x ∷ xs) late =
      let ih = filter_late f g xs late.1 in
      elim (g x) as (λ b. (f x ≡ true → b ≡ true) → filter f (cond b (x ∷ filter g xs) (filter g xs)) ≡ cond (f x) (x ∷ filter f xs) (filter f xs)) [
        | true ↦ λ h. ap (λ r. cond (f x) (x ∷ r) r) ih
        | false ↦ λ h.
            elim (f x) as (λ b. (b ≡ true → false ≡ true) → filter f (filter g xs) ≡ cond b (x ∷ filter f xs) (filter f xs)) [
              | true ↦ λ k. let never = k refl in absurd (cc)
              | false ↦ λ k. ih
            ] h
      ] late.0

  -- the ids that are remembered are all that are absent
  pub dead_is : length saved.tombstones.items ≤ MOST_DEAD → dead (nat_abs saved.start) (begun saved) ≡ absent_after 0 (begun saved)
  dead_is most =
      let h = begun saved in
      let late = late_to N (omega arith) in
      let none : List ℕ × ℕ → Bool = λ p. is_none (value_at (records_of h) p.0) in
      ap (λ s. absent_after s h) (start_is most N)
      ∙ filter_late none (λ p. nat_lt S p.1) (last_clocks h) (each-imp (λ p. none p ≡ true → S < p.1) (λ p. none p ≡ true → nat_lt S p.1 ≡ true) (λ p so is. let less = so is in grind (arith, nat_tests)) (last_clocks h) late)
      ∙ sym (filter_late none (λ p. nat_lt 0 p.1) (last_clocks h) (each-imp (λ p. none p ≡ true → S < p.1) (λ p. none p ≡ true → nat_lt 0 p.1 ≡ true) (λ p so is. let less = so is in grind (arith, nat_tests)) (last_clocks h) late))
