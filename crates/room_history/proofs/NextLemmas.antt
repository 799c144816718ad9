-- What the changes of ids are clock by clock, where a room begins from a saved one.
use Rattle.std.proofs.Common.{◌≡◌, ℕ, zero, suc, ◌+◌, ◌<◌, ◌≤◌, nat_abs, nat_le, nat_lt, ◌==◌, ℤ, pos, ◌<ℤ◌, ◌≤ℤ◌, true, false, cond, not, List, [], ◌∷◌, ◌++◌, length, map, filter, Option, Some, None, is_some, is_eq, unwrap_or, refl, sym, ap, subst, ◌∙◌, arith, All}
use Rattle.std.specs.Prelude.{is_none}
use Rattle.std.specs.declared.cmp.Ordering.TheVariants.{Less, Equal, Greater}
use Rattle.std.specs.List.Sorted.{IsStrictlySortedBy}
use Rattle.std.specs.Map.{keys_of, lookup}
use Rattle.std.specs.BTreeMap.{is_at}
use Rattle.std.specs.Ordering.{int_cmp}
use Rattle.std.proofs.lemmas.Int.{ints}
use Rattle.std.proofs.lemmas.Bool.Decides.{nat_tests}
use Rattle.std.proofs.lemmas.List.{map-append, append-nil, append_assoc}
use Rattle.std.proofs.lemmas.List.Elements.{All-head, All-tail, All-cons}
use Rattle.std.proofs.lemmas.Map.Keys.{sorted_tail}
use Rattle.std.proofs.lemmas.Map.Views.{All-after_first}
use Rattle.rooms_val.specs.Data.{Pairs}
use Rattle.rooms_val.specs.Maps.{value_at, ties, AreRising}
use Rattle.rooms_val.specs.View.{data_of}
use Rattle.rooms_val.proofs.MapsLemmas.{ties_same, order_itself, none_later, rising_rest}
use Rattle.field_ops.specs.RecordOps.{RecordOpTree, RecordOps, put}
use Rattle.field_ops.specs.Patched.{raw}
use Rattle.change_list.specs.Changes.{without_id}
use Rattle.room_model.proofs.HistoryLemmas.{Each}
use Rattle.room_model.specs.Histories.{History, records_of, last_clocks, absent_after}
use Rattle.room_model.specs.Saves.{diff_at, begun_to}
use Rattle.room_model.specs.declared.saved.SavedRecord.{SavedRecord}
use Rattle.room_model.specs.declared.saved.SavedRoom.{SavedRoom}
use Rattle.room_model.specs.declared.saved.SavedTomb.{SavedTomb}
use Rattle.room_history.specs.Begins.{mark_new, mark_diff, mark_diffs}
use Rattle.room_history.specs.Keeps.{change_at, present_ids}
use Rattle.room_history.specs.Marks.{Lists}
use Rattle.room_model.proofs.BegunLemmas.{rising-diff}
use Rattle.room_history.proofs.BegunLemmas.{Fits, tomb_at, record_at, put_by, removed_by, standing, at-diff, at-begun}
use Rattle.room_history.proofs.FilterLemmas.{none_before}
use Rattle.room_history.proofs.MarkLemmas.{lists, without-changes}
use Rattle.room_history.proofs.PartLemmas as part

module _ {V : Type 0} (P : List ℕ → V → Type 0) where
  -- each pair of a key and a value has a property
  abbrev pub EachAt : List (List ℕ × V) → Type 0
  EachAt es = Each (λ e. P e.0 e.1) es

  -- which is so where each value that is found has it
  pub each_found : (es : List (List ℕ × V)) → AreRising es → ((q : List ℕ) (v : V) → value_at es q ≡ Some v → P q v) → EachAt es
  each_found [] rising found = tt
  each_found (e ∷ es) rising found = (
    found e.0 e.1 (ap (λ o. cond (is_eq o) (Some e.1) (value_at es e.0)) (order_itself e.0)),
    each_found es (rising_rest e es rising) (λ q v is.
        found q v (elim (ties q e.0) as (λ b. ties q e.0 ≡ b → cond b (Some e.1) (value_at es q) ≡ Some v) [
          | true ↦ λ same. absurd (nothing (ap (value_at es) (sym (ties_same q e.0 same)) ∙ is) (none_later e es rising))
          | false ↦ λ same. is
        ] refl)),
  )
    where
      nothing : {o : Option V} {v : V} → o ≡ Some v → o ≡ None → ⊥
      nothing some none = let no = ap is_some (sym some ∙ none) in absurd (cc)

-- the lists of what is there and what isn't, where nothing is forgotten
abbrev pub lists_of : History → Lists
lists_of history = (map (change_at true) (present_ids history), map (change_at false) (absent_after 0 history))

module _ (history : History) where
  abbrev M : Pairs
  M = records_of history

  some_clock : 0 < suc (length history)
  some_clock = omega arith

  one_new : (diff : RecordOps) (c : part.Change) → value_at diff c.0 ≡ None → value_at (records_of history) c.0 ≡ None
      → mark_new (pos (suc (length history))) c.0 (is_some (raw c.1 None)) (lists history 0 some_clock diff) ≡ lists history 0 some_clock (diff ++ c ∷ [])
  one_new diff c fresh new =
      let clock = pos (suc (length history)) in
      elim (raw c.1 None) as (λ r. raw c.1 (value_at M c.0) ≡ r → mark_new clock c.0 (is_some r) (lists history 0 some_clock diff) ≡ lists history 0 some_clock (diff ++ c ∷ [])) [
        | None ↦ λ is.
            let live : without_id c.0 (map (change_at true) (part.there history diff)) ≡ map (change_at true) (part.there history (diff ++ c ∷ [])) =
            without-changes true c.0 (part.there history diff) ∙ ap (map (change_at true)) (sym (part.there-push history diff c fresh ∙ ap (λ r. filter (λ p. not (ties p.0 c.0)) (part.there history diff) ++ cond (is_some r) ((c.0, suc (length history)) ∷ []) []) is ∙ append-nil _)) in
            let dead : without_id c.0 (map (change_at false) (part.gone history 0 diff)) ++ change_at false (c.0, suc (length history)) ∷ [] ≡ map (change_at false) (part.gone history 0 (diff ++ c ∷ [])) =
            ap (λ cs. cs ++ change_at false (c.0, suc (length history)) ∷ []) (without-changes false c.0 (part.gone history 0 diff))
            ∙ sym (map-append (change_at false) (filter (λ p. not (ties p.0 c.0)) (part.gone history 0 diff)) ((c.0, suc (length history)) ∷ []))
            ∙ ap (map (change_at false)) (sym (part.gone-push history diff c fresh 0 some_clock ∙ ap (λ r. filter (λ p. not (ties p.0 c.0)) (part.gone history 0 diff) ++ cond (is_none r) ((c.0, suc (length history)) ∷ []) []) is)) in
            (λ i. (live i, dead i))
        | Some d ↦ λ is.
            let live : without_id c.0 (map (change_at true) (part.there history diff)) ++ change_at true (c.0, suc (length history)) ∷ [] ≡ map (change_at true) (part.there history (diff ++ c ∷ [])) =
            ap (λ cs. cs ++ change_at true (c.0, suc (length history)) ∷ []) (without-changes true c.0 (part.there history diff))
            ∙ sym (map-append (change_at true) (filter (λ p. not (ties p.0 c.0)) (part.there history diff)) ((c.0, suc (length history)) ∷ []))
            ∙ ap (map (change_at true)) (sym (part.there-push history diff c fresh ∙ ap (λ r. filter (λ p. not (ties p.0 c.0)) (part.there history diff) ++ cond (is_some r) ((c.0, suc (length history)) ∷ []) []) is)) in
            let dead : without_id c.0 (map (change_at false) (part.gone history 0 diff)) ≡ map (change_at false) (part.gone history 0 (diff ++ c ∷ [])) =
            without-changes false c.0 (part.gone history 0 diff) ∙ ap (map (change_at false)) (sym (part.gone-push history diff c fresh 0 some_clock ∙ ap (λ r. filter (λ p. not (ties p.0 c.0)) (part.gone history 0 diff) ++ cond (is_none r) ((c.0, suc (length history)) ∷ []) []) is ∙ append-nil _)) in
            (λ i. (live i, dead i))
      ] (ap (raw c.1) new)

  -- none of a diff's ids has a record
  abbrev pub AreNew : RecordOps → Type 0
  AreNew diff = EachAt (λ q (c : RecordOpTree). value_at (records_of history) q ≡ None) diff

  new_marked : (diff rest : RecordOps) → AreRising (diff ++ rest) → AreNew rest → mark_diff (pos (suc (length history))) rest (lists history 0 some_clock diff) ≡ lists history 0 some_clock (diff ++ rest)
  new_marked diff [] rising new = ap (lists history 0 some_clock) (sym (append-nil diff))
  new_marked diff (c ∷ rest) rising new =
      let on : AreRising ((diff ++ c ∷ []) ++ rest) = subst AreRising (sym (append_assoc diff (c ∷ []) rest)) rising in
      ap (mark_diff (pos (suc (length history))) rest) (one_new diff c (none_before diff c rest rising) new.0)
      ∙ new_marked (diff ++ c ∷ []) rest on new.1 ∙ ap (lists history 0 some_clock) (append_assoc diff (c ∷ []) rest)

  filter_all : {X : Type 0} (xs : List X) → filter (λ x. true) xs ≡ xs
  filter_all [] = refl
  filter_all (x ∷ xs) = ap (λ r. x ∷ r) (filter_all xs)

  unmarked : lists history 0 some_clock [] ≡ lists_of history
  unmarked =
      let none : part.clocks history [] ≡ last_clocks history = append-nil _ ∙ filter_all (last_clocks history) in
      (λ i. (map (change_at true) (filter (λ p. is_some (value_at (records_of history) p.0)) (none i)), map (change_at false) (filter (λ p. is_none (value_at (records_of history) p.0)) (filter (λ p. nat_lt 0 p.1) (none i)))))

  pub next_marked : (diff : RecordOps) → AreRising diff → AreNew diff → mark_diff (pos (suc (length history))) diff (lists_of history) ≡ lists_of (record { diff = diff; author = None } ∷ history)
  next_marked diff rising new = ap (mark_diff (pos (suc (length history))) diff) (sym unmarked) ∙ new_marked [] diff rising new

pub long : (saved : SavedRoom) (n : ℕ) → length (begun_to saved n) ≡ n
long saved zero = refl
long saved (suc n) = ap suc (long saved n)

less_is : (y z : ℤ) → int_cmp y z ≡ Less → y <ℤ z
less_is y z is = grind (arith, ints)

-- the keys behind the first one are above it
pub after_first : (e : ℤ × RecordOps) (es : List (ℤ × RecordOps)) → IsStrictlySortedBy int_cmp (keys_of (e ∷ es)) → All (λ z. e.0 <ℤ z) (keys_of es)
after_first e es sorted = λ i d low. less_is e.0 _ (All-after_first int_cmp e.0 (keys_of es) sorted i d low)

module _ (saved : SavedRoom) (fits : Fits saved) where
  abbrev D : List SavedRecord
  D = saved.documents.items

  abbrev T : List SavedTomb
  T = saved.tombstones.items

  -- what a clock names has no record before
  pub named_new : (n : ℕ) (q : List ℕ) (c : RecordOpTree) → value_at (diff_at saved (suc n)) q ≡ Some c → value_at (records_of (begun_to saved n)) q ≡ None
  named_new n q c is =
      at-begun saved fits n q
      ∙ elim (tomb_at T q) as (λ t. tomb_at T q ≡ t → removed_by (suc n) t (put_by (suc n) (record_at D q) None) ≡ Some c → standing saved fits n (record_at D q) ≡ None) [
        | Some t ↦ λ at h. ap (standing saved fits n) (fits.both_apart q t at)
        | None ↦ λ at h.
            (elim (record_at D q) as (λ o. put_by (suc n) o None ≡ Some c → standing saved fits n o ≡ None) [
              | None ↦ λ h. refl
              | Some r ↦ λ h. later r h
            ] h)
      ] refl (sym (at-diff saved fits (suc n) q) ∙ is)
    where
      later : (r : SavedRecord) → put_by (suc n) (Some r) None ≡ Some c → standing saved fits n (Some r) ≡ None
      later r h =
          elim (nat_abs r.clock == suc n) as (λ b. nat_abs r.clock == suc n ≡ b → cond b (Some (put (data_of r.record))) None ≡ Some c → standing saved fits n (Some r) ≡ None) [
            | true ↦ λ at h. let late : nat_le (nat_abs r.clock) n ≡ false = grind (arith, nat_tests) in ap (λ b. cond b (Some (data_of r.record)) None) late
            | false ↦ λ at h. let no = ap is_some h in absurd (cc)
          ] refl h

  pub all_new : (n : ℕ) → AreNew (begun_to saved n) (diff_at saved (suc n))
  all_new n = each_found (λ q (c : RecordOpTree). value_at (records_of (begun_to saved n)) q ≡ None) (diff_at saved (suc n)) (rising-diff saved (suc n)) (named_new n)

  pub next_clock : (n : ℕ) → mark_diff (pos (suc n)) (diff_at saved (suc n)) (lists_of (begun_to saved n)) ≡ lists_of (begun_to saved (suc n))
  next_clock n =
      ap (λ k. mark_diff (pos (suc k)) (diff_at saved (suc n)) (lists_of (begun_to saved n))) (sym (long saved n))
      ∙ next_marked (begun_to saved n) (diff_at saved (suc n)) (rising-diff saved (suc n)) (all_new n)

  -- entries from a clock on, of which each that has a diff is there
  pub record From (n k : ℕ) (es : List (ℤ × RecordOps)) : Type 0 where
    pub sorted : IsStrictlySortedBy int_cmp (keys_of es)
    pub above : All (λ z. pos n <ℤ z) (keys_of es)
    pub within : All (λ z. z ≤ℤ pos (n + k)) (keys_of es)
    pub diffs : (m : ℕ) → n < m → m ≤ n + k → unwrap_or (lookup (is_at (int_cmp (pos m))) es) [] ≡ diff_at saved m

  no_further : (n : ℕ) → n ≡ n + 0
  no_further n = omega arith

  one_further : (n k : ℕ) → suc n + k ≡ n + suc k
  one_further n k = omega arith

  -- a key is another one
  other_key : (m : ℕ) (z : ℤ) → (pos m ≡ z → ⊥) → is_eq (int_cmp (pos m) z) ≡ false
  other_key m z apart = grind (arith, ints)

  above_none : (m : ℕ) (es : List (ℤ × RecordOps)) → All (λ z. pos m <ℤ z) (keys_of es) → lookup (is_at (int_cmp (pos m))) es ≡ None
  above_none m [] above = refl
  above_none m (e ∷ es) above =
      let less = All-head (λ z. pos m <ℤ z) e.0 (keys_of es) above in
      ap (λ b. cond b (Some e.1) (lookup (is_at (int_cmp (pos m))) es)) (other_key m e.0 (λ same. omega (arith, ints)))
      ∙ above_none m es (All-tail (λ z. pos m <ℤ z) e.0 (keys_of es) above)

  pub walked : (k n : ℕ) (es : List (ℤ × RecordOps)) → From n k es → mark_diffs es (lists_of (begun_to saved n)) ≡ lists_of (begun_to saved (n + k))
  walked zero n [] from = ap (λ m. lists_of (begun_to saved m)) (no_further n)
  walked zero n (e ∷ es) from = let low = All-head (λ z. pos n <ℤ z) e.0 (keys_of es) from.above in let high = All-head (λ z. z ≤ℤ pos (n + 0)) e.0 (keys_of es) from.within in absurd (omega (arith, ints))
  walked (suc k) n [] from =
      let none : diff_at saved (suc n) ≡ [] = sym (from.diffs (suc n) (omega arith) (omega arith)) in
      let same : lists_of (begun_to saved n) ≡ lists_of (begun_to saved (suc n)) = ap (λ d. mark_diff (pos (suc n)) d (lists_of (begun_to saved n))) (sym none) ∙ next_clock n in
      same ∙ walked k (suc n) [] (record { sorted = from.sorted; above = λ i d low. absurd (omega arith); within = λ i d low. absurd (omega arith); diffs = λ m low high. from.diffs m (omega arith) (omega arith) })
      ∙ ap (λ m. lists_of (begun_to saved m)) (one_further n k)
  walked (suc k) n (e ∷ es) from =
      elim (int_cmp (pos (suc n)) e.0) as (λ o. int_cmp (pos (suc n)) e.0 ≡ o → mark_diffs (e ∷ es) (lists_of (begun_to saved n)) ≡ lists_of (begun_to saved (n + suc k))) [
        | Less ↦ λ is.
            let less : pos (suc n) <ℤ e.0 = less_is _ _ is in
            let above : All (λ z. pos (suc n) <ℤ z) (keys_of (e ∷ es)) =
            All-cons (λ z. pos (suc n) <ℤ z) e.0 (keys_of es) less (λ i d low. let more = after_first e es from.sorted i d low in omega (arith, ints)) in
            let none : diff_at saved (suc n) ≡ [] = sym (from.diffs (suc n) (omega arith) (omega arith)) ∙ ap (λ o. unwrap_or o []) (above_none (suc n) (e ∷ es) above) in
            let same : lists_of (begun_to saved n) ≡ lists_of (begun_to saved (suc n)) = ap (λ d. mark_diff (pos (suc n)) d (lists_of (begun_to saved n))) (sym none) ∙ next_clock n in
            ap (mark_diffs (e ∷ es)) same
            ∙ walked k (suc n) (e ∷ es) (record {
              sorted = from.sorted;
              above = above;
              within = λ i d low. let high = from.within i d low in omega (arith, ints);
              diffs = λ m low high. from.diffs m (omega arith) (omega arith);
            })
            ∙ ap (λ m. lists_of (begun_to saved m)) (one_further n k)
        | Equal ↦ λ is.
            let key : e.0 ≡ pos (suc n) = grind (arith, ints) in
            let diff : e.1 ≡ diff_at saved (suc n) = ap (λ o. unwrap_or (cond (is_eq o) (Some e.1) (lookup (is_at (int_cmp (pos (suc n)))) es)) []) (sym is) ∙ from.diffs (suc n) (omega arith) (omega arith) in
            (λ i. mark_diffs es (mark_diff (key i) (diff i) (lists_of (begun_to saved n))))
            ∙ ap (mark_diffs es) (next_clock n)
            ∙ walked k (suc n) es (record {
              sorted = sorted_tail int_cmp e.0 (keys_of es) from.sorted;
              above = λ i d low. let more = after_first e es from.sorted i d low in omega (arith, ints);
              within = λ i d low. let high = All-tail (λ z. z ≤ℤ pos (n + suc k)) e.0 (keys_of es) from.within i d low in omega (arith, ints);
              diffs = λ m low high. ap (λ b. unwrap_or (cond b (Some e.1) (lookup (is_at (int_cmp (pos m))) es)) []) (sym (other_key m e.0 (λ same. omega (arith, ints)))) ∙ from.diffs m (omega arith) (omega arith);
            })
            ∙ ap (λ m. lists_of (begun_to saved m)) (one_further n k)
        | Greater ↦ λ is. let low = All-head (λ z. pos n <ℤ z) e.0 (keys_of es) from.above in absurd (grind (arith, ints))
      ] refl
