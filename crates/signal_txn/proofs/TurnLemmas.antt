-- Writes in their order, and what those since an epoch tell.
use Rattle.std.proofs.Common.{◌≡◌, ℕ, zero, suc, ◌+◌, ◌-◌, ◌<◌, ◌≤◌, max, Bool, true, false, cond, List, [], ◌∷◌, ◌++◌, length, map, take, drop, refl, sym, ap, subst, ◌∙◌, arith, length-drop, length-append, lt-ltb, ltb-true}
use Rattle.std.specs.Prelude.{nat_lt, filter}
use Rattle.std.specs.BTreeMap.{insert_entry}
use Rattle.std.specs.Option.{is_some}
use Rattle.std.specs.declared.cmp.Ordering.{Ordering}
use Rattle.signal_txn.specs.declared.write.Write.{Write}
use Rattle.signal_txn.specs.Journal.{joined, committed}
use Rattle.signal_txn.specs.LastWrites.{LastWrites, no_writes, one_write, last_epoch, followed}
use Rattle.signal_txn.specs.Level.{Level, unwritten, value_before, noted}
use Rattle.signal_txn.specs.Diffs.{diff_of, diffs_after}
use Rattle.signal_txn.specs.Turns.{Rise, IsInTurn, AreInTurn}
use Rattle.signal_txn.proofs.LastWritesLemmas.{drop_past}

module _ {K V : Type 0} where
  pub rise-bound : (low high : ℕ) (ws : List (Write K V)) → Rise low ws high → low ≤ high
  rise-bound low high [] r = r
  rise-bound low high (w ∷ ws) r = let later = rise-bound w.epoch high ws r.1 in let here = r.0 in omega arith

  pub rise-later : (low high next : ℕ) (ws : List (Write K V)) → high ≤ next → Rise low ws high → Rise low ws next
  rise-later low high next [] more r = omega arith
  rise-later low high next (w ∷ ws) more r = (r.0, rise-later w.epoch high next ws more r.1)

  pub rise-lower : (lower low high : ℕ) (ws : List (Write K V)) → lower ≤ low → Rise low ws high → Rise lower ws high
  rise-lower lower low high [] less r = omega arith
  rise-lower lower low high (w ∷ ws) less r = (let here = r.0 in omega arith, r.1)

  pub rise-append : (low mid high : ℕ) (xs ys : List (Write K V)) → Rise low xs mid → Rise mid ys high → Rise low (xs ++ ys) high
  rise-append low mid high [] ys r s = rise-lower low mid high ys r s
  rise-append low mid high (x ∷ xs) ys r s = (r.0, rise-append x.epoch mid high xs ys r.1 s)

  pub rise-drop : (k low high : ℕ) (xs : List (Write K V)) → Rise low xs high → Rise low (drop k xs) high
  rise-drop zero low high xs r = r
  rise-drop (suc k) low high [] r = r
  rise-drop (suc k) low high (x ∷ xs) r = rise-lower low x.epoch high (drop k xs) (let here = r.0 in omega arith) (rise-drop k x.epoch high xs r.1)

  pub rise-fallen : (k low high : ℕ) (xs : List (Write K V)) → Rise low xs high → Rise (last_epoch low (take k xs)) (drop k xs) high
  rise-fallen zero low high xs r = r
  rise-fallen (suc k) low high [] r = r
  rise-fallen (suc k) low high (x ∷ xs) r = rise-fallen k x.epoch high xs r.1

  rise-max : (a b high : ℕ) (ws : List (Write K V)) → Rise a ws high → Rise b ws high → Rise (max a b) ws high
  rise-max a b high [] r s = omega arith
  rise-max a b high (w ∷ ws) r s = (let p = r.0 in let q = s.0 in omega arith, r.1)

  -- what fell out came later than what had before
  pub last_grows : (k low high : ℕ) (xs : List (Write K V)) → Rise low xs high → low ≤ last_epoch low (take k xs)
  last_grows zero low high xs r = omega arith
  last_grows (suc k) low high [] r = omega arith
  last_grows (suc k) low high (x ∷ xs) r = let later = last_grows k x.epoch high xs r.1 in let here = r.0 in omega arith

  earlier : (since : ℕ) (x : Write K V) (xs : List (Write K V)) → x.epoch ≤ since → diffs_after since (x ∷ xs) ≡ diffs_after since xs
  earlier since x xs before = at (nat_lt since x.epoch) refl
    where
      at : (b : Bool) → nat_lt since x.epoch ≡ b → map diff_of (cond b (x ∷ filter (λ w. nat_lt since w.epoch) xs) (filter (λ w. nat_lt since w.epoch) xs)) ≡ diffs_after since xs
      at true is = absurd (let more : since < x.epoch = ltb-true since x.epoch is in omega arith)
      at false is = refl

  -- nothing was written after the highest epoch
  pub none_later : (low high : ℕ) (xs : List (Write K V)) → Rise low xs high → diffs_after high xs ≡ []
  none_later low high [] rise = refl
  none_later low high (x ∷ xs) rise = earlier high x xs (rise-bound x.epoch high xs rise.1) ∙ none_later x.epoch high xs rise.1

  pub later_one : (since : ℕ) (x : Write K V) → since < x.epoch → diffs_after since (x ∷ []) ≡ diff_of x ∷ []
  later_one since x after = ap (λ b. map diff_of (cond b (x ∷ []) [])) (lt-ltb since x.epoch after)

  diffs-append : (since : ℕ) (xs ys : List (Write K V)) → diffs_after since (xs ++ ys) ≡ diffs_after since xs ++ diffs_after since ys
  diffs-append since [] ys = refl
  diffs-append since (x ∷ xs) ys =
      elim (nat_lt since x.epoch) as (λ b. map diff_of (cond b (x ∷ filter (λ w. nat_lt since w.epoch) (xs ++ ys)) (filter (λ w. nat_lt since w.epoch) (xs ++ ys)))
      ≡ map diff_of (cond b (x ∷ filter (λ w. nat_lt since w.epoch) xs) (filter (λ w. nat_lt since w.epoch) xs)) ++ diffs_after since ys) [
        | true ↦ ap (λ rest. diff_of x ∷ rest) (diffs-append since xs ys)
        | false ↦ diffs-append since xs ys
      ]

  pub diffs-fallen : (k low high since : ℕ) (xs : List (Write K V)) → Rise low xs high → last_epoch low (take k xs) ≤ since → diffs_after since (drop k xs) ≡ diffs_after since xs
  diffs-fallen zero low high since xs r known = refl
  diffs-fallen (suc k) low high since [] r known = refl
  diffs-fallen (suc k) low high since (x ∷ xs) r known =
      diffs-fallen k x.epoch high since xs r.1 known ∙ sym (earlier since x xs (let grows = last_grows k x.epoch high xs r.1 in omega arith))

  module _ (a b : LastWrites K V) (mid high : ℕ) where
    abbrev both : List (Write K V)
    both = a.writes ++ b.writes

    abbrev out : ℕ
    out = length both - 256

    rising : IsInTurn mid high b → (low : ℕ) → Rise low a.writes mid → Rise low both high
    rising tb low r = rise-append low mid high a.writes b.writes r tb.above

    after : IsInTurn mid high b → (low : ℕ) → Rise low both high → (d : ℕ) → b.dropped ≡ d → Rise d (drop out both) high
    after tb low r zero is = rise-lower 0 low high (drop out both) (omega arith) (rise-drop out low high both r)
    after tb low r (suc d) is =
        let full : 256 ≤ length b.writes = tb.full (omega arith) in
        let count : length both ≡ length a.writes + length b.writes = length-append a.writes b.writes in
        let far : length a.writes ≤ out = omega arith in
        subst (λ ws. Rise (suc d) ws high) (sym (drop_past out a.writes b.writes far))
        (rise-drop (out - length a.writes) (suc d) high b.writes (subst (λ n. Rise n b.writes high) is tb.fallen))

    full_left : (low : ℕ) → IsInTurn low mid a → IsInTurn mid high b → 0 < (followed a b).dropped → 256 ≤ length (drop out both)
    full_left low ta tb some = at (out) refl
      where
        count : length both ≡ length a.writes + length b.writes
        count = length-append a.writes b.writes

        left : length (drop out both) ≡ length both - out
        left = length-drop out both

        at : (k : ℕ) → out ≡ k → 256 ≤ length (drop out both)
        at (suc k) is = let c = left in let e : length both - 256 ≡ suc k = is in omega arith
        at zero is =
            let kept : (followed a b).dropped ≡ max a.dropped b.dropped = ap (λ k. max (last_epoch a.dropped (take k both)) b.dropped) is in
            let c = count in let l = left in
            by a.dropped b.dropped refl refl kept
          where
            by : (x y : ℕ) → a.dropped ≡ x → b.dropped ≡ y → (followed a b).dropped ≡ max a.dropped b.dropped → 256 ≤ length (drop out both)
            by (suc x) y p q kept = let f : 256 ≤ length a.writes = ta.full (omega arith) in let c = count in let l = left in let e : length both - 256 ≡ 0 = is in omega arith
            by zero (suc y) p q kept = let f : 256 ≤ length b.writes = tb.full (omega arith) in let c = count in let l = left in let e : length both - 256 ≡ 0 = is in omega arith
            by zero zero p q kept = absurd (omega arith)

    pub followed_in_turn : (low : ℕ) → IsInTurn low mid a → IsInTurn mid high b → IsInTurn low high (followed a b)
    followed_in_turn low ta tb = record {
      above = rise-drop out low high both (rising tb low ta.above);
      fallen = rise-max (last_epoch a.dropped (take out both)) b.dropped high (drop out both)
          (rise-fallen out a.dropped high both (rising tb a.dropped ta.fallen))
          (after tb low (rising tb low ta.above) b.dropped refl);
      full = full_left low ta tb;
    }

    pub dropped_grows : (low : ℕ) → IsInTurn low mid a → IsInTurn mid high b → (a.dropped ≤ (followed a b).dropped) × (b.dropped ≤ (followed a b).dropped)
    dropped_grows low ta tb =
        let grows = last_grows out a.dropped high both (rising tb a.dropped ta.fallen) in (omega arith, omega arith)

    -- what is told since an epoch from which on nothing fell out is all that both tell
    pub diffs-followed : (low since : ℕ) → IsInTurn low mid a → IsInTurn mid high b → (followed a b).dropped ≤ since
        → diffs_after since (followed a b).writes ≡ diffs_after since a.writes ++ diffs_after since b.writes
    diffs-followed low since ta tb known =
        diffs-fallen out a.dropped high since both (rising tb a.dropped ta.fallen) (omega arith) ∙ diffs-append since a.writes b.writes

  pub later_in_turn : (low high next : ℕ) (last : LastWrites K V) → high ≤ next → IsInTurn low high last → IsInTurn low next last
  later_in_turn low high next last more t = record {
    above = rise-later low high next last.writes more t.above;
    fallen = rise-later last.dropped high next last.writes more t.fallen;
    full = t.full;
  }

  pub one_in_turn : (high : ℕ) (w : Write K V) → w.epoch ≡ suc high → IsInTurn high (suc high) (one_write w)
  one_in_turn high w is = record { above = (omega arith, omega arith); fallen = (omega arith, omega arith); full = λ none. absurd (omega arith) }

  pub none_in_turn : (high : ℕ) → let none : LastWrites K V = no_writes in IsInTurn high high none
  none_in_turn high = record { above = omega arith; fallen = omega arith; full = λ none. absurd (omega arith) }

  pub turned_later : (levels : List (Level K V)) (ring : LastWrites K V) (high next : ℕ) → high ≤ next → AreInTurn levels ring high → AreInTurn levels ring next
  turned_later [] ring high next more t = later_in_turn 0 high next ring more t
  turned_later (level ∷ around) ring high next more t = (t.0, later_in_turn t.0 high next level.last more t.1, t.2)

  pub note_last : (cmp : K → K → Ordering) (key : K) (v : V) (level : Level K V) → (noted cmp key v level).last ≡ level.last
  note_last cmp key v level =
      elim (is_some (value_before cmp level key)) as (λ b. (cond b level (record level { before = insert_entry cmp level.before key v })).last ≡ level.last) [ true ↦ refl | false ↦ refl ]

  pub turned_noted : (cmp : K → K → Ordering) (key : K) (v : V) (levels : List (Level K V)) (ring : LastWrites K V) (high : ℕ) → AreInTurn levels ring high → AreInTurn (map (noted cmp key v) levels) ring high
  turned_noted cmp key v [] ring high t = t
  turned_noted cmp key v (level ∷ around) ring high t =
      (t.0, subst (IsInTurn t.0 high) (sym (note_last cmp key v level)) t.1, turned_noted cmp key v around ring t.0 t.2)

  pub turned_joined : (w : Write K V) (levels : List (Level K V)) (ring : LastWrites K V) (high : ℕ) → w.epoch ≡ suc high → AreInTurn levels ring high
      → AreInTurn (joined w levels ring).levels (joined w levels ring).ring (suc high)
  turned_joined w [] ring high is t = followed_in_turn ring (one_write w) high (suc high) 0 t (one_in_turn high w is)
  turned_joined w (level ∷ around) ring high is t = (t.0, followed_in_turn level.last (one_write w) high (suc high) t.0 t.1 (one_in_turn high w is), t.2)

  pub turned_committed : (levels : List (Level K V)) (ring : LastWrites K V) (high : ℕ) → AreInTurn levels ring high
      → AreInTurn (committed levels ring).levels (committed levels ring).ring high
  turned_committed [] ring high t = t
  turned_committed (level ∷ []) ring high t = followed_in_turn ring level.last t.0 high 0 t.2 t.1
  turned_committed (level ∷ outer ∷ around) ring high t = (t.2.0, followed_in_turn outer.last level.last t.0 high t.2.0 t.2.1 t.1, t.2.2)

  pub turned_opened : (levels : List (Level K V)) (ring : LastWrites K V) (high : ℕ) → AreInTurn levels ring high → AreInTurn (unwritten ∷ levels) ring high
  turned_opened levels ring high t = (high, none_in_turn high, t)

  pub turned_aborted : (level : Level K V) (levels : List (Level K V)) (ring : LastWrites K V) (high next : ℕ) → high ≤ next → AreInTurn (level ∷ levels) ring high → AreInTurn levels ring next
  turned_aborted level levels ring high next more t =
      let low = rise-bound t.0 high level.last.writes t.1.above in turned_later levels ring t.0 next (omega arith) t.2
