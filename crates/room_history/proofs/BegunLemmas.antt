-- What the history with which a room begins from a saved one makes of each id.
use Rattle.std.proofs.Common.{◌≡◌, ℕ, zero, suc, nat_abs, nat_le, ◌==◌, pos, ◌≤ℤ◌, ◌<ℤ◌, Bool, true, false, cond, List, [], ◌∷◌, fold, Option, Some, None, option_and_then, refl, sym, ap, ◌∙◌, arith}
use Rattle.std.specs.Option.{option_map_or}
use Rattle.std.proofs.lemmas.Int.{ints}
use Rattle.std.proofs.lemmas.Bool.Decides.{nat_tests}
use Rattle.rooms_val.specs.Data.{Data}
use Rattle.rooms_val.specs.Maps.{value_at, with_key, ties}
use Rattle.rooms_val.specs.View.{data_of}
use Rattle.rooms_val.proofs.MapsLemmas.{at-with_key, ties_same}
use Rattle.field_ops.specs.RecordOps.{RecordOpTree, RecordOps, put, remove}
use Rattle.field_ops.specs.Laws.{raw_after}
use Rattle.doc_model.proofs.MergeLemmas.{at-fold_raw}
use Rattle.room_model.proofs.BegunLemmas.{rising-diff}
use Rattle.room_model.specs.Histories.{records_of}
use Rattle.room_model.specs.Saves.{own_id, with_record, with_tomb, diff_at, begun_to}
use Rattle.room_model.specs.declared.saved.SavedRecord.{SavedRecord}
use Rattle.room_model.specs.declared.saved.SavedRoom.{SavedRoom}
use Rattle.room_model.specs.declared.saved.SavedTomb.{SavedTomb}

-- a saved record says an id
abbrev pub says : List ℕ → SavedRecord → Bool
says q saved = option_map_or (λ id. ties q id) (own_id saved) false

-- the first saved record that says an id, and the first tombstone of one
abbrev pub record_at : List SavedRecord → List ℕ → Option SavedRecord
record_at [] q = None
record_at (r ∷ rs) q = cond (says q r) (Some r) (record_at rs q)

abbrev pub tomb_at : List SavedTomb → List ℕ → Option SavedTomb
tomb_at [] q = None
tomb_at (t ∷ ts) q = cond (ties q t.id) (Some t) (tomb_at ts q)

-- no id stands twice
abbrev pub AreApart : List SavedRecord → Type 0
AreApart [] = Unit {0}
AreApart (r ∷ rs) = ((id : List ℕ) → own_id r ≡ Some id → record_at rs id ≡ None) × AreApart rs

abbrev pub AreTombsApart : List SavedTomb → Type 0
AreTombsApart [] = Unit {0}
AreTombsApart (t ∷ ts) = (tomb_at ts t.id ≡ None) × AreTombsApart ts

-- a record that says an id is the only one
pub says_none : (r : SavedRecord) (rs : List SavedRecord) (q : List ℕ) → AreApart (r ∷ rs) → says q r ≡ true → record_at rs q ≡ None
says_none r rs q apart is =
    elim (own_id r) as (λ o. own_id r ≡ o → option_map_or (λ id. ties q id) o false ≡ true → record_at rs q ≡ None) [
      | None ↦ λ own no. absurd (cc)
      | Some id ↦ λ own tie. ap (record_at rs) (ties_same q id tie) ∙ apart.0 id own
    ] refl is

module _ (n : ℕ) where
  -- the put of a record of the clock, or what stood there otherwise
  abbrev pub put_by : Option SavedRecord → Option RecordOpTree → Option RecordOpTree
  put_by o other = option_map_or (λ r. cond (nat_abs r.clock == n) (Some (put (data_of r.record))) other) o other

  abbrev pub removed_by : Option SavedTomb → Option RecordOpTree → Option RecordOpTree
  removed_by o other = option_map_or (λ t. cond (nat_abs t.clock == n) (Some remove) other) o other

  at-with_record : (es : RecordOps) (r : SavedRecord) (q : List ℕ) → value_at (with_record n es r) q ≡ cond (says q r) (put_by (Some r) (value_at es q)) (value_at es q)
  at-with_record es r q =
      let p = put (data_of r.record) in
      elim (own_id r) as (λ o. value_at (cond (nat_abs r.clock == n) (option_map_or (λ id. with_key es id p) o es) es) q ≡ cond (option_map_or (λ id. ties q id) o false) (put_by (Some r) (value_at es q)) (value_at es q)) [
        | None ↦ elim (nat_abs r.clock == n) as (λ b. value_at (cond b es es) q ≡ value_at es q) [ true ↦ refl | false ↦ refl ]
        | Some id ↦ elim (nat_abs r.clock == n) as (λ b. value_at (cond b (with_key es id p) es) q ≡ cond (ties q id) (cond b (Some p) (value_at es q)) (value_at es q)) [
          | true ↦ at-with_key es id q p
          | false ↦ elim (ties q id) as (λ t. value_at es q ≡ cond t (value_at es q) (value_at es q)) [ true ↦ refl | false ↦ refl ]
        ]
      ]

  at-records : (rs : List SavedRecord) (es : RecordOps) (q : List ℕ) → AreApart rs → value_at (fold (with_record n) es rs) q ≡ put_by (record_at rs q) (value_at es q)
  at-records [] es q apart = refl
  at-records (r ∷ rs) es q apart =
      at-records rs (with_record n es r) q apart.1
      ∙ ap (put_by (record_at rs q)) (at-with_record es r q)
      ∙ elim (says q r) as (λ t. says q r ≡ t → put_by (record_at rs q) (cond t (put_by (Some r) (value_at es q)) (value_at es q)) ≡ put_by (cond t (Some r) (record_at rs q)) (value_at es q)) [
        | true ↦ λ is. ap (λ o. put_by o (put_by (Some r) (value_at es q))) (says_none r rs q apart is)
        | false ↦ λ is. refl
      ] refl

  at-with_tomb : (es : RecordOps) (t : SavedTomb) (q : List ℕ) → value_at (with_tomb n es t) q ≡ cond (ties q t.id) (removed_by (Some t) (value_at es q)) (value_at es q)
  at-with_tomb es t q =
      elim (nat_abs t.clock == n) as (λ b. value_at (cond b (with_key es t.id remove) es) q ≡ cond (ties q t.id) (cond b (Some remove) (value_at es q)) (value_at es q)) [
        | true ↦ at-with_key es t.id q remove
        | false ↦ elim (ties q t.id) as (λ b. value_at es q ≡ cond b (value_at es q) (value_at es q)) [ true ↦ refl | false ↦ refl ]
      ]

  at-tombs : (ts : List SavedTomb) (es : RecordOps) (q : List ℕ) → AreTombsApart ts → value_at (fold (with_tomb n) es ts) q ≡ removed_by (tomb_at ts q) (value_at es q)
  at-tombs [] es q apart = refl
  at-tombs (t ∷ ts) es q apart =
      at-tombs ts (with_tomb n es t) q apart.1
      ∙ ap (removed_by (tomb_at ts q)) (at-with_tomb es t q)
      ∙ elim (ties q t.id) as (λ b. ties q t.id ≡ b → removed_by (tomb_at ts q) (cond b (removed_by (Some t) (value_at es q)) (value_at es q)) ≡ removed_by (cond b (Some t) (tomb_at ts q)) (value_at es q)) [
        | true ↦ λ is. ap (λ o. removed_by o (removed_by (Some t) (value_at es q))) (ap (tomb_at ts) (ties_same q t.id is) ∙ apart.0)
        | false ↦ λ is. refl
      ] refl

-- what a saved room has, with which its history begins
pub record Fits (saved : SavedRoom) : Type 0 where
  pub start_low : pos 0 ≤ℤ saved.start
  pub start_high : saved.start ≤ℤ saved.clock
  pub records_apart : AreApart saved.documents.items
  pub tombs_apart : AreTombsApart saved.tombstones.items
  pub both_apart : (q : List ℕ) (t : SavedTomb) → tomb_at saved.tombstones.items q ≡ Some t → record_at saved.documents.items q ≡ None
  pub record_clocks : (q : List ℕ) (r : SavedRecord) → record_at saved.documents.items q ≡ Some r → (pos 1 ≤ℤ r.clock) × (r.clock ≤ℤ saved.clock)
  pub tomb_clocks : (q : List ℕ) (t : SavedTomb) → tomb_at saved.tombstones.items q ≡ Some t → (saved.start <ℤ t.clock) × (t.clock ≤ℤ saved.clock)

module _ (saved : SavedRoom) (fits : Fits saved) where
  abbrev D : List SavedRecord
  D = saved.documents.items

  abbrev T : List SavedTomb
  T = saved.tombstones.items

  pub at-diff : (n : ℕ) (q : List ℕ) → value_at (diff_at saved n) q ≡ removed_by n (tomb_at saved.tombstones.items q) (put_by n (record_at saved.documents.items q) None)
  at-diff n q = at-tombs n T _ q fits.tombs_apart ∙ ap (removed_by n (tomb_at T q)) (at-records n D [] q fits.records_apart)

  -- the record of an id that stands at a clock
  abbrev pub standing : ℕ → Option SavedRecord → Option Data
  standing n o = option_and_then (λ (r : SavedRecord). cond (nat_le (nat_abs r.clock) n) (Some (data_of r.record)) None) o

  none_yet : (q : List ℕ) → standing zero (record_at saved.documents.items q) ≡ None
  none_yet q =
      elim (record_at D q) as (λ o. record_at D q ≡ o → standing zero o ≡ None) [
        | None ↦ λ is. refl
        | Some r ↦ λ is.
            let from = (fits.record_clocks q r is).0 in
            let late : nat_le (nat_abs r.clock) 0 ≡ false = grind (arith, ints, nat_tests) in
            ap (λ b. cond b (Some (data_of r.record)) None) late
      ] refl

  pub at-begun : (n : ℕ) (q : List ℕ) → value_at (records_of (begun_to saved n)) q ≡ standing n (record_at saved.documents.items q)
  at-begun zero q = sym (none_yet q)
  at-begun (suc n) q =
      let ih = at-begun n q in
      at-fold_raw (diff_at saved (suc n)) (records_of (begun_to saved n)) q (rising-diff saved (suc n))
      ∙ (λ i. raw_after (at-diff (suc n) q i) (ih i))
      ∙ elim (tomb_at T q) as (λ t. tomb_at T q ≡ t → raw_after (removed_by (suc n) t (put_by (suc n) (record_at D q) None)) (standing n (record_at D q)) ≡ standing (suc n) (record_at D q)) [
        | Some t ↦ λ is.
            ap (λ o. raw_after (removed_by (suc n) (Some t) (put_by (suc n) o None)) (standing n o)) (fits.both_apart q t is)
            ∙ elim (nat_abs t.clock == suc n) as (λ b. raw_after (cond b (Some remove) None) None ≡ None) [ true ↦ refl | false ↦ refl ]
            ∙ ap (standing (suc n)) (sym (fits.both_apart q t is))
        | None ↦ λ is.
            elim (record_at D q) as (λ o. raw_after (put_by (suc n) o None) (standing n o) ≡ standing (suc n) o) [
              | None ↦ refl
              | Some r ↦ next r
            ]
      ] refl
    where
      next : (r : SavedRecord) → raw_after (put_by (suc n) (Some r) None) (standing n (Some r)) ≡ standing (suc n) (Some r)
      next r =
          elim (nat_abs r.clock == suc n) as (λ b. nat_abs r.clock == suc n ≡ b → raw_after (cond b (Some (put (data_of r.record))) None) (standing n (Some r)) ≡ standing (suc n) (Some r)) [
            | true ↦ λ is. let here : nat_le (nat_abs r.clock) (suc n) ≡ true = grind (arith, nat_tests) in ap (λ b. cond b (Some (data_of r.record)) None) (sym here)
            | false ↦ λ is. let same : nat_le (nat_abs r.clock) n ≡ nat_le (nat_abs r.clock) (suc n) = grind (arith, nat_tests) in ap (λ b. cond b (Some (data_of r.record)) None) same
          ] refl
