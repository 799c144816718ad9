-- What a saved room has if nothing keeps a room from beginning from it.
use Rattle.std.proofs.Common.{◌≡◌, ℕ, ◌≤◌, nat_lt, int_lt, ℤ, pos, ◌<ℤ◌, Bool, true, false, ◌&&◌, ◌||◌, not, cond, List, [], ◌∷◌, length, map, filter_map, Option, Some, None, is_some, is_eq, refl, sym, ap, subst, ◌∙◌, arith}
use Rattle.std.specs.Prelude.{int_le, sum, codes}
use Rattle.std.specs.List.{list_all, cons_option}
use Rattle.std.specs.Option.{option_map_or, option_or}
use Rattle.std.proofs.lemmas.Int.{ints}
use Rattle.std.proofs.lemmas.Bool.Decides.{nat_tests}
use Rattle.rooms_val.proofs.Truths.{and_left, and_right, unnot_true}
use Rattle.rooms_val.specs.Maps.{ties}
use Rattle.rooms_val.specs.View.{data_of}
use Rattle.rooms_val.specs.Weight.{weight}
use Rattle.rooms_val.proofs.MapsLemmas.{ties_same, ties_flip, order_itself}
use Rattle.room_model.specs.Schemas.{Schemas}
use Rattle.room_model.specs.Saves.{own_id, are_clocks, is_among, is_too_large, is_admitted_as, unfit_record, unfit_tomb, unfit, load_fault}
use Rattle.room_model.specs.declared.limits.TheConstants.{MOST_RECORDS, MOST_WEIGHT, MOST_DEAD}
use Rattle.room_model.specs.declared.load_fault.LoadFault.{LoadFault}
use Rattle.room_model.specs.declared.load_fault.LoadFault.TheVariants.{Clocks, BadRecord, TooLarge}
use Rattle.room_model.specs.declared.saved.SavedRecord.{SavedRecord}
use Rattle.room_model.specs.declared.saved.SavedRoom.{SavedRoom}
use Rattle.room_model.specs.declared.saved.SavedTomb.{SavedTomb}
use Rattle.room_history.proofs.BegunLemmas.{Fits, says, record_at, tomb_at, AreApart, AreTombsApart}

-- what passes a test of all records, or of all tombstones
record_passes : (test : SavedRecord → Bool) (rs : List SavedRecord) (q : List ℕ) (r : SavedRecord) → list_all test rs ≡ true → record_at rs q ≡ Some r → test r ≡ true
record_passes test [] q r all is = let no = ap is_some is in absurd (cc)
record_passes test (x ∷ rs) q r all is =
    elim (says q x) as (λ b. cond b (Some x) (record_at rs q) ≡ Some r → test r ≡ true) [
      | true ↦ λ h. subst (λ y. test y ≡ true) (some_is x r h) (and_left (test x) _ all)
      | false ↦ λ h. record_passes test rs q r (and_right (test x) _ all) h
    ] is
  where
    some_is : (x y : SavedRecord) → ◌≡◌ {A = Option SavedRecord} (Some x) (Some y) → x ≡ y
    some_is x y e = ap (λ o. option_map_or (λ z. z) o x) e

tomb_passes : (test : SavedTomb → Bool) (ts : List SavedTomb) (q : List ℕ) (t : SavedTomb) → list_all test ts ≡ true → tomb_at ts q ≡ Some t → test t ≡ true
tomb_passes test [] q t all is = let no = ap is_some is in absurd (cc)
tomb_passes test (x ∷ ts) q t all is =
    elim (ties q x.id) as (λ b. cond b (Some x) (tomb_at ts q) ≡ Some t → test t ≡ true) [
      | true ↦ λ h. subst (λ y. test y ≡ true) (some_is x t h) (and_left (test x) _ all)
      | false ↦ λ h. tomb_passes test ts q t (and_right (test x) _ all) h
    ] is
  where
    some_is : (x y : SavedTomb) → ◌≡◌ {A = Option SavedTomb} (Some x) (Some y) → x ≡ y
    some_is x y e = ap (λ o. option_map_or (λ z. z) o x) e

among_itself : (id : List ℕ) (ids : List (List ℕ)) → is_among (id ∷ ids) id ≡ true
among_itself id ids = ap (λ o. is_eq o || is_among ids id) (order_itself id)

among_more : (id q : List ℕ) (ids : List (List ℕ)) → is_among ids q ≡ true → is_among (id ∷ ids) q ≡ true
among_more id q ids is = ap (λ b. ties id q || b) is ∙ or_true (ties id q)
  where
    or_true : (b : Bool) → b || true ≡ true
    or_true true = refl
    or_true false = refl

module _ (s : Schemas) where
  -- each record is admitted under the id that it says, which isn't among earlier ones
  abbrev pub AreGood : List (List ℕ) → List SavedRecord → Type 0
  AreGood earlier [] = Unit {0}
  AreGood earlier (r ∷ rs) = (id : List ℕ) × (own_id r ≡ Some id) × (is_admitted_as s r id ≡ true) × (is_among earlier id ≡ false) × AreGood (id ∷ earlier) rs

  good : (earlier : List (List ℕ)) (rs : List SavedRecord) → unfit_record s earlier rs ≡ None → AreGood earlier rs
  good earlier [] none = tt
  good earlier (r ∷ rs) none =
      elim (own_id r) as (λ o. own_id r ≡ o → option_map_or (λ id. cond (is_admitted_as s r id && not (is_among earlier id)) (unfit_record s (id ∷ earlier) rs) (Some id)) o (Some (codes "-")) ≡ None → AreGood earlier (r ∷ rs)) [
        | None ↦ λ own no. let never = ap is_some no in absurd (cc)
        | Some id ↦ λ own h.
            (elim (is_admitted_as s r id && not (is_among earlier id)) as (λ b. is_admitted_as s r id && not (is_among earlier id) ≡ b → cond b (unfit_record s (id ∷ earlier) rs) (Some id) ≡ None → AreGood earlier (r ∷ rs)) [
              | true ↦ λ is rest. (id, own, and_left _ _ is, unnot_true _ (and_right (is_admitted_as s r id) _ is), good (id ∷ earlier) rs rest)
              | false ↦ λ is no. let never = ap is_some no in absurd (cc)
            ] refl h)
      ] refl none

  -- an earlier id isn't said again
  not_again : (earlier : List (List ℕ)) (rs : List SavedRecord) (q : List ℕ) → AreGood earlier rs → is_among earlier q ≡ true → record_at rs q ≡ None
  not_again earlier [] q are among = refl
  not_again earlier (r ∷ rs) q are among =
      let id = are.0 in
      ap (λ o. cond (option_map_or (λ k. ties q k) o false) (Some r) (record_at rs q)) are.1
      ∙ elim (ties q id) as (λ b. ties q id ≡ b → cond b (Some r) (record_at rs q) ≡ None) [
        | true ↦ λ same. let never : false ≡ true = sym are.3 ∙ ap (is_among earlier) (sym (ties_same q id same)) ∙ among in absurd (cc)
        | false ↦ λ other. not_again (id ∷ earlier) rs q are.4 (among_more id q earlier among)
      ] refl

  apart : (earlier : List (List ℕ)) (rs : List SavedRecord) → AreGood earlier rs → AreApart rs
  apart earlier [] are = tt
  apart earlier (r ∷ rs) are =
      ((λ id own. subst (λ k. record_at rs k ≡ None) (some_is are.0 id (sym are.1 ∙ own)) (not_again (are.0 ∷ earlier) rs are.0 are.4 (among_itself are.0 earlier))), apart (are.0 ∷ earlier) rs are.4)
    where
      some_is : (x y : List ℕ) → ◌≡◌ {A = Option (List ℕ)} (Some x) (Some y) → x ≡ y
      some_is x y e = ap (λ o. option_map_or (λ z. z) o x) e

  pub admitted_at : (earlier : List (List ℕ)) (rs : List SavedRecord) → AreGood earlier rs → (q : List ℕ) (r : SavedRecord) → record_at rs q ≡ Some r → is_admitted_as s r q ≡ true
  admitted_at earlier [] are q r is = let no = ap is_some is in absurd (cc)
  admitted_at earlier (x ∷ rs) are q r is =
      elim (ties q are.0) as (λ b. ties q are.0 ≡ b → cond b (Some x) (record_at rs q) ≡ Some r → is_admitted_as s r q ≡ true) [
        | true ↦ λ same h. subst (λ k. is_admitted_as s r k ≡ true) (sym (ties_same q are.0 same)) (subst (λ y. is_admitted_as s y are.0 ≡ true) (some_is x r h) are.2)
        | false ↦ λ other h. admitted_at (are.0 ∷ earlier) rs are.4 q r h
      ] refl (sym (ap (λ o. cond (option_map_or (λ k. ties q k) o false) (Some x) (record_at rs q)) are.1) ∙ is)
    where
      some_is : (x y : SavedRecord) → ◌≡◌ {A = Option SavedRecord} (Some x) (Some y) → x ≡ y
      some_is x y e = ap (λ o. option_map_or (λ z. z) o x) e

  abbrev AreGoodTombs : List (List ℕ) → List SavedTomb → Type 0
  AreGoodTombs earlier [] = Unit {0}
  AreGoodTombs earlier (t ∷ ts) = (is_among earlier t.id ≡ false) × AreGoodTombs (t.id ∷ earlier) ts

  good_tombs : (earlier : List (List ℕ)) (ts : List SavedTomb) → unfit_tomb s earlier ts ≡ None → AreGoodTombs earlier ts
  good_tombs earlier [] none = tt
  good_tombs earlier (t ∷ ts) none =
      elim (s.is_document t.id && not (is_among earlier t.id)) as (λ b. s.is_document t.id && not (is_among earlier t.id) ≡ b → cond b (unfit_tomb s (t.id ∷ earlier) ts) (Some t.id) ≡ None → AreGoodTombs earlier (t ∷ ts)) [
        | true ↦ λ is rest. (unnot_true _ (and_right (s.is_document t.id) _ is), good_tombs (t.id ∷ earlier) ts rest)
        | false ↦ λ is no. let never = ap is_some no in absurd (cc)
      ] refl none

  tomb_not_again : (earlier : List (List ℕ)) (ts : List SavedTomb) (q : List ℕ) → AreGoodTombs earlier ts → is_among earlier q ≡ true → tomb_at ts q ≡ None
  tomb_not_again earlier [] q are among = refl
  tomb_not_again earlier (t ∷ ts) q are among =
      elim (ties q t.id) as (λ b. ties q t.id ≡ b → cond b (Some t) (tomb_at ts q) ≡ None) [
        | true ↦ λ same. let never : false ≡ true = sym are.0 ∙ ap (is_among earlier) (sym (ties_same q t.id same)) ∙ among in absurd (cc)
        | false ↦ λ other. tomb_not_again (t.id ∷ earlier) ts q are.1 (among_more t.id q earlier among)
      ] refl

  tombs_apart : (earlier : List (List ℕ)) (ts : List SavedTomb) → AreGoodTombs earlier ts → AreTombsApart ts
  tombs_apart earlier [] are = tt
  tombs_apart earlier (t ∷ ts) are = (tomb_not_again (t.id ∷ earlier) ts t.id are.1 (among_itself t.id earlier), tombs_apart (t.id ∷ earlier) ts are.1)

  -- a record's id is among those that records say
  said : (rs : List SavedRecord) (q : List ℕ) (r : SavedRecord) → record_at rs q ≡ Some r → is_among (filter_map own_id rs) q ≡ true
  said [] q r is = let no = ap is_some is in absurd (cc)
  said (x ∷ rs) q r is =
      elim (own_id x) as (λ o. own_id x ≡ o → cond (option_map_or (λ k. ties q k) o false) (Some x) (record_at rs q) ≡ Some r → is_among (filter_map own_id (x ∷ rs)) q ≡ true) [
        | None ↦ λ own h. ap (λ l. is_among l q) (skipped own) ∙ said rs q r h
        | Some id ↦ λ own h.
            ap (λ l. is_among l q) (taken id own)
            ∙ elim (ties q id) as (λ b. ties q id ≡ b → cond b (Some x) (record_at rs q) ≡ Some r → is_among (id ∷ filter_map own_id rs) q ≡ true) [
              | true ↦ λ same k. ap (λ b. b || is_among (filter_map own_id rs) q) (ties_flip id q ∙ same)
              | false ↦ λ other k. among_more id q (filter_map own_id rs) (said rs q r k)
            ] refl h
      ] refl is
    where
      skipped : own_id x ≡ None → filter_map own_id (x ∷ rs) ≡ filter_map own_id rs
      skipped own = ap (λ o. cons_option o (filter_map own_id rs)) own

      taken : (id : List ℕ) → own_id x ≡ Some id → filter_map own_id (x ∷ rs) ≡ id ∷ filter_map own_id rs
      taken id own = ap (λ o. cons_option o (filter_map own_id rs)) own

-- what there is if nothing keeps a room from beginning
pub record Stands (s : Schemas) (last : ℤ) (saved : SavedRoom) : Type 0 where
  pub clocks : are_clocks last saved ≡ true
  pub records : unfit_record s [] saved.documents.items ≡ None
  pub tombs : unfit_tomb s (filter_map own_id saved.documents.items) saved.tombstones.items ≡ None
  pub size : is_too_large saved ≡ false

module _ (s : Schemas) (last : ℤ) (saved : SavedRoom) where
  abbrev earlier : List (List ℕ)
  earlier = filter_map own_id saved.documents.items

  abbrev large : Option LoadFault
  large = cond (is_too_large saved) (Some TooLarge) None

  abbrev rest : Option LoadFault
  rest = option_map_or (λ id. Some (BadRecord id)) (unfit s saved) large

  pub stands : load_fault s last saved ≡ None → Stands s last saved
  stands none =
      elim (are_clocks last saved) as (λ b. are_clocks last saved ≡ b → cond (not b) (Some Clocks) rest ≡ None → Stands s last saved) [
        | false ↦ λ clocks no. let never = ap is_some no in absurd (cc)
        | true ↦ λ clocks h.
            (elim (unfit_record s [] saved.documents.items) as (λ o. unfit_record s [] saved.documents.items ≡ o → option_map_or (λ id. Some (BadRecord id)) (option_or o (unfit_tomb s earlier saved.tombstones.items)) large ≡ None → Stands s last saved) [
              | Some id ↦ λ records no. let never = ap is_some no in absurd (cc)
              | None ↦ λ records k.
                  (elim (unfit_tomb s earlier saved.tombstones.items) as (λ o. unfit_tomb s earlier saved.tombstones.items ≡ o → option_map_or (λ id. Some (BadRecord id)) o large ≡ None → Stands s last saved) [
                    | Some id ↦ λ tombs no. let never = ap is_some no in absurd (cc)
                    | None ↦ λ tombs m.
                        (elim (is_too_large saved) as (λ b. is_too_large saved ≡ b → cond b (Some TooLarge) None ≡ None → Stands s last saved) [
                          | true ↦ λ size no. let never = ap is_some no in absurd (cc)
                          | false ↦ λ size fine. record { clocks = clocks; records = records; tombs = tombs; size = size }
                        ] refl m)
                  ] refl k)
            ] refl h)
      ] refl none

module _ (s : Schemas) (last : ℤ) (saved : SavedRoom) (are : Stands s last saved) where
  abbrev D : List SavedRecord
  D = saved.documents.items

  abbrev T : List SavedTomb
  T = saved.tombstones.items

  abbrev A : Bool
  A = int_le (pos 0) saved.start

  abbrev B : Bool
  B = int_le saved.start saved.clock

  abbrev C : Bool
  C = int_lt saved.clock last

  abbrev E : Bool
  E = list_all (λ r. int_le (pos 1) r.clock && int_le r.clock saved.clock) saved.documents.items

  abbrev F : Bool
  F = list_all (λ t. int_lt saved.start t.clock && int_le t.clock saved.clock) saved.tombstones.items

  five : (a b c e f : Bool) → a && b && c && e && f ≡ true → (a ≡ true) × (b ≡ true) × (c ≡ true) × (e ≡ true) × (f ≡ true)
  five true true true true true is = (refl, refl, refl, refl, refl)
  five true true true true false is = absurd (cc)
  five true true true false f is = absurd (cc)
  five true true false e f is = absurd (cc)
  five true false c e f is = absurd (cc)
  five false b c e f is = absurd (cc)

  pub all_good : AreGood s [] saved.documents.items
  all_good = good s [] D are.records

  pub below : saved.clock <ℤ last
  below = let c = (five A B C E F are.clocks).2 in grind (arith, ints)

  pub records_clocked : list_all (λ r. int_le (pos 1) r.clock && int_le r.clock saved.clock) saved.documents.items ≡ true
  records_clocked = (five A B C E F are.clocks).3

  pub tombs_clocked : list_all (λ t. int_lt saved.start t.clock && int_le t.clock saved.clock) saved.tombstones.items ≡ true
  tombs_clocked = (five A B C E F are.clocks).4

  pub fit : Fits saved
  fit =
      let tombs = good_tombs s (filter_map own_id D) T are.tombs in
      record {
        start_low = let a = (five A B C E F are.clocks).0 in grind (arith, ints);
        start_high = let b = (five A B C E F are.clocks).1 in grind (arith, ints);
        records_apart = apart s [] D all_good;
        tombs_apart = tombs_apart s (filter_map own_id D) T tombs;
        both_apart = λ q t at.
            elim (record_at D q) as (λ o. record_at D q ≡ o → o ≡ None) [
              | None ↦ λ is. refl
              | Some r ↦ λ is. let never = ap is_some (sym at ∙ tomb_not_again s (filter_map own_id D) T q tombs (said s D q r is)) in absurd (cc)
            ] refl;
        record_clocks = λ q r at.
            let is = record_passes (λ r. int_le (pos 1) r.clock && int_le r.clock saved.clock) D q r records_clocked at in
            let low = and_left (int_le (pos 1) r.clock) _ is in
            let high = and_right (int_le (pos 1) r.clock) _ is in
            (grind (arith, ints), grind (arith, ints));
        tomb_clocks = λ q t at.
            let is = tomb_passes (λ t. int_lt saved.start t.clock && int_le t.clock saved.clock) T q t tombs_clocked at in
            let low = and_left (int_lt saved.start t.clock) _ is in
            let high = and_right (int_lt saved.start t.clock) _ is in
            (grind (arith, ints), grind (arith, ints));
      }

  pub few_tombs : length saved.tombstones.items ≤ MOST_DEAD
  few_tombs =
      let is : nat_lt MOST_DEAD (length T) ≡ false =
      last_of (nat_lt MOST_RECORDS (length D)) (nat_lt MOST_WEIGHT (sum (map (λ r. weight (data_of r.record)) D))) (nat_lt MOST_DEAD (length T)) are.size in
      grind (arith, nat_tests)
    where
      last_of : (a b c : Bool) → a || b || c ≡ false → c ≡ false
      last_of true b c is = absurd (cc)
      last_of false true c is = absurd (cc)
      last_of false false c is = is
