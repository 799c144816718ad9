-- Something is saved of each room that calls make, and nothing keeps a room from beginning from it.
use Rattle.std.proofs.Common.{◌≡◌, ℕ, suc, ◌^◌, ◌≤◌, ◌<◌, nat_le, nat_lt, int_lt, ℤ, pos, Bool, true, false, ◌&&◌, ◌||◌, cond, not, List, [], ◌∷◌, length, map, sum, filter, filter_map, codes, Option, Some, None, option_and_then, is_some, is_eq, refl, sym, ap, subst, ◌∙◌, arith}
use Rattle.std.specs.Prelude.{int_le}
use Rattle.std.specs.Global.{Vec, Global}
use Rattle.std.specs.List.{list_all, cons_option}
use Rattle.std.specs.Option.{option_map_or, option_or}
use Rattle.std.specs.Ptr.{null_ptr}
use Rattle.std.proofs.lemmas.Int.{ints}
use Rattle.std.proofs.lemmas.Bool.Decides.{nat_tests}
use Rattle.std.proofs.lemmas.List.{length-map}
use Rattle.rooms_val.specs.Data.{Data, null, boolean, whole, text, list, map as map_of, Pairs}
use Rattle.rooms_val.specs.Kinds.{field, as_text}
use Rattle.rooms_val.specs.Maps.{value_at, ties, keys_of, AreRising}
use Rattle.rooms_val.specs.View.{data_of, val_of}
use Rattle.rooms_val.specs.Weight.{weight}
use Rattle.rooms_val.proofs.DataLemmas.{members_of-pairs_of}
use Rattle.rooms_val.proofs.MapsLemmas.{ties_flip, none_later, rising_rest, order_itself}
use Rattle.schema_core.specs.Admits.{is_document}
use Rattle.schema_core.specs.Tree.{SchemaTree}
use Rattle.schema_core.proofs.AdmitsLemmas.{law}
use Rattle.room_schemas.specs.Decided.{decided}
use Rattle.room_model.specs.Histories.{History, records_of, last_clock, start_of, dead}
use Rattle.room_model.specs.Reachable.{Reachable}
use Rattle.room_model.specs.Rooms.{Room}
use Rattle.room_model.specs.Saves.{own_id, are_clocks, is_among, is_too_large, is_admitted_as, unfit_record, unfit_tomb, load_fault}
use Rattle.room_model.specs.Schemas.{Schemas, AreLawful, records_with}
use Rattle.room_model.specs.declared.limits.TheConstants.{MOST_RECORDS, MOST_WEIGHT, MOST_DEAD}
use Rattle.room_model.specs.declared.load_fault.LoadFault.TheVariants.{Clocks, BadRecord, TooLarge}
use Rattle.room_model.specs.declared.saved.SavedRecord.{SavedRecord}
use Rattle.room_model.specs.declared.saved.SavedRoom.{SavedRoom}
use Rattle.room_model.specs.declared.saved.SavedTomb.{SavedTomb}
use Rattle.rooms_val.proofs.Truths.{and_left, and_right, and_true}
use Rattle.room_model.proofs.BaseLemmas.{rising-records}
use Rattle.room_model.proofs.HistoryLemmas.{Each, each-imp, at_most-filter, few_dead, start_within}
use Rattle.room_model.proofs.LookUpLemmas.{at-filter, rising-filter, unnamed}
use Rattle.room_history.specs.Saving.{IsSavedOf, with_own_id, clocks_of}
use Rattle.room_history.proofs.CheckLemmas.{among-keys}
use Rattle.saved_laws.proofs.KeptLemmas.{IsSound, cond_none, sound}
use Rattle.saved_laws.proofs.SavedLemmas.{AreOf, IsDead, none_some, none_ties, records_are, tombs_few, tomb_says, length-are, weight-are, sorted_clocks, rising-sorted, at-sorted, at-tests, length-sorted}
use Rattle.field_ops.proofs.ReadingLemmas.{items_again}

-- a `Val` stands for each value
pub data_again : (d : Data) → data_of (val_of d) ≡ d
data_again null = refl
data_again (boolean b) = refl
data_again (whole z) = refl
data_again (text s) = refl
data_again (list ds) = ap list (items_again ds)
data_again (map_of ms) = ap map_of (members_of-pairs_of ms)

-- each pair of a rising map stands there
each_found : {V : Type 0} (es : List (List ℕ × V)) → AreRising es → Each (λ e. value_at es e.0 ≡ Some e.1) es
each_found [] rising = tt
each_found {V} (e ∷ es) rising =
    let apart = none_ties es e.0 (none_later e es rising) in
    (ap (λ o. cond (is_eq o) (Some e.1) (value_at es e.0)) (order_itself e.0), later es (each_found es (rising_rest e es rising)) apart)
  where
    later : (xs : List (List ℕ × V)) → Each (λ p. value_at es p.0 ≡ Some p.1) xs → Each (λ p. ties e.0 p.0 ≡ false) xs → Each (λ p. value_at (e ∷ es) p.0 ≡ Some p.1) xs
    later [] a b = tt
    later (x ∷ xs) a b = (ap (λ t. cond t (Some e.1) (value_at es x.0)) (ties_flip x.0 e.0 ∙ b.0) ∙ a.0, later xs a.1 b.1)

module _ (schemas : Schemas) (last : List ℕ → ℕ) where
  -- what the records of a document have
  pub record IsGood (clock : ℕ) (id : List ℕ) (d : Data) : Type 0 where
    pub document : schemas.is_document id ≡ true
    pub admitted : schemas.admits id d ≡ true
    pub low : 1 ≤ last id
    pub high : last id ≤ clock

  records_clocked : (clock : ℕ) (rs : List SavedRecord) (ps : Pairs) → AreOf last rs ps → Each (λ p. IsGood clock p.0 p.1) ps
      → list_all (λ r. int_le (pos 1) r.clock && int_le r.clock (pos clock)) rs ≡ true
  records_clocked clock [] ps are good = refl
  records_clocked clock (r ∷ rs) [] are good = absurd are
  records_clocked clock (r ∷ rs) (p ∷ ps) are good =
      let is = are.0.2 in
      let low = good.0.low in
      let high = good.0.high in
      let a : int_le (pos 1) r.clock ≡ true = grind (arith, ints, nat_tests) in
      let b : int_le r.clock (pos clock) ≡ true = grind (arith, ints, nat_tests) in
      and_true _ _ (and_true _ _ a b) (records_clocked clock rs ps are.1 good.1)

  fit_records : (clock : ℕ) (earlier : List (List ℕ)) (rs : List SavedRecord) (ps : Pairs) → AreOf last rs ps → AreRising ps → Each (λ p. IsGood clock p.0 p.1) ps
      → Each (λ p. is_among earlier p.0 ≡ false) ps → unfit_record schemas earlier rs ≡ None
  fit_records clock earlier [] ps are rising good new = refl
  fit_records clock earlier (r ∷ rs) [] are rising good new = absurd are
  fit_records clock earlier (r ∷ rs) (p ∷ ps) are rising good new =
      let admitted : is_admitted_as schemas r p.0 ≡ true = and_true _ _ good.0.document (ap (schemas.admits p.0) are.0.1 ∙ good.0.admitted) in
      let fresh : not (is_among earlier p.0) ≡ true = ap not new.0 in
      ap (λ o. option_map_or (λ id. cond (is_admitted_as schemas r id && not (is_among earlier id)) (unfit_record schemas (id ∷ earlier) rs) (Some id)) o (Some (codes "-"))) are.0.0
      ∙ ap (λ b. cond b (unfit_record schemas (p.0 ∷ earlier) rs) (Some p.0)) (and_true _ _ admitted fresh)
      ∙ fit_records clock (p.0 ∷ earlier) rs ps are.1 (rising_rest p ps rising) good.1 (later ps (none_ties ps p.0 (none_later p ps rising)) new.1)
    where
      later : (xs : Pairs) → Each (λ x. ties p.0 x.0 ≡ false) xs → Each (λ x. is_among earlier x.0 ≡ false) xs → Each (λ x. is_among (p.0 ∷ earlier) x.0 ≡ false) xs
      later [] a b = tt
      later (x ∷ xs) a b = (ap (λ t. t || is_among earlier x.0) a.0 ∙ b.0, later xs a.1 b.1)

  -- the ids that saved records say
  ids_are : (rs : List SavedRecord) (ps : Pairs) → AreOf last rs ps → filter_map own_id rs ≡ keys_of ps
  ids_are [] [] are = refl
  ids_are [] (p ∷ ps) are = absurd are
  ids_are (r ∷ rs) [] are = absurd are
  ids_are (r ∷ rs) (p ∷ ps) are = ap (λ o. cons_option o (filter_map own_id rs)) are.0.0 ∙ ap (λ l. p.0 ∷ l) (ids_are rs ps are.1)

each_new : (ps : Pairs) → Each (λ p. is_among [] p.0 ≡ false) ps
each_new [] = tt
each_new (p ∷ ps) = (refl, each_new ps)

-- what a tombstone of a room has
module _ (schemas : Schemas) (start clock : ℕ) where
  abbrev IsTomb : SavedTomb → Type 0
  IsTomb t = (schemas.is_document t.id ≡ true) × (n : ℕ) × (t.clock ≡ pos n) × (start < n) × (n ≤ clock)

  tombs_clocked : (ts : List SavedTomb) → Each IsTomb ts → list_all (λ t. int_lt (pos start) t.clock && int_le t.clock (pos clock)) ts ≡ true
  tombs_clocked [] each = refl
  tombs_clocked (t ∷ ts) each =
      let is = each.0.2 in
      let low = each.0.3 in
      let high = each.0.4 in
      let a : int_lt (pos start) t.clock ≡ true = grind (arith, ints, nat_tests) in
      let b : int_le t.clock (pos clock) ≡ true = grind (arith, ints, nat_tests) in
      and_true _ _ (and_true _ _ a b) (tombs_clocked ts each.1)

  fit_tombs : (earlier : List (List ℕ)) (ts : List SavedTomb) → AreRising (clocks_of ts) → Each IsTomb ts → Each (λ (t : SavedTomb). is_among earlier t.id ≡ false) ts → unfit_tomb schemas earlier ts ≡ None
  fit_tombs earlier [] rising each new = refl
  fit_tombs earlier (t ∷ ts) rising each new =
      ap (λ b. cond b (unfit_tomb schemas (t.id ∷ earlier) ts) (Some t.id)) (and_true _ _ each.0.0 (ap not new.0))
      ∙ fit_tombs (t.id ∷ earlier) ts (rising_rest (t.id, t.clock) (clocks_of ts) rising) each.1 (later ts (none_ties (clocks_of ts) t.id (none_later (t.id, t.clock) (clocks_of ts) rising)) new.1)
    where
      later : (xs : List SavedTomb) → Each (λ (e : List ℕ × ℤ). ties t.id e.0 ≡ false) (clocks_of xs) → Each (λ (x : SavedTomb). is_among earlier x.id ≡ false) xs → Each (λ (x : SavedTomb). is_among (t.id ∷ earlier) x.id ≡ false) xs
      later [] a b = tt
      later (x ∷ xs) a b = (ap (λ z. z || is_among earlier x.id) a.0 ∙ b.0, later xs a.1 b.1)

-- what holds of each tombstone by what stands under its id
each_tomb : (P : SavedTomb → Type 0) (Q : List ℕ → ℤ → Type 0) → ((t : SavedTomb) → Q t.id t.clock → P t) → (ts : List SavedTomb) → Each (λ (e : List ℕ × ℤ). Q e.0 e.1) (clocks_of ts) → Each P ts
each_tomb P Q imp [] each = tt
each_tomb P Q imp (t ∷ ts) each = (imp t each.0, each_tomb P Q imp ts each.1)

-- what has a record was named by an entry, and by none above the clock
named_low : (history : History) (q : List ℕ) → is_some (value_at (records_of history) q) ≡ true → 1 ≤ last_clock history q
named_low [] q there = absurd (cc)
named_low (entry ∷ history) q there =
    elim (value_at entry.diff q) as (λ o. value_at entry.diff q ≡ o → 1 ≤ cond (is_some o) (suc (length history)) (last_clock history q)) [
      | Some c ↦ λ named. omega arith
      | None ↦ λ none. named_low history q (ap is_some (sym (unnamed entry.diff (records_of history) q none)) ∙ there)
    ] refl

last_high : (history : History) (q : List ℕ) → last_clock history q ≤ length history
last_high [] q = omega arith
last_high (entry ∷ history) q =
    let ih = last_high history q in
    elim (is_some (value_at entry.diff q)) as (λ b. cond b (suc (length history)) (last_clock history q) ≤ suc (length history)) [ true ↦ omega arith | false ↦ omega arith ]

whole_sides : (d : Bool) (o : Option Data) (x : Data) → cond d o None ≡ Some x → (d ≡ true) × (o ≡ Some x)
whole_sides true o x is = (refl, is)
whole_sides false o x is = none_some x is

-- nothing keeps a room from beginning
no_fault : (clocks : Bool) (o p : Option (List ℕ)) (large : Bool) → clocks ≡ true → o ≡ None → p ≡ None → large ≡ false
    → cond (not clocks) (Some Clocks) (option_map_or (λ id. Some (BadRecord id)) (option_or o p) (cond large (Some TooLarge) None)) ≡ None
no_fault clocks o p large a b c d = λ i. cond (not (a i)) (Some Clocks) (option_map_or (λ id. Some (BadRecord id)) (option_or (b i) (c i)) (cond (d i) (Some TooLarge) None))

three_false : (a b c : Bool) → a ≡ false → b ≡ false → c ≡ false → a || b || c ≡ false
three_false true b c p q r = p
three_false false true c p q r = q
three_false false false c p q r = r

five : (a b c d e : Bool) → a ≡ true → b ≡ true → c ≡ true → d ≡ true → e ≡ true → a && b && c && d && e ≡ true
five a b c d e p q r s t = and_true _ e (and_true _ d (and_true _ c (and_true a b p q) r) s) t

module _ (tree : SchemaTree) (lawful : AreLawful (decided tree)) (room : Room) (reached : Reachable (decided tree) room) where
  abbrev H : History
  H = room.history

  abbrev S : ℕ
  S = start_of room.first H

  abbrev N : ℕ
  N = length H

  kept : IsSound (decided tree) room
  kept = sound tree lawful room reached

  abbrev pub D : Pairs
  D = records_with (is_document tree) (records_of room.history)

  pub rising-document : AreRising (records_with (is_document tree) (records_of room.history))
  rising-document = rising-filter (is_document tree) (records_of H) (rising-records H)

  is_good : (q : List ℕ) (d : Data) → value_at D q ≡ Some d → IsGood (decided tree) (last_clock H) N q d
  is_good q d at =
      let sides = whole_sides (is_document tree q) (value_at (records_of H) q) d (sym (at-filter (is_document tree) (records_of H) q) ∙ at) in
      record {
        document = sides.0;
        admitted = kept.fits.admitted q d at;
        low = named_low H q (ap is_some sides.1);
        high = last_high H q;
      }

  good : Each (λ p. IsGood (decided tree) (last_clock H) N p.0 p.1) D
  good = each-imp (λ p. value_at D p.0 ≡ Some p.1) (λ p. IsGood (decided tree) (last_clock H) N p.0 p.1) (λ p at. is_good p.0 p.1 at) D (each_found D rising-document)

  start_low : S ≤ N
  start_low = let a = start_within room.first H in let b = kept.began in omega arith

  few_records : length D ≤ MOST_RECORDS
  few_records = let is = and_left (nat_le (length D) MOST_RECORDS) _ kept.fits.within in grind (arith, nat_tests)

  light_records : sum (map (λ p. weight p.1) D) ≤ MOST_WEIGHT
  light_records = let is = and_right (nat_le (length D) MOST_RECORDS) _ kept.fits.within in grind (arith, nat_tests)

  module _ (saved : SavedRoom) (is : IsSavedOf (is_document tree) room.first room.history saved) where
    abbrev R : List SavedRecord
    R = saved.documents.items

    abbrev T : List SavedTomb
    T = saved.tombstones.items

    are : AreOf (last_clock H) R D
    are = records_are (is_document tree) room.first H saved is

    abbrev Stated : List ℕ → ℤ → Type 0
    Stated q z = (is_document tree q ≡ true) × (n : ℕ) × (z ≡ pos n) × IsDead S H q n

    stated : Each (λ (e : List ℕ × ℤ). Stated e.0 e.1) (clocks_of T)
    stated = each-imp (λ (e : List ℕ × ℤ). value_at (clocks_of T) e.0 ≡ Some e.1) (λ e. Stated e.0 e.1) (λ e at. tomb_says (is_document tree) room.first H saved is e.0 e.1 at) (clocks_of T) (each_found (clocks_of T) is.rising)

    tombs : Each (IsTomb (decided tree) S N) T
    tombs = each_tomb (IsTomb (decided tree) S N) Stated (λ t says. (says.0, says.1, says.2, says.3.late, says.3.within)) T stated

    apart : Each (λ (t : SavedTomb). is_among (filter_map own_id R) t.id ≡ false) T
    apart = each_tomb (λ t. is_among (filter_map own_id R) t.id ≡ false) Stated (λ t says.
        ap (λ l. is_among l t.id) (ids_are (decided tree) (last_clock H) R D are)
        ∙ among-keys D t.id
        ∙ ap is_some (at-filter (is_document tree) (records_of H) t.id ∙ ap (λ o. cond (is_document tree t.id) o None) says.3.gone)
        ∙ ap is_some (cond_none {X = Data} (is_document tree t.id))) T stated

    clocks : (last : ℕ) → N < last → are_clocks (pos last) saved ≡ true
    clocks last below =
        let clock = is.clock in
        let start = is.start in
        let low = start_low in
        let a : int_le (pos 0) saved.start ≡ true = grind (arith, ints, nat_tests) in
        let b : int_le saved.start saved.clock ≡ true = grind (arith, ints, nat_tests) in
        let c : int_lt saved.clock (pos last) ≡ true = grind (arith, ints, nat_tests) in
        let d : list_all (λ r. int_le (pos 1) r.clock && int_le r.clock saved.clock) R ≡ true =
        ap (λ z. list_all (λ r. int_le (pos 1) r.clock && int_le r.clock z) R) clock ∙ records_clocked (decided tree) (last_clock H) N R D are good in
        let e : list_all (λ t. int_lt saved.start t.clock && int_le t.clock saved.clock) T ≡ true =
        (λ i. list_all (λ t. int_lt (start i) t.clock && int_le t.clock (clock i)) T) ∙ tombs_clocked (decided tree) S N T tombs in
        five _ _ _ _ _ a b c d e

    size : is_too_large saved ≡ false
    size =
        let count = length-are (last_clock H) R D are in
        let weighed = weight-are (last_clock H) R D are in
        let few = few_records in
        let light = light_records in
        let removed = tombs_few (is_document tree) room.first H saved is in
        let pair : SavedTomb → List ℕ × ℤ = λ t. (t.id, t.clock) in
        let listed : length (clocks_of T) ≡ length T = length-map T pair in
        let a : nat_lt MOST_RECORDS (length R) ≡ false = grind (arith, nat_tests) in
        let b : nat_lt MOST_WEIGHT (sum (map (λ r. weight (data_of r.record)) R)) ≡ false = grind (arith, nat_tests) in
        let c : nat_lt MOST_DEAD (length T) ≡ false = grind (arith, nat_tests) in
        three_false _ _ _ a b c

    pub loads : (last : ℕ) → length room.history < last → load_fault (decided tree) (pos last) saved ≡ None
    loads last below =
        no_fault (are_clocks (pos last) saved) (unfit_record (decided tree) [] R) (unfit_tomb (decided tree) (filter_map own_id R) T) (is_too_large saved)
        (clocks last below)
        (fit_records (decided tree) (last_clock H) N [] R D are rising-document good (each_new D))
        (fit_tombs (decided tree) S N (filter_map own_id R) T is.rising tombs apart)
        size

  -- what is saved of the room
  abbrev saved_record : List ℕ × Data → SavedRecord
  saved_record p = record { «record» = val_of p.1; clock = pos (last_clock H p.0) }

  abbrev saved_tomb : List ℕ × ℤ → SavedTomb
  saved_tomb p = record { id = p.0; clock = p.1 }

  abbrev heap : Global
  heap = record { memory = record { seal = tt } }

  abbrev vec : {X : Type 0} (xs : List X) → length xs < 2 ^ 63 → Vec X
  vec xs few = record { ptr = null_ptr; len = length xs; cap = length xs; alloc = heap; items = xs; ok = (refl, omega arith); small = few }

  abbrev gone : List (List ℕ × ℕ)
  gone = filter (λ p. is_document tree p.0) (dead room.first H)

  says_own : (ps : Pairs) → Each (λ p. IsGood (decided tree) (last_clock H) N p.0 p.1) ps → map with_own_id (map saved_record ps) ≡ map (λ p. (Some p.0, (p.1, pos (last_clock H p.0)))) ps
  says_own [] each = refl
  says_own (p ∷ ps) each =
      let d : data_of (val_of p.1) ≡ p.1 = data_again p.1 in
      let own : own_id (saved_record p) ≡ Some p.0 = ap (λ x. option_and_then as_text (field x (codes "id"))) d ∙ ap (option_and_then as_text) ((law tree p.0 p.1).0 each.0.admitted).own in
      λ i. (own i, (d i, pos (last_clock H p.0))) ∷ says_own ps each.1 i

  clocks_again : (es : List (List ℕ × ℤ)) → clocks_of (map saved_tomb es) ≡ es
  clocks_again [] = refl
  clocks_again (e ∷ es) = ap (λ l. e ∷ l) (clocks_again es)

  pub something_saved : (saved : SavedRoom) × IsSavedOf (is_document tree) room.first room.history saved
  something_saved =
      let sorted = sorted_clocks gone in
      let a = length-map D saved_record in
      let b = few_records in
      let few : length (map saved_record D) < 2 ^ 63 = omega arith in
      let c = length-map sorted saved_tomb in
      let d = length-sorted gone in
      let e = at_most-filter (λ p. is_document tree p.0) (dead room.first H) in
      let f = few_dead room.first H in
      let few_tombs : length (map saved_tomb sorted) < 2 ^ 63 = omega arith in
      let saved : SavedRoom = record { clock = pos N; start = pos S; documents = vec (map saved_record D) few; tombstones = vec (map saved_tomb sorted) few_tombs } in (
        saved,
        record {
          clock = refl;
          start = refl;
          documents = says_own D good;
          rising = subst AreRising (sym (clocks_again sorted)) (rising-sorted gone);
          removed = λ id. ap (λ es. value_at es id) (clocks_again sorted) ∙ at-sorted gone id ∙ at-tests (is_document tree) (dead room.first H) id;
        },
      )
