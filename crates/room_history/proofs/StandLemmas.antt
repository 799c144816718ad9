-- What a room keeps that begins from a saved one.
use Rattle.std.proofs.Common.{◌≡◌, ℕ, ◌+◌, ◌^◌, nat_abs, nat_le, ℤ, pos, ◌≤ℤ◌, ◌<ℤ◌, Bool, true, false, ◌&&◌, cond, is_eq, List, [], ◌∷◌, length, map, filter, fold, Option, Some, None, is_some, All, refl, sym, ap, subst, ◌∙◌, arith}
use Rattle.std.specs.Prelude.{sum, min, ◌-◌}
use Rattle.std.specs.Option.{option_map_or}
use Rattle.std.specs.BTreeMap.{BTreeMap}
use Rattle.std.specs.List.Sorted.{IsStrictlySortedBy}
use Rattle.std.specs.Map.{keys_of}
use Rattle.std.specs.Ordering.{int_cmp}
use Rattle.std.proofs.lemmas.Cmp.{eq_by_cmp_equiv, int_cmp_total}
use Rattle.std.proofs.lemmas.Map.Views.{All-keys_from_lookup}
use Rattle.std.proofs.lemmas.Int.{ints}
use Rattle.std.proofs.lemmas.List.Sums.{sum_by-cons}
use Rattle.circular_buffer.specs.Buffer.{keep_last}
use Rattle.std.proofs.lemmas.Bool.Decides.{nat_tests}
use Rattle.rooms_val.specs.Data.{Data, Pairs}
use Rattle.rooms_val.specs.Maps.{value_at, with_key, ties, AreRising}
use Rattle.rooms_val.specs.View.{data_of}
use Rattle.rooms_val.specs.Weight.{weight}
use Rattle.rooms_val.proofs.MapsLemmas.{at-with_key, rising-with_key, same_pairs, ties_same, order_itself}
use Rattle.field_ops.specs.RecordOps.{RecordOps}
use Rattle.schema_core.specs.Admits.{is_document, is_admitted}
use Rattle.schema_core.specs.SchemaOf.{schema_tree}
use Rattle.schema_core.specs.Tree.{SchemaTree}
use Rattle.room_accept.proofs.SizeLemmas.{adds, IsTotal, total-set_at, length_total, weight_total}
use Rattle.room_accept.specs.Sizes.{size_of}
use Rattle.room_accept.specs.Suiting.{AreAdmitted}
use Rattle.room_model.proofs.HistoryLemmas.{Each, each-imp}
use Rattle.rooms_val.proofs.Truths.{and_left, and_right}
use Rattle.room_model.proofs.BaseLemmas.{rising-records as rising-records_of}
use Rattle.room_model.specs.Histories.{records_of}
use Rattle.room_model.specs.Saves.{own_id, diff_at, begun_to, begun}
use Rattle.room_model.specs.Schemas.{records_with}
use Rattle.room_model.specs.declared.limits.TheConstants.{MOST_TOLD}
use Rattle.room_model.specs.declared.saved.SavedRecord.{SavedRecord}
use Rattle.room_model.specs.declared.saved.SavedRoom.{SavedRoom}
use Rattle.room_schemas.specs.Decided.{decided, is_presence}
use Rattle.room_schemas.proofs.ApartLemmas.{document_apart}
use Rattle.room_history.specs.Begins.{mark_diffs, diff_in, AreWithin, trees_after}
use Rattle.room_history.specs.Entries.{recent_tree}
use Rattle.room_history.specs.Keeps.{Keeps, change_at}
use Rattle.room_history.specs.Loads.{with_saved, records_in, size_in}
use Rattle.room_history.specs.declared.kept.Kept.{Kept}
use Rattle.room_history.proofs.BegunLemmas.{Fits, says, record_at, AreApart, standing, at-begun, says_none}
use Rattle.room_history.proofs.FitLemmas.{Stands, AreGood, all_good, admitted_at, fit, below, few_tombs}
use Rattle.room_history.proofs.GoneLemmas.{start_is, dead_is}
use Rattle.room_history.proofs.NextLemmas.{each_found, lists_of, long, walked}
use Rattle.room_history.proofs.TreeLemmas.{trees_alike, trees_are, trees_last}

-- what stands under an id in the records of a saved room
at-with_saved : (m : Pairs) (r : SavedRecord) (q : List ℕ) → value_at (with_saved m r) q ≡ cond (says q r) (Some (data_of r.record)) (value_at m q)
at-with_saved m r q =
    elim (own_id r) as (λ o. value_at (option_map_or (λ id. with_key m id (data_of r.record)) o m) q ≡ cond (option_map_or (λ id. ties q id) o false) (Some (data_of r.record)) (value_at m q)) [
      | None ↦ refl
      | Some id ↦ at-with_key m id q (data_of r.record)
    ]

at-saved : (rs : List SavedRecord) (m : Pairs) (q : List ℕ) → AreApart rs → value_at (fold with_saved m rs) q ≡ option_map_or (λ r. Some (data_of r.record)) (record_at rs q) (value_at m q)
at-saved [] m q apart = refl
at-saved (r ∷ rs) m q apart =
    at-saved rs (with_saved m r) q apart.1
    ∙ ap (option_map_or (λ r. Some (data_of r.record)) (record_at rs q)) (at-with_saved m r q)
    ∙ elim (says q r) as (λ t. says q r ≡ t → option_map_or (λ r. Some (data_of r.record)) (record_at rs q) (cond t (Some (data_of r.record)) (value_at m q)) ≡ option_map_or (λ r. Some (data_of r.record)) (cond t (Some r) (record_at rs q)) (value_at m q)) [
      | true ↦ λ is. ap (λ (o : Option SavedRecord). option_map_or (λ r. Some (data_of r.record)) o (Some (data_of r.record))) (says_none r rs q apart is)
      | false ↦ λ is. refl
    ] refl

rising-saved : (rs : List SavedRecord) (m : Pairs) → AreRising m → AreRising (fold with_saved m rs)
rising-saved [] m rising = rising
rising-saved (r ∷ rs) m rising =
    rising-saved rs (with_saved m r)
    (elim (own_id r) as (λ o. AreRising (option_map_or (λ id. with_key m id (data_of r.record)) o m)) [ None ↦ rising | Some id ↦ rising-with_key m id (data_of r.record) rising ])

abbrev pub all_sum : (f : Data → ℕ) → List SavedRecord → ℕ
all_sum f [] = 0
all_sum f (r ∷ rs) = f (data_of r.record) + all_sum f rs

-- totals of records, each of which is new
module _ (s : SchemaTree) (f : Data → ℕ) (total : Pairs → ℕ) (is : IsTotal f total) where
  pub grown : (earlier : List (List ℕ)) (rs : List SavedRecord) (m : Pairs) → AreGood (decided s) earlier rs → AreApart rs → AreRising m → ((q : List ℕ) (r : SavedRecord) → record_at rs q ≡ Some r → value_at m q ≡ None)
      → total (fold with_saved m rs) ≡ total m + all_sum f rs
  grown earlier [] m are apart rising new = omega arith
  grown earlier (r ∷ rs) m are apart rising new =
      let id = are.0 in
      let d = data_of r.record in
      let added : with_saved m r ≡ with_key m id d = ap (λ o. option_map_or (λ id. with_key m id d) o m) are.1 in
      let says_it : (q : List ℕ) → says q r ≡ ties q id = λ q. ap (λ o. option_map_or (λ k. ties q k) o false) are.1 in
      let itself : record_at (r ∷ rs) id ≡ Some r = ap (λ b. cond b (Some r) (record_at rs id)) (says_it id ∙ ap is_eq (order_itself id)) in
      let fresh : value_at m id ≡ None = new id r itself in
      let one : total (with_key m id d) ≡ total m + f d =
      let sum = total-set_at f total is m id (Some d) rising in
      let nothing = ap (adds f) fresh in
      omega arith in
      let ih = grown (id ∷ earlier) rs (with_key m id d) are.4 apart.1 (rising-with_key m id d rising) (λ q x at.
      let other : ties q id ≡ false =
      elim (ties q id) as (λ b. ties q id ≡ b → b ≡ false) [
        | false ↦ λ t. refl
        | true ↦ λ t. let never = ap is_some (sym at ∙ ap (record_at rs) (ties_same q id t) ∙ apart.0 id are.1) in absurd (cc)
      ] refl in
      at-with_key m id q d ∙ ap (λ b. cond b (Some d) (value_at m q)) other ∙ new q x (ap (λ b. cond b (Some r) (record_at rs q)) (says_it q ∙ other) ∙ at)) in
      ap (λ x. total (fold with_saved x rs)) added ∙ ih ∙ (let whole : total (with_key m id d) + all_sum f rs ≡ total m + all_sum f (r ∷ rs) = omega arith in whole)

pub sums : (f : Data → ℕ) (rs : List SavedRecord) → all_sum f rs ≡ sum (map (λ r. f (data_of r.record)) rs)
sums f [] = refl
sums f (r ∷ rs) = ap (λ n. f (data_of r.record) + n) (sums f rs) ∙ sym (sum_by-cons (λ x. x) (f (data_of r.record)) (map (λ r. f (data_of r.record)) rs))

pub ones : (rs : List SavedRecord) → all_sum (λ d. 1) rs ≡ length rs
ones [] = refl
ones (r ∷ rs) = let ih = ones rs in omega arith

module _ (test : List ℕ → Bool) where
  all_pass : (m : Pairs) → Each (λ (e : List ℕ × Data). test e.0 ≡ true) m → filter (λ e. test e.0) m ≡ m
  all_pass [] each = refl
  all_pass (e ∷ m) each = ap (λ b. cond b (e ∷ filter (λ e. test e.0) m) (filter (λ e. test e.0) m)) each.0 ∙ ap (λ r. e ∷ r) (all_pass m each.1)

  none_passes : (m : Pairs) → Each (λ (e : List ℕ × Data). test e.0 ≡ false) m → filter (λ e. test e.0) m ≡ []
  none_passes [] each = refl
  none_passes (e ∷ m) each = ap (λ b. cond b (e ∷ filter (λ e. test e.0) m) (filter (λ e. test e.0) m)) each.0 ∙ none_passes m each.1

module _ (s : SchemaTree) (last : ℤ) (saved : SavedRoom) (are : Stands (decided s) last saved) where
  abbrev D : List SavedRecord
  D = saved.documents.items

  fits : Fits saved
  fits = fit (decided s) last saved are

  abbrev M : Pairs
  M = records_of (begun saved)

  abbrev found : Option SavedRecord → Option Data
  found o = option_map_or (λ (r : SavedRecord). Some (data_of r.record)) o None

  at-end : (q : List ℕ) → value_at (records_of (begun saved)) q ≡ found (record_at saved.documents.items q)
  at-end q =
      at-begun saved fits (nat_abs saved.clock) q
      ∙ elim (record_at D q) as (λ o. record_at D q ≡ o → standing saved fits (nat_abs saved.clock) o ≡ found o) [
        | None ↦ λ at. refl
        | Some r ↦ λ at.
            let clocks = fits.record_clocks q r at in
            let low = clocks.0 in
            let high = clocks.1 in
            let up : nat_le (nat_abs r.clock) (nat_abs saved.clock) ≡ true = grind (arith, ints, nat_tests) in
            ap (λ b. cond b (Some (data_of r.record)) None) up
      ] refl

  pub records_are : records_in saved ≡ records_of (begun saved)
  records_are =
      same_pairs (records_in saved) M (rising-saved D [] tt) (rising-records_of (begun saved)) (λ q. at-saved D [] q fits.records_apart ∙ sym (at-end q))

  -- each record is admitted to the document
  pub admitted_one : (q : List ℕ) (d : Data) → value_at (records_of (begun saved)) q ≡ Some d → is_document s q && is_admitted s q d ≡ true
  admitted_one q d is =
      elim (record_at D q) as (λ o. record_at D q ≡ o → found o ≡ Some d → is_document s q && is_admitted s q d ≡ true) [
        | None ↦ λ at no. let never = ap is_some no in absurd (cc)
        | Some r ↦ λ at some. subst (λ x. is_document s q && is_admitted s q x ≡ true) (some_is (data_of r.record) d some) (admitted_at (decided s) [] D (all_good (decided s) last saved are) q r at)
      ] refl (sym (at-end q) ∙ is)
    where
      some_is : (x y : Data) → ◌≡◌ {A = Option Data} (Some x) (Some y) → x ≡ y
      some_is x y e = ap (λ o. option_map_or (λ z. z) o x) e

  each_document : Each (λ (e : List ℕ × Data). is_document s e.0 ≡ true) (records_of (begun saved))
  each_document = each_found (λ q (d : Data). is_document s q ≡ true) M (rising-records_of (begun saved)) (λ q d is. and_left _ _ (admitted_one q d is))

  documents : records_with (is_document s) (records_of (begun saved)) ≡ records_of (begun saved)
  documents = all_pass (is_document s) M each_document

  no_presences : records_with (is_presence s) (records_of (begun saved)) ≡ []
  no_presences = none_passes (is_presence s) M (each-imp (λ (e : List ℕ × Data). is_document s e.0 ≡ true) (λ e. is_presence s e.0 ≡ false) (λ e is. document_apart s e.0 is) M each_document)

  size_is : size_in saved ≡ size_of (is_document s) (records_of (begun saved))
  size_is =
      let good = all_good (decided s) last saved are in
      let grown_count = grown s (λ d. 1) length length_total [] D [] good fits.records_apart tt (λ q r at. refl) in
      let all_ones = ones D in
      let count : length (records_in saved) ≡ length D = omega arith in
      let grown_weight = grown s weight (λ es. sum (map (λ p. weight p.1) es)) weight_total [] D [] good fits.records_apart tt (λ q r at. refl) in
      let all_weights = sums weight D in
      let nothing = weight_total.none in
      let heavy : sum (map (λ (p : List ℕ × Data). weight p.1) (records_in saved)) ≡ sum (map (λ r. weight (data_of r.record)) D) = omega arith in
      let whole : records_in saved ≡ records_with (is_document s) M = records_are ∙ sym documents in
      (λ i. record { count = (sym count ∙ ap length whole) i; weight = (sym heavy ∙ ap (λ (m : Pairs). sum (map (λ p. weight p.1) m)) whole) i })

  -- what was made of the diffs by clock
  pub record IsBegun (diffs : BTreeMap ℤ RecordOps) (kept : Kept) : Type 0 where
    pub sorted : IsStrictlySortedBy int_cmp (keys_of diffs.entries)
    pub within : AreWithin (pos 0) saved.clock diffs
    pub each : (n : ℕ) → diff_in diffs (pos n) ≡ diff_at saved n
    pub schema : schema_tree kept.schema ≡ s
    pub records : kept.records ≡ (records_in saved, [])
    pub size : kept.size ≡ size_in saved
    pub clock : kept.clock ≡ saved.clock
    pub lists : (kept.changes.live, kept.changes.dead) ≡ mark_diffs diffs.entries ([], [])
    pub start : kept.changes.start ≡ saved.start
    pub recent : map recent_tree kept.recent.items ≡ trees_after (λ n. diff_in diffs (pos n)) (nat_abs saved.clock - MOST_TOLD) (min (nat_abs saved.clock) MOST_TOLD)
    pub capacity : kept.recent.capacity ≡ MOST_TOLD

  -- the lists, once the diffs are marked one after another
  marked : (diffs : BTreeMap ℤ RecordOps) (kept : Kept) → IsBegun diffs kept → (kept.changes.live, kept.changes.dead) ≡ lists_of (begun saved)
  marked diffs kept is =
      let n = nat_abs saved.clock in
      let high = fits.start_high in
      let low = fits.start_low in
      let all : All (λ z. (pos 0 <ℤ z) × (z ≤ℤ saved.clock)) (keys_of diffs.entries) =
      All-keys_from_lookup (eq_by_cmp_equiv int_cmp_total) (λ z. (pos 0 <ℤ z) × (z ≤ℤ saved.clock)) diffs.entries is.within in
      let none : 0 + n ≡ n = omega arith in
      is.lists
      ∙ walked saved fits n 0 diffs.entries (record {
        sorted = is.sorted;
        above = λ i d less. (all i d less).0;
        within = λ i d less. let most = (all i d less).1 in omega (arith, ints);
        diffs = λ m from to. is.each m;
      })
      ∙ ap (λ k. lists_of (begun_to saved k)) none

  -- so the history is kept with which the room begins
  pub keeps : last ≤ℤ pos (2 ^ 53) → (diffs : BTreeMap ℤ RecordOps) (kept : Kept) → IsBegun diffs kept → Keeps (nat_abs saved.start) (begun saved) kept
  keeps bound diffs kept is =
      let n : length (begun saved) ≡ nat_abs saved.clock = long saved (nat_abs saved.clock) in
      let few = few_tombs (decided s) last saved are in
      let high = fits.start_high in
      let low = fits.start_low in
      let under = below (decided s) last saved are in
      let lists = marked diffs kept is in
      let none : length (records_with (is_presence (schema_tree kept.schema)) M) ≡ 0 = ap (λ t. length (records_with (is_presence t) M)) is.schema ∙ ap length no_presences in
      record {
        began = omega (arith, ints);
        records = is.records ∙ ap (λ m. (m, [])) records_are;
        admitted = subst (λ t. AreAdmitted t M) (sym is.schema) (λ id d at. and_right (is_document s id) _ (admitted_one id d at));
        size = is.size ∙ size_is ∙ ap (λ t. size_of (is_document t) M) (sym is.schema);
        clock = is.clock ∙ (let same : saved.clock ≡ pos (nat_abs saved.clock) = omega (arith, ints) in same) ∙ ap pos (sym n);
        live = ap (λ l. l.0) lists;
        dead = ap (λ l. l.1) lists ∙ ap (map (change_at false)) (sym (dead_is saved fits few));
        start = is.start ∙ (let same : saved.start ≡ pos (nat_abs saved.start) = omega (arith, ints) in same) ∙ ap pos (sym (start_is saved fits few (nat_abs saved.clock)));
        recent =
            is.recent ∙ trees_alike (λ n. diff_in diffs (pos n)) (diff_at saved) is.each (nat_abs saved.clock - MOST_TOLD) (min (nat_abs saved.clock) MOST_TOLD)
            ∙ sym (ap (keep_last MOST_TOLD) (trees_are saved fits (nat_abs saved.clock)) ∙ trees_last (diff_at saved) (nat_abs saved.clock));
        capacity = is.capacity;
        presences = omega arith;
        bounded = omega (arith, ints);
      }
