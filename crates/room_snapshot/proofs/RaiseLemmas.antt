-- Records by id, and what becomes of each record.
use Rattle.std.proofs.Common.{◌≡◌, ℕ, ◌+◌, ◌<◌, ℤ, true, false, ◌||◌, cond, List, [], ◌∷◌, ◌++◌, fold, Option, Some, None, Ordering, Less, Equal, Greater, length, get_or, take, refl, sym, ap, subst, ◌∙◌, append_assoc}
use Rattle.std.specs.Prelude as std
use Rattle.std.specs.List.Sorted.{IsPermutation}
use Rattle.std.specs.BTreeMap.{insert_entry}
use Rattle.std.specs.FinMap.Entries.{by_order}
use Rattle.std.specs.Option.{option_map_or, IsSomeAnd}
use Rattle.std.specs.Ordering.{is_eq, match_ordering}
use Rattle.std.proofs.lemmas.List.{append-nil}
use Rattle.std.proofs.lemmas.List.Sums.{fold_push}
use Rattle.std.proofs.lemmas.List.Sorted.{IsPermutation-refl, IsPermutation-cons, IsPermutation-map, IsPermutation-trans, IsPermutation-sym, IsPermutation-middle, IsPermutation-append_right}
use denote.Ref.{Bor}
use Rattle.rooms_val.proofs.Truths.{or_right}
use Rattle.rooms_val.specs.Data.{Data, Pairs}
use Rattle.rooms_val.specs.Maps.{order, AreRising, value_at, with_key, seen}
use Rattle.rooms_val.specs.View.{data_of}
use Rattle.rooms_val.specs.declared.val.Val.{Val}
use Rattle.rooms_val.proofs.MapsLemmas.{at-with_key, rising-with_key, put_last, by_tie}
use Rattle.migrate_steps.specs.declared.migration.Migration.{Migration}
use Rattle.migrate_steps.specs.Records.{raised_along, raised_map}
use Rattle.migrate_steps.proofs.RecordLemmas.{each_alone}
use Rattle.room_snapshot.specs.Ids.{id_in, is_of, has_id, HaveIds, with_record, by_id}
use Rattle.room_snapshot.specs.Raised.{all_at, AreRaised}
use Rattle.room_snapshot.specs.Saved.{Documents, documents_view, records_of}
use Rattle.room_snapshot.specs.Sorted.{sorted_view, by_text}
use Rattle.room_model.specs.declared.saved.SavedRecord.{SavedRecord}
use Rattle.room_snapshot.proofs.IdLemmas.{has_own, not_both, records_of-push}

-- ---- records by id

rising_step : (o : Option (List ℕ)) (m : Pairs) (d : Data) → AreRising m → AreRising (option_map_or (λ id. with_key m id d) o m)
rising_step None m d rising = rising
rising_step (Some id) m d rising = rising-with_key m id d rising

rising_fold : (ds : List Data) (m : Pairs) → AreRising m → AreRising (fold with_record m ds)
rising_fold [] m rising = rising
rising_fold (d ∷ ds) m rising = rising_fold ds (with_record m d) (rising_step (id_in d) m d rising)

pub rising-by_id : (ds : List Data) → AreRising (by_id ds)
rising-by_id ds = rising_fold ds [] tt

pub by_id_more : (ds : List SavedRecord) (i : ℕ) (d : SavedRecord) → i < length ds → d ≡ get_or ds i d
    → by_id (records_of (documents_view (take (i + 1) ds))) ≡ with_record (by_id (records_of (documents_view (take i ds)))) (data_of d.record)
by_id_more ds i d within here = ap by_id (records_of-push ds d i within here) ∙ fold_push with_record [] (records_of (documents_view (take i ds))) (data_of d.record)

pub sorted_view-insert : (es : List (Bor (List ℕ) × Bor Val)) (k : Bor (List ℕ)) (v : Bor Val) → sorted_view (insert_entry by_text es k v) ≡ with_key (sorted_view es) k.now (data_of v.now)
sorted_view-insert [] k v = refl
sorted_view-insert (e ∷ es) k v =
    elim (order k.now e.0.now) as (λ o. sorted_view (match_ordering o ((k, v) ∷ e ∷ es) ((e.0, v) ∷ es) (e ∷ insert_entry by_text es k v))
    ≡ by_order o ((k.now, data_of v.now) ∷ sorted_view (e ∷ es)) ((e.0.now, data_of v.now) ∷ sorted_view es) ((e.0.now, data_of e.1.now) ∷ with_key (sorted_view es) k.now (data_of v.now))) [
      | Less ↦ refl
      | Equal ↦ refl
      | Greater ↦ ap (λ rest. (e.0.now, data_of e.1.now) ∷ rest) (sorted_view-insert es k v)
    ]

-- an entry is put behind those that are lower
pub put_next : (done next : Pairs) (k : List ℕ) (v : Data) (more all : Pairs) → AreRising all → done ++ (k, v) ∷ more ≡ all → next ≡ with_key done k v → next ++ more ≡ all
put_next done next k v more all rising is next_is =
    ap (λ m. m ++ more) (next_is ∙ put_last done k v more (subst AreRising (sym is) rising)) ∙ append_assoc done ((k, v) ∷ []) more ∙ is

-- ---- none is lost and none comes in

-- the records of a map
abbrev vals_of : Pairs → List Data
vals_of m = std.map (λ p. p.1) m

put_step : (k : List ℕ) (v : Data) (e : List ℕ × Data) (es : Pairs) (o : Ordering) → cond (is_eq o) (Some e.1) (value_at es k) ≡ None
    → (value_at es k ≡ None → IsPermutation ((k, v) ∷ es) (with_key es k v))
    → IsPermutation ((k, v) ∷ e ∷ es) (by_order o ((k, v) ∷ e ∷ es) ((e.0, v) ∷ es) (e ∷ with_key es k v))
put_step k v e es Less none later = IsPermutation-refl ((k, v) ∷ e ∷ es)
put_step k v e es Equal none later = absurd (cc)
put_step k v e es Greater none later =
    IsPermutation-trans ((k, v) ∷ e ∷ es) (e ∷ (k, v) ∷ es) (e ∷ with_key es k v) (IsPermutation-middle ((k, v) ∷ []) e es) (IsPermutation-cons e ((k, v) ∷ es) (with_key es k v) (later none))

-- a map with a key more
put_more : (m : Pairs) (k : List ℕ) (v : Data) → value_at m k ≡ None → IsPermutation ((k, v) ∷ m) (with_key m k v)
put_more [] k v none = IsPermutation-refl ((k, v) ∷ [])
put_more (e ∷ es) k v none = put_step k v e es (order k e.0) none (λ later. put_more es k v later)

-- the map has no id of the records
abbrev Lacks : List Data → Pairs → Type 0
Lacks ds m = (q : List ℕ) → has_id ds q ≡ true → value_at m q ≡ None

lacks_next : (d : Data) (ds : List Data) (m : Pairs) (id : List ℕ) → has_id ds id ≡ false → Lacks (d ∷ ds) m → Lacks ds (with_key m id d)
lacks_next d ds m id none lacks q has =
    at-with_key m id q d
    ∙ by_tie (λ b. cond b (Some d) (value_at m q) ≡ None) q id
    (λ same. not_both (has_id ds q) has (ap (has_id ds) same ∙ none))
    (lacks q (or_right (is_of q d) (has_id ds q) has))

fold_step : (d : Data) (ds : List Data) (m : Pairs) (o : Option (List ℕ)) → id_in d ≡ o → IsSomeAnd o (λ id. has_id ds id ≡ false) → Lacks (d ∷ ds) m
    → ((n : Pairs) → Lacks ds n → IsPermutation (ds ++ vals_of n) (vals_of (fold with_record n ds)))
    → IsPermutation (d ∷ ds ++ vals_of m) (vals_of (fold with_record (option_map_or (λ id. with_key m id d) o m) ds))
fold_step d ds m None is own lacks later = absurd own
fold_step d ds m (Some id) is own lacks later =
    let absent : value_at m id ≡ None = lacks id (ap (λ b. b || has_id ds id) (has_own d id is)) in
    let next = with_key m id d in
    let moved = IsPermutation-sym (ds ++ d ∷ vals_of m) (d ∷ ds ++ vals_of m) (IsPermutation-middle ds d (vals_of m)) in
    let set = IsPermutation-map (λ (p : List ℕ × Data). p.1) ((id, d) ∷ m) next (put_more m id d absent) in
    IsPermutation-trans (d ∷ ds ++ vals_of m) (ds ++ d ∷ vals_of m) (vals_of (fold with_record next ds)) moved
    (IsPermutation-trans (ds ++ d ∷ vals_of m) (ds ++ vals_of next) (vals_of (fold with_record next ds))
    (IsPermutation-append_right ds (d ∷ vals_of m) (vals_of next) set)
    (later next (lacks_next d ds m id own lacks)))

fold_keeps : (ds : List Data) (m : Pairs) → HaveIds ds → Lacks ds m → IsPermutation (ds ++ vals_of m) (vals_of (fold with_record m ds))
fold_keeps [] m have lacks = IsPermutation-refl (vals_of m)
fold_keeps (d ∷ ds) m have lacks = fold_step d ds m (id_in d) refl have.0 lacks (λ n none. fold_keeps ds n have.1 none)

-- records with ids of their own are those of the map by id
keeps-by_id : (ds : List Data) → HaveIds ds → IsPermutation ds (vals_of (by_id ds))
keeps-by_id ds have = subst (λ es. IsPermutation es (vals_of (by_id ds))) (append-nil ds) (fold_keeps ds [] have (λ q has. refl))

-- ---- what the migrations make of each

after_seen : (f : Data → Data) (clock : ℤ) (m : Pairs) → std.map {B = Data × ℤ} (λ d. (f d, clock)) (vals_of m) ≡ all_at clock (seen f m)
after_seen f clock [] = refl
after_seen f clock (p ∷ m) = ap (λ rest. (f p.1, clock) ∷ rest) (after_seen f clock m)

before_seen : (f : Data → Data) (clock : ℤ) (ds : Documents) → std.map {B = Data × ℤ} (λ d. (f d, clock)) (records_of ds) ≡ std.map {B = Data × ℤ} (λ d. (f d.0, clock)) ds
before_seen f clock [] = refl
before_seen f clock (d ∷ ds) = ap (λ rest. (f d.0, clock) ∷ rest) (before_seen f clock ds)

pub are_raised : (ms : List Migration) (clock : ℤ) (ds : Documents) → HaveIds (records_of ds) → AreRaised ms clock ds (all_at clock (raised_map ms (by_id (records_of ds))))
are_raised ms clock ds have =
    let f = raised_along ms in
    let moved = IsPermutation-map {X = Data × ℤ} (λ d. (f d, clock)) (records_of ds) (vals_of (by_id (records_of ds))) (keeps-by_id (records_of ds) have) in
    subst (λ es. IsPermutation (std.map {B = Data × ℤ} (λ d. (f d.0, clock)) ds) es) (after_seen f clock (by_id (records_of ds)) ∙ ap (all_at clock) (sym (each_alone ms (by_id (records_of ds)))))
    (subst (λ es. IsPermutation es (std.map {B = Data × ℤ} (λ d. (f d, clock)) (vals_of (by_id (records_of ds))))) (before_seen f clock ds) moved)
