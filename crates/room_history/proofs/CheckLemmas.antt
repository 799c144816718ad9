-- What is asked of saved records and removed ids one by one, as it is asked of all.
use Rattle.std.proofs.Common.{◌≡◌, ℕ, Bool, true, false, ◌||◌, ◌&&◌, cond, not, List, [], ◌∷◌, ◌++◌, fold, filter_map, map, sum, ◌+◌, codes, is_some, Option, Some, None, option_map, Result, Ok, Err, IfErr, IsErrAnd, ℤ, subst, refl, sym, ap, ◌∙◌}
use Rattle.std.specs.List.{cons_option}
use Rattle.std.specs.Option.{option_map_or, option_or}
use Rattle.std.proofs.lemmas.List.Sums.{sum_by-cons}
use Rattle.rooms_val.specs.Data.{Data, Pairs, null}
use Rattle.rooms_val.specs.Maps.{ties, keys_of, value_at, with_key}
use Rattle.rooms_val.specs.View.{data_of}
use Rattle.rooms_val.specs.Weight.{weight}
use Rattle.rooms_val.proofs.MapsLemmas.{ties_flip, at-with_key}
use Rattle.room_model.specs.Saves.{own_id, is_among, is_admitted_as, are_clocks, is_too_large, unfit_record, unfit_tomb, load_fault}
use Rattle.room_model.specs.Schemas.{Schemas}
use Rattle.room_model.specs.declared.load_fault.LoadFault.{LoadFault}
use Rattle.room_model.specs.declared.load_fault.LoadFault.TheVariants.{Clocks, BadRecord, TooLarge, OutOfMemory}
use Rattle.room_model.specs.declared.saved.SavedRecord.{SavedRecord}
use Rattle.room_model.specs.declared.saved.SavedRoom.{SavedRoom}
use Rattle.room_model.specs.declared.saved.SavedTomb.{SavedTomb}
use Rattle.room_history.specs.Checks.{refused_record, is_tomb_fit}
use Rattle.room_history.specs.Loads.{with_saved, records_in}

pub among-keys : (m : Pairs) (q : List ℕ) → is_among (keys_of m) q ≡ is_some (value_at m q)
among-keys [] q = refl
among-keys (e ∷ es) q = ap (λ b. b || is_among (keys_of es) q) (ties_flip e.0 q) ∙ elim (ties q e.0) as (λ b. b || is_among (keys_of es) q ≡ is_some (cond b (Some e.1) (value_at es q))) [ true ↦ refl | false ↦ among-keys es q ]

among-more : (m : Pairs) (id : List ℕ) (d : Data) (q : List ℕ) → is_among (keys_of (with_key m id d)) q ≡ is_among (id ∷ keys_of m) q
among-more m id d q =
    among-keys (with_key m id d) q ∙ ap is_some (at-with_key m id q d)
    ∙ elim (ties q id) as (λ b. is_some (cond b (Some d) (value_at m q)) ≡ b || is_some (value_at m q)) [ true ↦ refl | false ↦ refl ]
    ∙ sym (λ i. ties_flip id q i || among-keys m q i)

among-append : (a b : List (List ℕ)) (q : List ℕ) → is_among (a ++ b) q ≡ is_among a q || is_among b q
among-append [] b q = refl
among-append (x ∷ a) b q = elim (ties x q) as (λ t. t || is_among (a ++ b) q ≡ (t || is_among a q) || is_among b q) [ true ↦ refl | false ↦ among-append a b q ]

among-both : (seen m : Pairs) (q : List ℕ) → is_among (keys_of seen ++ keys_of m) q ≡ is_some (value_at seen q) || is_some (value_at m q)
among-both seen m q = among-append (keys_of seen) (keys_of m) q ∙ (λ i. among-keys seen q i || among-keys m q i)

turned : (a b c : Bool) → (a || b) || c ≡ b || (a || c)
turned true true c = refl
turned true false c = refl
turned false true c = refl
turned false false c = refl

-- the ids of saved records are those under which they are written
among-written : (m : Pairs) (rs : List SavedRecord) (q : List ℕ) → is_among (keys_of (fold with_saved m rs)) q ≡ is_among (keys_of m) q || is_among (filter_map own_id rs) q
among-written m [] q = elim (is_among (keys_of m) q) as (λ b. b ≡ b || false) [ true ↦ refl | false ↦ refl ]
among-written m (r ∷ rs) q = among-written (with_saved m r) rs q ∙ by (own_id r) where
  by : (o : Option (List ℕ)) → is_among (keys_of (option_map_or (λ id. with_key m id (data_of r.record)) o m)) q || is_among (filter_map own_id rs) q ≡ is_among (keys_of m) q || is_among (cons_option o (filter_map own_id rs)) q
  by None = refl
  by (Some id) = ap (λ b. b || is_among (filter_map own_id rs) q) (among-more m id (data_of r.record) q) ∙ turned (ties id q) (is_among (keys_of m) q) (is_among (filter_map own_id rs) q)

module _ (schemas : Schemas) where
  -- only which ids stood before counts
  same-records : (a b : List (List ℕ)) → ((q : List ℕ) → is_among a q ≡ is_among b q) → (rs : List SavedRecord) → unfit_record schemas a rs ≡ unfit_record schemas b rs
  same-records a b same [] = refl
  same-records a b same (r ∷ rs) =
      let more : (id : List ℕ) → unfit_record schemas (id ∷ a) rs ≡ unfit_record schemas (id ∷ b) rs = λ id. same-records (id ∷ a) (id ∷ b) (λ q. ap (λ t. ties id q || t) (same q)) rs in
      λ i. option_map_or (λ id. cond (is_admitted_as schemas r id && not (same id i)) (more id i) (Some id)) (own_id r) (Some (codes "-"))

  pub same-tombs : (a b : List (List ℕ)) → ((q : List ℕ) → is_among a q ≡ is_among b q) → (ts : List SavedTomb) → unfit_tomb schemas a ts ≡ unfit_tomb schemas b ts
  same-tombs a b same [] = refl
  same-tombs a b same (t ∷ ts) =
      let more : unfit_tomb schemas (t.id ∷ a) ts ≡ unfit_tomb schemas (t.id ∷ b) ts = same-tombs (t.id ∷ a) (t.id ∷ b) (λ q. ap (λ c. ties t.id q || c) (same q)) ts in
      λ i. cond (schemas.is_document t.id && not (same t.id i)) (more i) (Some t.id)

  -- a record that isn't refused leaves what the others are asked
  pub records_on : (m : Pairs) (r : SavedRecord) (rs : List SavedRecord) → refused_record schemas m r ≡ None → unfit_record schemas (keys_of m) (r ∷ rs) ≡ unfit_record schemas (keys_of (with_saved m r)) rs
  records_on m r rs = by (own_id r) where
    by : (o : Option (List ℕ)) → option_map_or (λ id. cond (is_admitted_as schemas r id && not (is_some (value_at m id))) None (Some id)) o (Some (codes "-")) ≡ None
        → option_map_or (λ id. cond (is_admitted_as schemas r id && not (is_among (keys_of m) id)) (unfit_record schemas (id ∷ keys_of m) rs) (Some id)) o (Some (codes "-"))
        ≡ unfit_record schemas (keys_of (option_map_or (λ id. with_key m id (data_of r.record)) o m)) rs
    by None bad = (cc)
    by (Some id) is =
        let then = same-records (id ∷ keys_of m) (keys_of (with_key m id (data_of r.record))) (λ q. sym (among-more m id (data_of r.record) q)) rs in
        ap (λ b. cond (is_admitted_as schemas r id && not b) (unfit_record schemas (id ∷ keys_of m) rs) (Some id)) (among-keys m id)
        ∙ elim (is_admitted_as schemas r id && not (is_some (value_at m id))) as (λ b. cond b None (Some id) ≡ None → cond b (unfit_record schemas (id ∷ keys_of m) rs) (Some id) ≡ unfit_record schemas (keys_of (with_key m id (data_of r.record))) rs) [
          | true ↦ λ fine. then
          | false ↦ λ bad. (cc)
        ] is

  pub records_end : (m : Pairs) (r : SavedRecord) (rs : List SavedRecord) (id : List ℕ) → refused_record schemas m r ≡ Some id → unfit_record schemas (keys_of m) (r ∷ rs) ≡ Some id
  records_end m r rs end = by (own_id r) where
    by : (o : Option (List ℕ)) → option_map_or (λ id. cond (is_admitted_as schemas r id && not (is_some (value_at m id))) None (Some id)) o (Some (codes "-")) ≡ Some end
        → option_map_or (λ id. cond (is_admitted_as schemas r id && not (is_among (keys_of m) id)) (unfit_record schemas (id ∷ keys_of m) rs) (Some id)) o (Some (codes "-")) ≡ Some end
    by None is = is
    by (Some id) is =
        ap (λ b. cond (is_admitted_as schemas r id && not b) (unfit_record schemas (id ∷ keys_of m) rs) (Some id)) (among-keys m id)
        ∙ elim (is_admitted_as schemas r id && not (is_some (value_at m id))) as (λ b. cond b None (Some id) ≡ Some end → cond b (unfit_record schemas (id ∷ keys_of m) rs) (Some id) ≡ Some end) [
          | true ↦ λ bad. (cc)
          | false ↦ λ fine. fine
        ] is

  pub tombs_on : (seen m : Pairs) (t : SavedTomb) (ts : List SavedTomb) → is_tomb_fit schemas seen m t ≡ true → unfit_tomb schemas (keys_of seen ++ keys_of m) (t ∷ ts) ≡ unfit_tomb schemas (keys_of (with_key seen t.id null) ++ keys_of m) ts
  tombs_on seen m t ts fit =
      let longer : (q : List ℕ) → is_among (t.id ∷ keys_of seen ++ keys_of m) q ≡ is_among (keys_of (with_key seen t.id null) ++ keys_of m) q =
      λ q. among-append (t.id ∷ keys_of seen) (keys_of m) q ∙ sym (ap (λ b. b || is_among (keys_of m) q) (among-more seen t.id null q)) ∙ sym (among-append (keys_of (with_key seen t.id null)) (keys_of m) q) in
      ap (λ b. cond (schemas.is_document t.id && not b) (unfit_tomb schemas (t.id ∷ keys_of seen ++ keys_of m) ts) (Some t.id)) (among-both seen m t.id)
      ∙ ap (λ b. cond b (unfit_tomb schemas (t.id ∷ keys_of seen ++ keys_of m) ts) (Some t.id)) fit
      ∙ same-tombs (t.id ∷ keys_of seen ++ keys_of m) (keys_of (with_key seen t.id null) ++ keys_of m) longer ts

  pub tombs_end : (seen m : Pairs) (t : SavedTomb) (ts : List SavedTomb) → is_tomb_fit schemas seen m t ≡ false → unfit_tomb schemas (keys_of seen ++ keys_of m) (t ∷ ts) ≡ Some t.id
  tombs_end seen m t ts unfit =
      ap (λ b. cond (schemas.is_document t.id && not b) (unfit_tomb schemas (t.id ∷ keys_of seen ++ keys_of m) ts) (Some t.id)) (among-both seen m t.id)
      ∙ ap (λ b. cond b (unfit_tomb schemas (t.id ∷ keys_of seen ++ keys_of m) ts) (Some t.id)) unfit

  -- removed ids are asked beside the records that were written as beside the ids that saved records say
  pub tombs_beside : (rs : List SavedRecord) (ts : List SavedTomb) → unfit_tomb schemas (keys_of (fold with_saved [] rs)) ts ≡ unfit_tomb schemas (filter_map own_id rs) ts
  tombs_beside rs ts = same-tombs (keys_of (fold with_saved [] rs)) (filter_map own_id rs) (among-written [] rs) ts

  pub record_fault : (m : Pairs) (r : SavedRecord) (rs : List SavedRecord) (f : LoadFault) → option_map BadRecord (refused_record schemas m r) ≡ Some f → option_map BadRecord (unfit_record schemas (keys_of m) (r ∷ rs)) ≡ Some f
  record_fault m r rs f =
      elim (refused_record schemas m r) as (λ o. refused_record schemas m r ≡ o → option_map BadRecord o ≡ Some f → option_map BadRecord (unfit_record schemas (keys_of m) (r ∷ rs)) ≡ Some f) [
        | None ↦ λ fine bad. (cc)
        | Some id ↦ λ refused is. ap (option_map BadRecord) (records_end m r rs id refused) ∙ is
      ] refl

  -- where the clocks fit and each record is admitted, removed ids decide, and then the size
  pub load_is : (last : ℤ) (saved : SavedRoom) → are_clocks last saved ≡ true → unfit_record schemas [] saved.documents.items ≡ None
      → load_fault schemas last saved ≡ option_map_or (λ id. Some (BadRecord id)) (unfit_tomb schemas (keys_of (records_in saved)) saved.tombstones.items) (cond (is_too_large saved) (Some TooLarge) None)
  load_is last saved clocks fine =
      let size = cond (is_too_large saved) (Some TooLarge) None in
      let among = unfit_tomb schemas (filter_map own_id saved.documents.items) saved.tombstones.items in
      ap (λ b. cond (not b) (Some Clocks) (option_map_or (λ id. Some (BadRecord id)) (option_or (unfit_record schemas [] saved.documents.items) among) size)) clocks
      ∙ ap (λ o. option_map_or (λ id. Some (BadRecord id)) (option_or o among) size) fine
      ∙ ap (λ o. option_map_or (λ id. Some (BadRecord id)) o size) (sym (tombs_beside saved.documents.items saved.tombstones.items))

  -- the records that were written are those of the saved room
  pub beside : (saved : SavedRoom) (rs : List SavedRecord) (m : Pairs × List Pairs) → rs ≡ saved.documents.items → m ≡ (fold with_saved [] rs, [])
      → unfit_tomb schemas (keys_of m.0) saved.tombstones.items ≡ unfit_tomb schemas (keys_of (records_in saved)) saved.tombstones.items
  beside saved rs m same is = ap (λ (p : Pairs × List Pairs). unfit_tomb schemas (keys_of p.0) saved.tombstones.items) (is ∙ ap (λ xs. (fold with_saved [] xs, [])) same)

-- a fault by a removed id
pub by_tomb : (o : Option (List ℕ)) (size : Option LoadFault) (f : LoadFault) → option_map BadRecord o ≡ Some f → option_map_or (λ id. Some (BadRecord id)) o size ≡ Some f
by_tomb None size f is = (cc)
by_tomb (Some id) size f is = is

-- a fault that is passed on
pub passed_on : {T : Type 0} (r : Result T LoadFault) (e : LoadFault) (P Q : LoadFault → Type 0) → IsErrAnd r (λ f. f ≡ e) → ((f : LoadFault) → P f → Q f) → (¬ (e ≡ OutOfMemory) → P e) → IfErr r (λ f. ¬ (f ≡ OutOfMemory) → Q f)
passed_on (Ok x) e P Q is so p = tt
passed_on (Err f) e P Q is so p = subst (λ f. ¬ (f ≡ OutOfMemory) → Q f) (sym is) (λ known. so e (p known))

-- what a record and others weigh
pub weight_on : (r : SavedRecord) (rs : List SavedRecord) → sum (map (λ r. weight (data_of r.record)) (r ∷ rs)) ≡ weight (data_of r.record) + sum (map (λ r. weight (data_of r.record)) rs)
weight_on r rs = sum_by-cons (λ w. w) (weight (data_of r.record)) (map (λ r. weight (data_of r.record)) rs)
