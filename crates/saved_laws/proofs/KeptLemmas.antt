-- In a room that calls make the first start isn't above the clock, and the document is within the limits and admitted.
use Rattle.std.proofs.Common.{◌≡◌, ℕ, ◌≤◌, nat_abs, nat_le, nat_lt, pos, Bool, true, false, ◌&&◌, ◌||◌, cond, List, [], ◌∷◌, length, map, sum, Option, Some, None, is_some, refl, sym, ap, subst, ◌∙◌, arith}
use Rattle.std.specs.Option.{option_map_or}
use Rattle.std.proofs.lemmas.Bool.Decides.{nat_tests}
use Rattle.std.proofs.lemmas.Int.{ints}
use Rattle.rooms_val.proofs.Truths.{some_same, and_left, and_right, and_true}
use Rattle.rooms_val.specs.Data.{Data, Pairs}
use Rattle.rooms_val.specs.Maps.{value_at, set_at, ties, added, AreRising}
use Rattle.rooms_val.specs.View.{data_of}
use Rattle.rooms_val.specs.Weight.{weight}
use Rattle.rooms_val.proofs.MapsLemmas.{at-set_at, at-with_key, rising-added, same_pairs, ties_same}
use Rattle.field_ops.specs.RecordOps.{RecordOpTree, put, patch, remove, RecordOps}
use Rattle.field_ops.specs.Patched.{raw}
use Rattle.field_ops.specs.Laws.{raw_after}
use Rattle.doc_model.specs.Documents.{fold_raw, acts_on}
use Rattle.doc_model.proofs.MergeLemmas.{at-fold_raw, rising-fold_raw}
use Rattle.schema_core.specs.Tree.{SchemaTree}
use Rattle.room_schemas.specs.Decided.{decided}
use Rattle.room_accept.proofs.SizeLemmas.{length_total, weight_total}
use Rattle.room_model.specs.Accepting.{Push, is_put_admitted, is_accepted, accept_ops, tried_op, presence_part}
use Rattle.room_model.specs.Histories.{records_of}
use Rattle.room_model.specs.Reachable.{IsBeginning, anew, loaded, Reachable}
use Rattle.room_model.specs.Rooms.{Room, Session, removal}
use Rattle.room_model.specs.Saves.{begun}
use Rattle.room_model.specs.Schemas.{Schemas, AreLawful, Plan, doc, presence_id}
use Rattle.room_model.specs.declared.limits.TheConstants.{MOST_RECORDS, MOST_WEIGHT, MOST_DEAD}
use Rattle.room_model.specs.declared.saved.SavedRoom.{SavedRoom}
use Rattle.room_model.specs.declared.saved.SavedRecord.{SavedRecord}
use Rattle.room_model.proofs.ActingLemmas.{differ, presence_apart, rising-accepted}
use Rattle.room_model.proofs.AcceptLemmas.{accepted_acts}
use Rattle.room_model.proofs.BaseLemmas.{rising-records}
use Rattle.room_model.proofs.CallLemmas.{member_of, pushed_by, step_keeps, TakenRises, push_rises, everywhere}
use Rattle.room_model.proofs.LookUpLemmas.{at-filter, rising-filter}
use Rattle.std.specs.Option.{option_and_then}
use Rattle.room_history.specs.Loads.{records_in}
use Rattle.room_history.proofs.FitLemmas.{Stands, stands, all_good, fit}
use Rattle.room_history.proofs.NextLemmas.{long}
use Rattle.room_history.proofs.StandLemmas.{grown, records_are, admitted_one, sums, ones}

-- a document is within the limits, and each of its records is admitted
pub record AreFit (schemas : Schemas) (m : Pairs) : Type 0 where
  pub within : nat_le (length m) MOST_RECORDS && nat_le (sum (map (λ p. weight p.1) m)) MOST_WEIGHT ≡ true
  pub admitted : (id : List ℕ) (d : Data) → value_at m id ≡ Some d → schemas.admits id d ≡ true

-- a room began at no later clock than it has, and its document is fit
pub record IsSound (schemas : Schemas) (room : Room) : Type 0 where
  pub began : room.first ≤ length room.history
  pub fits : AreFit schemas (doc schemas (records_of room.history))

none_some : {X Y : Type 0} (y : Y) → ◌≡◌ {A = Option Y} None (Some y) → X
none_some y is = let never = ap is_some is in absurd (cc)

pub cond_none : {X : Type 0} (b : Bool) → ◌≡◌ {A = Option X} (cond b None None) None
cond_none true = refl
cond_none false = refl

module _ (schemas : Schemas) where
  -- what an accepted operation leaves is admitted
  left_admitted : (id : List ℕ) (c : RecordOpTree) (r : Option Data) (d : Data) → acts_on schemas.admits id c r ≡ true → is_put_admitted schemas id c ≡ true → raw c r ≡ Some d → schemas.admits id d ≡ true
  left_admitted id (put x) r d acts fine is = ap (schemas.admits id) (sym (some_same x d is)) ∙ fine
  left_admitted id (patch p) r d acts fine is = sym (ap (λ o. option_map_or (schemas.admits id) o false) is) ∙ acts
  left_admitted id remove r d acts fine is = none_some d is

  at-doc : (m : Pairs) (q : List ℕ) → value_at (doc schemas m) q ≡ cond (schemas.is_document q) (value_at m q) None
  at-doc m q = at-filter schemas.is_document m q

  -- an accepted operation leaves the document fit
  one_fits : (m : Pairs) (id : List ℕ) (c : RecordOpTree) → is_accepted schemas m id c ≡ true → AreFit schemas (doc schemas m) → AreFit schemas (doc schemas (set_at m id (raw c (value_at m id))))
  one_fits m id c is fits =
      let r = raw c (value_at m id) in
      let next = set_at m id r in
      let acting = acts_on schemas.admits id c (value_at m id) in
      let fine : is_put_admitted schemas id c ≡ true = and_right acting _ (and_left _ _ is) in
      record {
        within = and_right (acting && is_put_admitted schemas id c) _ is;
        admitted = λ q d at.
            let found : cond (schemas.is_document q) (cond (ties q id) r (value_at m q)) None ≡ Some d = sym (at-doc next q ∙ ap (λ o. cond (schemas.is_document q) o None) (at-set_at m id q r)) ∙ at in
            elim (schemas.is_document q) as (λ b. schemas.is_document q ≡ b → cond b (cond (ties q id) r (value_at m q)) None ≡ Some d → schemas.admits q d ≡ true) [
              | false ↦ λ document no. none_some d no
              | true ↦ λ document some. (elim (ties q id) as (λ b. ties q id ≡ b → cond b r (value_at m q) ≡ Some d → schemas.admits q d ≡ true) [
                | true ↦ λ same now. subst (λ k. schemas.admits k d ≡ true) (sym (ties_same q id same)) (left_admitted id c (value_at m id) d (accepted_acts schemas m id c is) fine now)
                | false ↦ λ other before. fits.admitted q d (at-doc m q ∙ ap (λ b. cond b (value_at m q) None) document ∙ before)
              ] refl some)
            ] refl found;
      }

  -- so does what is accepted of a diff
  part_fits : (plan : Plan) (m : Pairs) (diff : RecordOps) → AreFit schemas (doc schemas m) → AreFit schemas (doc schemas (fold_raw m (accept_ops schemas plan m diff)))
  part_fits plan m [] fits = fits
  part_fits plan m (c ∷ diff) fits =
      let op = tried_op schemas plan c.1 (value_at m c.0) in
      let next = set_at m c.0 (raw op (value_at m c.0)) in
      elim (is_accepted schemas m c.0 op) as (λ b. is_accepted schemas m c.0 op ≡ b → AreFit schemas (doc schemas (fold_raw m (cond b ((c.0, op) ∷ accept_ops schemas plan next diff) (accept_ops schemas plan m diff))))) [
        | true ↦ λ is. part_fits plan next diff (one_fits m c.0 op is fits)
        | false ↦ λ is. part_fits plan m diff fits
      ] refl

  module _ (lawful : AreLawful schemas) where
    other : (n : ℕ) (q : List ℕ) → schemas.is_document q ≡ true → ties q (presence_id n) ≡ false
    other n q document =
        elim (ties q (presence_id n)) as (λ b. ties q (presence_id n) ≡ b → b ≡ false) [
          | false ↦ λ is. refl
          | true ↦ λ is. absurd (differ (sym (ap schemas.is_document (sym (ties_same q (presence_id n) is)) ∙ document) ∙ presence_apart schemas lawful n))
        ] refl

    beside : (n : ℕ) (part : RecordOps) (o : Option RecordOpTree) (q : List ℕ) → schemas.is_document q ≡ true → value_at (added part (presence_id n) o) q ≡ value_at part q
    beside n part None q document = refl
    beside n part (Some c) q document = at-with_key part (presence_id n) q c ∙ ap (λ b. cond b (Some c) (value_at part q)) (other n q document)

    -- what an entry says of a presence leaves the document
    same_document : (m : Pairs) (n : ℕ) (part : RecordOps) (o : Option RecordOpTree) → AreRising m → AreRising part → doc schemas (fold_raw m (added part (presence_id n) o)) ≡ doc schemas (fold_raw m part)
    same_document m n part o rising rises =
        let diff = added part (presence_id n) o in
        same_pairs _ _ (rising-filter schemas.is_document (fold_raw m diff) (rising-fold_raw diff m rising)) (rising-filter schemas.is_document (fold_raw m part) (rising-fold_raw part m rising)) (λ q.
        at-doc (fold_raw m diff) q
        ∙ elim (schemas.is_document q) as (λ b. schemas.is_document q ≡ b → cond b (value_at (fold_raw m diff) q) None ≡ cond b (value_at (fold_raw m part) q) None) [
          | false ↦ λ document. refl
          | true ↦ λ document.
              at-fold_raw diff m q (rising-added part (presence_id n) o rises)
              ∙ ap (λ c. raw_after c (value_at m q)) (beside n part o q document)
              ∙ sym (at-fold_raw part m q rises)
        ] refl
        ∙ sym (at-doc (fold_raw m part) q))

    push_fits : (room : Room) (n : ℕ) (s : Session) (plan : Plan) (push : Push) → AreRising push.diff → IsSound schemas room
        → IsSound schemas (record room { history = pushed_by schemas room n s plan push ∷ room.history })
    push_fits room n s plan push rises sound =
        let m = records_of room.history in
        let member = member_of n s plan in
        let o = option_and_then (presence_part schemas member m) push.presence in
        let began = sound.began in
        record {
          began = omega arith;
          fits = elim s.readonly as (λ b. let part = cond b [] (accept_ops schemas plan m push.diff) in AreFit schemas (doc schemas (fold_raw m (added part (presence_id n) o)))) [
            | true ↦ subst (AreFit schemas) (sym (same_document m n [] o (rising-records room.history) tt)) sound.fits
            | false ↦
                let part = accept_ops schemas plan m push.diff in
                subst (AreFit schemas) (sym (same_document m n part o (rising-records room.history) (rising-accepted schemas plan m push.diff rises))) (part_fits plan m push.diff sound.fits)
          ];
        }

    removal_fits : (room : Room) (n : ℕ) → IsSound schemas room → IsSound schemas (record room { history = removal n ∷ room.history })
    removal_fits room n sound =
        let m = records_of room.history in
        let began = sound.began in
        record {
          began = omega arith;
          fits = subst (AreFit schemas) (sym (same_document m n [] (Some remove) (rising-records room.history) tt)) sound.fits;
        }

    -- what calls keep
    pub reachable_sound : ((room : Room) → IsBeginning schemas room → IsSound schemas room) → (room : Room) → Reachable schemas room → IsSound schemas room
    reachable_sound begins room h =
        let P : Room → Type 0 = IsSound schemas in
        everywhere schemas P begins
        (λ o rises. step_keeps P (λ r n s t at on sound. record { began = sound.began; fits = sound.fits }) (λ r n is sound. removal_fits r n sound) schemas o
        (λ r readonly sound. record { began = sound.began; fits = sound.fits })
        (λ r n s sent plan said push some says at is taken sound. push_fits r n s plan push (push_rises said push says (subst TakenRises some rises)) sound))
        room h

two_false : (a b c : Bool) → a || b || c ≡ false → (a ≡ false) × (b ≡ false)
two_false true b c is = absurd (cc)
two_false false true c is = absurd (cc)
two_false false false c is = (refl, refl)

module _ (tree : SchemaTree) where
  module _ (last : ℕ) (saved : SavedRoom) (are : Stands (decided tree) (pos last) saved) where
    abbrev D : List SavedRecord
    D = saved.documents.items

    abbrev M : Pairs
    M = records_of (begun saved)

    -- the records of a room that begins are all of the document
    pub all_document : doc (decided tree) (records_of (begun saved)) ≡ records_of (begun saved)
    all_document = same_pairs _ _ (rising-filter (decided tree).is_document M (rising-records (begun saved))) (rising-records (begun saved)) (λ q.
        at-doc (decided tree) M q
        ∙ elim (value_at M q) as (λ o. value_at M q ≡ o → cond ((decided tree).is_document q) o None ≡ o) [
          | None ↦ λ at. cond_none ((decided tree).is_document q)
          | Some d ↦ λ at. ap (λ b. cond b (Some d) None) (and_left _ _ (admitted_one tree (pos last) saved are q d at))
        ] refl)

    begun_fits : AreFit (decided tree) (records_of (begun saved))
    begun_fits =
        let good = all_good (decided tree) (pos last) saved are in
        let fits = fit (decided tree) (pos last) saved are in
        let grown_count = grown tree (λ d. 1) length length_total [] D [] good fits.records_apart tt (λ q r at. refl) in
        let all_ones = ones D in
        let count : length (records_in saved) ≡ length D = omega arith in
        let grown_weight = grown tree weight (λ es. sum (map (λ p. weight p.1) es)) weight_total [] D [] good fits.records_apart tt (λ q r at. refl) in
        let all_weights = sums weight D in
        let nothing = weight_total.none in
        let heavy : sum (map (λ (p : List ℕ × Data). weight p.1) (records_in saved)) ≡ sum (map (λ r. weight (data_of r.record)) D) = omega arith in
        let whole = records_are tree (pos last) saved are in
        let few = two_false (nat_lt MOST_RECORDS (length D)) (nat_lt MOST_WEIGHT (sum (map (λ r. weight (data_of r.record)) D))) (nat_lt MOST_DEAD (length saved.tombstones.items)) are.size in
        let counted : length M ≡ length D = ap length (sym whole) ∙ count in
        let weighed : sum (map (λ (p : List ℕ × Data). weight p.1) M) ≡ sum (map (λ r. weight (data_of r.record)) D) = ap (λ (m : Pairs). sum (map (λ p. weight p.1) m)) (sym whole) ∙ heavy in
        let a : nat_le (length M) MOST_RECORDS ≡ true = let f = few.0 in grind (arith, nat_tests) in
        let b : nat_le (sum (map (λ (p : List ℕ × Data). weight p.1) M)) MOST_WEIGHT ≡ true = let f = few.1 in grind (arith, nat_tests) in
        record {
          within = and_true _ _ a b;
          admitted = λ id d at. and_right ((decided tree).is_document id) _ (admitted_one tree (pos last) saved are id d at);
        }

  beginning_sound : (room : Room) → IsBeginning (decided tree) room → IsSound (decided tree) room
  beginning_sound _ (anew last) = record { began = omega arith; fits = record { within = refl; admitted = λ id d at. none_some d at } }
  beginning_sound _ (loaded last saved fault) =
      let are = stands (decided tree) (pos last) saved fault in
      let fits = fit (decided tree) (pos last) saved are in
      let low = fits.start_low in
      let high = fits.start_high in
      let clock = long saved (nat_abs saved.clock) in
      record {
        began = omega (arith, ints);
        fits = subst (AreFit (decided tree)) (sym (all_document last saved are)) (begun_fits last saved are);
      }

  -- each room that calls make is sound
  pub sound : AreLawful (decided tree) → (room : Room) → Reachable (decided tree) room → IsSound (decided tree) room
  sound lawful = reachable_sound (decided tree) lawful beginning_sound
