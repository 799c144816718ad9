-- The rooms with which calls begin: what stands in the history of one that begins from a saved room.
use Rattle.std.proofs.Common.{◌≡◌, ℕ, zero, suc, Bool, true, false, ◌&&◌, ◌||◌, not, cond, List, [], ◌∷◌, fold, codes, nat_abs, ◌==◌, pos, slice_get, Option, Some, None, is_some, refl, sym, ap, subst, ◌∙◌}
use Rattle.std.specs.List.{list_all}
use Rattle.std.specs.Option.{option_map_or, option_or}
use Rattle.rooms_val.specs.Data.{Pairs}
use Rattle.rooms_val.specs.Maps.{value_at, set_at, ties, with_key, AreRising}
use Rattle.rooms_val.specs.View.{data_of}
use Rattle.rooms_val.proofs.MapsLemmas.{rising-with_key, at-set_at, ties_same}
use Rattle.field_ops.specs.RecordOps.{RecordOpTree, RecordOps, put, remove}
use Rattle.field_ops.specs.Patched.{raw}
use Rattle.doc_model.specs.Documents.{fold_raw}
use Rattle.room_model.specs.Schemas.{Schemas, AreLawful, presence_id}
use Rattle.room_model.specs.Histories.{records_of}
use Rattle.room_model.specs.Acting.{is_sure, IsActing, AllActing}
use Rattle.room_model.specs.Naming.{AllNamed}
use Rattle.room_model.specs.Reachable.{IsBeginning, anew, loaded, ArePresencesOwned, AreSentNear}
use Rattle.room_model.specs.Rooms.{Room, is_present}
use Rattle.room_model.specs.Saves.{own_id, with_record, with_tomb, diff_at, begun_to, is_among, are_clocks, is_admitted_as, unfit_record, unfit_tomb, unfit, load_fault}
use Rattle.room_model.specs.declared.load_fault.LoadFault.{LoadFault}
use Rattle.room_model.specs.declared.load_fault.LoadFault.TheVariants.{Clocks, BadRecord}
use Rattle.room_model.specs.declared.saved.SavedRecord.{SavedRecord}
use Rattle.room_model.specs.declared.saved.SavedRoom.{SavedRoom}
use Rattle.room_model.specs.declared.saved.SavedTomb.{SavedTomb}
use Rattle.room_model.proofs.ActingLemmas.{differ, all-with_key, all-imp, presence_apart}
use Rattle.rooms_val.proofs.Truths.{and_left, and_right, and_true, or_left}

-- where a test that leaves nothing else must have held
test_held : {X : Type 0} (b : Bool) (o : Option X) (x : X) → cond b o (Some x) ≡ None → (b ≡ true) × (o ≡ None)
test_held true o x is = (refl, is)
test_held false o x is = absurd (cc)

neither : {X : Type 0} (a b : Option X) → option_or a b ≡ None → (a ≡ None) × (b ≡ None)
neither None b is = (refl, is)
neither (Some x) b is = absurd (cc)

rising-records : (n : ℕ) (saved : List SavedRecord) (es : RecordOps) → AreRising es → AreRising (fold (with_record n) es saved)
rising-records n [] es rising = rising
rising-records n (saved ∷ more) es rising =
    rising-records n more (with_record n es saved)
    (elim (nat_abs saved.clock == n) as (λ b. AreRising (cond b (option_map_or (λ id. with_key es id (put (data_of saved.record))) (own_id saved) es) es)) [
      | true ↦ elim (own_id saved) as (λ o. AreRising (option_map_or (λ id. with_key es id (put (data_of saved.record))) o es)) [ None ↦ rising | Some id ↦ rising-with_key es id (put (data_of saved.record)) rising ]
      | false ↦ rising
    ])

rising-tombs : (n : ℕ) (saved : List SavedTomb) (es : RecordOps) → AreRising es → AreRising (fold (with_tomb n) es saved)
rising-tombs n [] es rising = rising
rising-tombs n (tomb ∷ more) es rising =
    rising-tombs n more (with_tomb n es tomb)
    (elim (nat_abs tomb.clock == n) as (λ b. AreRising (cond b (with_key es tomb.id remove) es)) [ true ↦ rising-with_key es tomb.id remove rising | false ↦ rising ])

pub rising-diff : (saved : SavedRoom) (n : ℕ) → AreRising (diff_at saved n)
rising-diff saved n = rising-tombs n saved.tombstones.items _ (rising-records n saved.documents.items [] tt)

module _ (schemas : Schemas) where
  -- a saved record says an id of the document
  abbrev says_document : SavedRecord → Bool
  says_document saved = option_map_or schemas.is_document (own_id saved) false

  abbrev Admitted : List (List ℕ) → List SavedRecord → SavedRecord → Option (List ℕ) → Type 0
  Admitted earlier more saved o =
      option_map_or (λ id. cond (is_admitted_as schemas saved id && not (is_among earlier id)) (unfit_record schemas (id ∷ earlier) more) (Some id)) o (Some (codes "-")) ≡ None

  records_say : (earlier : List (List ℕ)) (saved : List SavedRecord) → unfit_record schemas earlier saved ≡ None → list_all says_document saved ≡ true
  records_say earlier [] fit = refl
  records_say earlier (saved ∷ more) fit =
      elim (own_id saved) as (λ o. Admitted earlier more saved o → option_map_or schemas.is_document o false && list_all says_document more ≡ true) [
        | None ↦ λ none. absurd (cc)
        | Some id ↦ λ some.
            let h = test_held _ _ id some in
            and_true _ _ (and_left _ _ (and_left _ _ h.0)) (records_say (id ∷ earlier) more h.1)
      ] fit

  tombs_say : (earlier : List (List ℕ)) (saved : List SavedTomb) → unfit_tomb schemas earlier saved ≡ None → list_all (λ t. schemas.is_document t.id) saved ≡ true
  tombs_say earlier [] fit = refl
  tombs_say earlier (tomb ∷ more) fit = let h = test_held _ _ tomb.id fit in and_true _ _ (and_left _ _ h.0) (tombs_say (tomb.id ∷ earlier) more h.1)

  fits_none : (b : Bool) (o : Option (List ℕ)) (large : Option LoadFault) → cond b (Some Clocks) (option_map_or (λ id. Some (BadRecord id)) o large) ≡ None → o ≡ None
  fits_none true o large is = absurd (cc)
  fits_none false None large is = refl
  fits_none false (Some id) large is = absurd (cc)

  module _ (saved : SavedRoom) where
    -- each saved record and each removed id is of the document
    record AreOfDocument : Type 0 where
      records : list_all says_document saved.documents.items ≡ true
      tombs : list_all (λ t. schemas.is_document t.id) saved.tombstones.items ≡ true

    of_document : (last : ℕ) → load_fault schemas (pos last) saved ≡ None → AreOfDocument
    of_document last fits =
        let h = neither (unfit_record schemas [] saved.documents.items) _ (fits_none (not (are_clocks (pos last) saved)) (unfit schemas saved) _ fits) in
        record { records = records_say [] saved.documents.items h.0; tombs = tombs_say _ saved.tombstones.items h.1 }

  -- a test that a put and a remove of each id of the document pass
  record Passes (test : List ℕ × RecordOpTree → Bool) : Type 0 where
    puts : (id : List ℕ) (saved : SavedRecord) → schemas.is_document id ≡ true → test (id, put (data_of saved.record)) ≡ true
    removes : (id : List ℕ) → schemas.is_document id ≡ true → test (id, remove) ≡ true

  module _ (test : List ℕ × RecordOpTree → Bool) (passes : Passes test) (n : ℕ) where
    with_one : (es : RecordOps) (saved : SavedRecord) → says_document saved ≡ true → list_all test es ≡ true → list_all test (with_record n es saved) ≡ true
    with_one es saved says all =
        elim (nat_abs saved.clock == n) as (λ b. list_all test (cond b (option_map_or (λ id. with_key es id (put (data_of saved.record))) (own_id saved) es) es) ≡ true) [
          | true ↦
              elim (own_id saved) as (λ o. option_map_or schemas.is_document o false ≡ true → list_all test (option_map_or (λ id. with_key es id (put (data_of saved.record))) o es) ≡ true) [
                | None ↦ λ no. all
                | Some id ↦ λ is. all-with_key test es id (put (data_of saved.record)) all (passes.puts id saved is)
              ] says
          | false ↦ all
        ]

    with_records : (saved : List SavedRecord) (es : RecordOps) → list_all says_document saved ≡ true → list_all test es ≡ true → list_all test (fold (with_record n) es saved) ≡ true
    with_records [] es say all = all
    with_records (saved ∷ more) es say all = with_records more (with_record n es saved) (and_right _ _ say) (with_one es saved (and_left _ _ say) all)

    with_tombs : (saved : List SavedTomb) (es : RecordOps) → list_all (λ t. schemas.is_document t.id) saved ≡ true → list_all test es ≡ true → list_all test (fold (with_tomb n) es saved) ≡ true
    with_tombs [] es say all = all
    with_tombs (tomb ∷ more) es say all =
        with_tombs more (with_tomb n es tomb) (and_right _ _ say)
        (elim (nat_abs tomb.clock == n) as (λ b. list_all test (cond b (with_key es tomb.id remove) es) ≡ true) [ true ↦ all-with_key test es tomb.id remove all (passes.removes tomb.id (and_left _ _ say)) | false ↦ all ])

    diff_all : (saved : SavedRoom) → AreOfDocument saved → list_all test (diff_at saved n) ≡ true
    diff_all saved h = with_tombs saved.tombstones.items _ h.tombs (with_records saved.documents.items [] h.records refl)

  module _ (saved : SavedRoom) (h : AreOfDocument saved) where
    documents : (n : ℕ) → list_all (λ c. schemas.is_document c.0) (diff_at saved n) ≡ true
    documents n = diff_all (λ c. schemas.is_document c.0) (record { puts = λ id r is. is; removes = λ id is. is }) n saved h

    acts : (m : Pairs) (n : ℕ) → IsActing schemas m (record { diff = diff_at saved n; author = None })
    acts m n = record {
      rising = rising-diff saved n;
      acting = diff_all (λ c. is_sure schemas c.0 c.1 (value_at m c.0)) (record { puts = λ id r is. refl; removes = λ id is. refl }) n saved h;
      scoped = all-imp (λ c. schemas.is_document c.0) (λ c. schemas.is_document c.0 || schemas.is_presence c.0) (λ c is. or_left _ _ is) (diff_at saved n) (documents n);
      own = λ author by. absurd (cc);
      action = λ author by. absurd (cc);
    }

    all_act : (n : ℕ) → AllActing schemas (begun_to saved n)
    all_act zero = tt
    all_act (suc n) = (acts (records_of (begun_to saved n)) (suc n), all_act n)

    -- a record is there after a diff of the document that was there before, if it isn't the document's
    was_there : (id : List ℕ) (diff : RecordOps) (m : Pairs) → schemas.is_document id ≡ false → list_all (λ c. schemas.is_document c.0) diff ≡ true
        → is_some (value_at (fold_raw m diff) id) ≡ true → is_some (value_at m id) ≡ true
    was_there id [] m scope all there = there
    was_there id (c ∷ diff) m scope all there =
        let done = raw c.1 (value_at m c.0) in
        elim (ties id c.0) as (λ b. ties id c.0 ≡ b → is_some (cond b done (value_at m id)) ≡ true → is_some (value_at m id) ≡ true) [
          | true ↦ λ is some. absurd (differ (sym (and_left _ _ all) ∙ (ap schemas.is_document (sym (ties_same id c.0 is)) ∙ scope)))
          | false ↦ λ is some. some
        ] refl (sym (ap is_some (at-set_at m c.0 id done)) ∙ was_there id diff (set_at m c.0 done) scope (and_right _ _ all) there)

    none_there : (id : List ℕ) (n : ℕ) → schemas.is_document id ≡ false → is_some (value_at (records_of (begun_to saved n)) id) ≡ true → ⊥
    none_there id zero scope there = differ (sym there)
    none_there id (suc n) scope there = none_there id n scope (was_there id (diff_at saved (suc n)) (records_of (begun_to saved n)) scope (documents (suc n)) there)

  all_named : (saved : SavedRoom) (n : ℕ) → AllNamed schemas [] (begun_to saved n)
  all_named saved zero = tt
  all_named saved (suc n) = (λ author by. absurd (cc), all_named saved n)

  -- nobody has entered
  pub nobody_there : (room : Room) → IsBeginning schemas room → room.sessions ≡ []
  nobody_there _ (anew last) = refl
  nobody_there _ (loaded last saved fits) = refl

  pub beginning_acts : (room : Room) → IsBeginning schemas room → AllActing schemas room.history
  beginning_acts _ (anew last) = tt
  beginning_acts _ (loaded last saved fits) = all_act saved (of_document saved last fits) (nat_abs saved.clock)

  pub beginning_named : (room : Room) → IsBeginning schemas room → AllNamed schemas room.sessions room.history
  beginning_named _ (anew last) = tt
  beginning_named _ (loaded last saved fits) = all_named saved (nat_abs saved.clock)

  pub beginning_owned : (room : Room) → IsBeginning schemas room → ArePresencesOwned schemas room
  beginning_owned _ (anew last) id scope there = absurd (differ (sym there))
  beginning_owned _ (loaded last saved fits) id scope there = absurd (none_there saved (of_document saved last fits) id (nat_abs saved.clock) scope there)

  pub beginning_near : (room : Room) → IsBeginning schemas room → AreSentNear room
  beginning_near _ (anew last) = λ number s at. absurd (cc)
  beginning_near _ (loaded last saved fits) = λ number s at. absurd (cc)

  -- no session is present
  pub nobody_present : AreLawful schemas → (room : Room) → IsBeginning schemas room → (number : ℕ) → is_present number room ≡ true → ⊥
  nobody_present lawful room beginning number present =
      let owner = beginning_owned room beginning (presence_id number) (presence_apart schemas lawful number) present in
      let none : slice_get room.sessions owner.number ≡ None = ap (λ l. slice_get l owner.number) (nobody_there room beginning) in
      let never = ap is_some (sym none ∙ owner.at) in
      absurd (cc)
