-- A text is written of each saved room and what goes on from it.
use Rattle.std.proofs.Common.{◌≡◌, ℕ, zero, suc, ◌+◌, ◌<◌, ◌≤◌, ◌^◌, ◌⊎◌, inl, inr, ℤ, pos, nat_lt, Bool, true, false, not, cond, List, [], ◌∷◌, ◌++◌, length, map as each, codes, fold, if◌then◌else◌, IsTrue, IfErr, MatchOption, Option, Some, None, Result, Ok, Err, refl, sym, ap, subst, ◌∙◌, arith, append_assoc}
use Rattle.std.specs.Global.{Vec, Global}
use Rattle.std.specs.Option.{option_map_or}
use Rattle.std.specs.Ptr.{null_ptr}
use Rattle.std.specs.Result.{result_map_both}
use Rattle.std.specs.Prelude.{find}
use Rattle.std.specs.Str.{bytes_eq}
use Rattle.std.proofs.lemmas.Bool.{cases_lt}
use Rattle.std.proofs.lemmas.List.{append-nil, length-map}
use Rattle.serde_json.specs.Read.{read}
use Rattle.rooms_val.specs.Data as data'
use Rattle.rooms_val.specs.Data.{Data, Pairs, null, pairs_of, members_of, list_of, items_of}
use Rattle.rooms_val.specs.Json.{value_of}
use Rattle.rooms_val.specs.Maps.{AreRising, seen, with_key}
use Rattle.rooms_val.specs.View.{val_of}
use Rattle.rooms_val.specs.declared.fault.ValFault.{ValFault}
use Rattle.rooms_val.proofs.DataLemmas.{pairs_of-members_of, list_of-items_of}
use Rattle.rooms_val.proofs.MapsLemmas.{rising-with_key}
use Rattle.fault_texts.specs.Texts.{plan_fault_text, load_fault_text, bad_record_text}
use Rattle.migrate_seq.specs.Order.{first_some}
use Rattle.migrate_seq.specs.Plans.{migrations_at, plan_of, version_fault, first_fault}
use Rattle.migrate_steps.specs.Records.{migrated, raised_map}
use Rattle.migrate_seq.specs.Versions.{Versions, versions_in, numbers_of, schema_of}
use Rattle.migrate_seq.specs.declared.fault.PlanFault.{PlanFault}
use Rattle.migrate_seq.specs.declared.fault.PlanFault.TheVariants as plan
use Rattle.migrate_steps.specs.declared.migration.Migration.{Migration}
use Rattle.migrate_steps.specs.declared.migration.Sequence.{Sequence}
use Rattle.migrate_seq.specs.declared.place.Place.{Place}
use Rattle.migrate_steps.specs.declared.step.Way.TheVariants.{Up}
use Rattle.migrate_seq.proofs.Numbers.{versions_in-numbers_of}
use Rattle.peer_schemas.specs.Clients.{schemas_of}
use Rattle.rec_format.specs.declared.read.TheConstants as format
use Rattle.recording_lines.specs.Lines.{is_whole}
use Rattle.replay_job.specs.Replay.{Written}
use Rattle.replay_job.specs.Texts.{fault_line, unended_text}
use Rattle.replay_job.proofs.DecideLemmas.{decide_same}
use Rattle.replay_job.proofs.EveryTextLemmas.{FromTables, written}
use Rattle.replay_job.proofs.LineLemmas.{ValHasText, val_texts, found_header}
use Rattle.replay_job.proofs.SchemaLemmas.{schema_found}
use Rattle.room_model.specs.Saves.{are_clocks, unfit, is_too_large, begun_room, load_fault}
use Rattle.room_model.specs.Schemas.{Schemas}
use Rattle.room_model.specs.declared.limits.TheConstants.{LAST_CLOCK}
use Rattle.room_model.specs.declared.load_fault.LoadFault.{LoadFault}
use Rattle.room_model.specs.declared.load_fault.LoadFault.TheVariants as load
use Rattle.room_model.specs.declared.saved.SavedRecord.{SavedRecord}
use Rattle.room_model.specs.declared.saved.SavedRoom.{SavedRoom}
use Rattle.room_model.specs.declared.saved.SavedTomb.{SavedTomb}
use Rattle.room_schemas.specs.Decided.{decided}
use Rattle.room_snapshot.specs.Ids.{id_in, has_id, HaveIds, IsFirstFault, by_id, with_record}
use Rattle.room_snapshot.specs.Lines.{document_val, tombs_by_id, line_val}
use Rattle.room_snapshot.specs.Raised.{all_at, next_clock, raised_by, raised}
use Rattle.room_snapshot.specs.Readings.{IsLine, RefusesLine}
use Rattle.room_snapshot.specs.Saved.{SavedTree, saved_tree, Documents, Tombs, documents_view, tombs_view, records_of}
use Rattle.room_snapshot.specs.declared.fault.SnapFault.{SnapFault}
use Rattle.room_snapshot.specs.declared.fault.SnapFault.TheVariants as snap
use Rattle.room_snapshot.specs.declared.snapshot.TheConstants as snapshot
use Rattle.room_snapshot.proofs.IdLemmas.{ids_more}
use Rattle.room_snapshot.proofs.TombLemmas.{tombs_by_id-rising}
use Rattle.schema_core.specs.Tree.{SchemaTree}
use Rattle.tl_tables.specs.Tables.{IsVersion, IsSchemaAt}
use Rattle.fault_texts.specs.Texts.{snap_fault_text}
use Rattle.snapshot_jobs.specs.Restoring.{Beginning, refused_at, begins, SavedLine, IsUnfit, Loads, TakesHeader, TakesSaved, WritesOn, Restores, saved_lines}
use Rattle.snapshot_jobs.specs.Seeking.{First, found, nothing, first_line}
use Rattle.snapshot_jobs.proofs.PartLemmas.{val_parts, val_items, val_members, read_few}
use Rattle.saved_laws.proofs.LoadLemmas.{data_again}
use Rattle.saved_laws.proofs.SavedLemmas.{length-with_key}
use Rattle.world_views.specs.Views.{nobody_viewing}
use Rattle.room_model.specs.Worlds.{world_over}

-- ---- a line is that of a saved room, or is refused

abbrev pairs_in : Data → Pairs
pairs_in (data'.map ms) = pairs_of ms
pairs_in d = []

abbrev items_in : Data → List Data
items_in (data'.list ds) = list_of ds
items_in d = []

abbrev value_in_place : ℕ → Pairs → Data
value_in_place n [] = null
value_in_place zero (p ∷ ps) = p.1
value_in_place (suc n) (p ∷ ps) = value_in_place n ps

abbrev whole_in : Data → ℤ
whole_in (data'.whole z) = z
whole_in d = pos 0

abbrev document_in : Data → Data × ℤ
document_in d = (value_in_place 1 (pairs_in d), whole_in (value_in_place 0 (pairs_in d)))

-- the saved room of a value and the versions of its schema, where it is that of one
abbrev saved_in : Data → SavedTree
saved_in d =
    let ps = pairs_in d in
    record {
      clock = whole_in (value_in_place 0 ps);
      start = whole_in (value_in_place 3 ps);
      documents = each document_in (items_in (value_in_place 1 ps));
      tombstones = tombs_by_id (seen whole_in (pairs_in (value_in_place 4 ps)));
    }

abbrev held_in : Data → Versions
held_in d = versions_in (pairs_in (value_in_place 1 (pairs_in (value_in_place 2 (pairs_in d)))))

documents_again : (ds : Documents) → each document_in (each document_val ds) ≡ ds
documents_again [] = refl
documents_again (d ∷ ds) = ap (λ l. d ∷ l) (documents_again ds)

tombs_again : (ts : Tombs) → seen whole_in (seen data'.whole ts) ≡ ts
tombs_again [] = refl
tombs_again (t ∷ ts) = ap (λ l. t ∷ l) (tombs_again ts)

rising-onto : (ts done : Tombs) → AreRising done → AreRising (fold (λ m t. with_key m t.0 t.1) done ts)
rising-onto [] done rising = rising
rising-onto (t ∷ ts) done rising = rising-onto ts (with_key done t.0 t.1) (rising-with_key done t.0 t.1 rising)

rising-by_id : (ts : Tombs) → AreRising (tombs_by_id ts)
rising-by_id ts = rising-onto ts [] tt

-- what stands for a saved room stands for the one that is found in it
line_again : (s : SavedTree) (held : Versions) → line_val (saved_in (line_val s held)) (held_in (line_val s held)) ≡ line_val s held
line_again s held =
    let documents : each document_in (list_of (items_of (each document_val s.documents))) ≡ s.documents = ap (each document_in) (list_of-items_of (each document_val s.documents)) ∙ documents_again s.documents in
    let tombs : tombs_by_id (seen whole_in (pairs_of (members_of (seen data'.whole (tombs_by_id s.tombstones))))) ≡ tombs_by_id s.tombstones =
    ap (λ ps. tombs_by_id (seen whole_in ps)) (pairs_of-members_of (seen data'.whole (tombs_by_id s.tombstones)))
    ∙ ap tombs_by_id (tombs_again (tombs_by_id s.tombstones)) ∙ tombs_by_id-rising (tombs_by_id s.tombstones) (rising-by_id s.tombstones) in
    let versions : versions_in (pairs_of (members_of (numbers_of held))) ≡ held = ap versions_in (pairs_of-members_of (numbers_of held)) ∙ versions_in-numbers_of held in
    (λ i. line_val (record { clock = s.clock; start = s.start; documents = documents i; tombstones = tombs i }) (versions i))
    ∙ by_tombs s held (tombs_by_id s.tombstones) (tombs_by_id-rising (tombs_by_id s.tombstones) (rising-by_id s.tombstones))
  where
    by_tombs : (s : SavedTree) (held : Versions) (ts : Tombs) → tombs_by_id ts ≡ tombs_by_id s.tombstones → line_val (record { clock = s.clock; start = s.start; documents = s.documents; tombstones = ts }) held ≡ line_val s held
    by_tombs s held ts same =
        λ i. data'.map (members_of ((codes "clock", data'.whole s.clock) ∷ (codes "documents", data'.list (items_of (each document_val s.documents))) ∷ (codes "schema", schema_of held)
        ∷ (codes "tombstoneHistoryStartsAtClock", data'.whole s.start) ∷ (codes "tombstones", data'.map (members_of (seen data'.whole (same i)))) ∷ []))

-- a line is that of a saved room, or is refused with a text
abbrev IsSavedLine : List ℕ → Type 0
IsSavedLine line = (saved : SavedTree) × (held : Versions) × IsLine line saved held

abbrev IsRefusedLine : List ℕ → Type 0
IsRefusedLine line = (fault : SnapFault) × (text : List ℕ) × RefusesLine line fault × (snap_fault_text fault ≡ Some text)

found_saved : (line : List ℕ) → IsSavedLine line ⊎ IsRefusedLine line
found_saved line = elim (cases_lt snapshot.LONGEST_LINE (length line)) [ inl far ↦ inr (snap.LineTooLong, _, far, refl) | inr short ↦ by short (value_of line) refl (val_texts line) ]
  where
    by : length line ≤ snapshot.LONGEST_LINE → (r : Result Data ValFault) → value_of line ≡ r → IfErr r ValHasText → IsSavedLine line ⊎ IsRefusedLine line
    by short (Err f) is has = inr (snap.Val f, has.0, (short, is), has.1)
    by short (Ok d) is has = elim (decide_same d (line_val (saved_in d) (held_in d))) [
      | inl same ↦ inl (saved_in d, held_in d, record { short = short; value = is ∙ ap Ok same; rising = rising-by_id (seen whole_in (pairs_in (value_in_place 4 (pairs_in d)))) })
      | inr none ↦ inr (snap.Shape, _, (short, d, is, (λ s held same. none (same ∙ sym (line_again s held) ∙ ap (λ x. line_val (saved_in x) (held_in x)) (sym same)))), refl)
    ]

-- ---- it has as few records and removed ids as a `Vec` may have

part_there : (d : Data) → 1 ≤ val_parts d
part_there data'.null = omega arith
part_there (data'.boolean b) = omega arith
part_there (data'.whole z) = omega arith
part_there (data'.text s) = omega arith
part_there (data'.list ds) = omega arith
part_there (data'.map ms) = omega arith

items_long : (ds : List Data) → length ds ≤ val_items (items_of ds)
items_long [] = omega arith
items_long (d ∷ ds) = let a = part_there d in let b = items_long ds in omega arith

members_long : (ps : Pairs) → length ps ≤ val_members (members_of ps)
members_long [] = omega arith
members_long (p ∷ ps) = let a = part_there p.1 in let b = members_long ps in omega arith

abbrev IsFew : SavedTree → Type 0
IsFew saved = (length saved.documents < 2 ^ 63) × (length saved.tombstones < 2 ^ 63)

few_in_line : (line : List ℕ) (saved : SavedTree) (held : Versions) → IsLine line saved held → IsFew saved
few_in_line line saved held is =
    let all : suc (1 + (suc (val_items (items_of (each document_val saved.documents))) + (val_parts (schema_of held) + (1 + (suc (val_members (members_of (seen data'.whole (tombs_by_id saved.tombstones)))) + 0))))) ≤ suc (length line) =
    read_few line (line_val saved held) is.value in
    let short = is.short in
    let documents = items_long (each document_val saved.documents) in
    let documents_same = length-map saved.documents document_val in
    let tombs = members_long (seen data'.whole (tombs_by_id saved.tombstones)) in
    let pair : List ℕ × ℤ → List ℕ × Data = λ t. (t.0, data'.whole t.1) in
    let tombs_same : length (seen data'.whole (tombs_by_id saved.tombstones)) ≡ length (tombs_by_id saved.tombstones) = length-map (tombs_by_id saved.tombstones) pair in
    let rising = ap length (tombs_by_id-rising saved.tombstones is.rising) in
    (omega arith, omega arith)

length-with_record : (m : Pairs) (d : Data) → length (with_record m d) ≤ suc (length m)
length-with_record m d = by (id_in d)
  where
    by : (o : Option (List ℕ)) → length (option_map_or (λ id. with_key m id d) o m) ≤ suc (length m)
    by None = omega arith
    by (Some id) = length-with_key m id d

length-onto : (ds : List Data) (m : Pairs) → length (fold with_record m ds) ≤ length m + length ds
length-onto [] m = omega arith
length-onto (d ∷ ds) m = let a = length-with_record m d in let b = length-onto ds (with_record m d) in omega arith

length-raised : (ms : List Migration) (ps : Pairs) → length (raised_map ms ps) ≡ length ps
length-raised [] ps = refl
length-raised (m ∷ ms) ps = let pair : List ℕ × Data → List ℕ × Data = λ e. (e.0, migrated Up m e.1) in length-raised ms (seen (migrated Up m) ps) ∙ length-map ps pair

few_raised : (seqs : List Sequence) (saved : SavedTree) (places : List Place) → IsFew saved → IsFew (raised_by seqs saved places)
few_raised seqs saved [] few = few
few_raised seqs saved (p ∷ places) few =
    let ms = migrations_at seqs (p ∷ places) in
    let known = by_id (records_of saved.documents) in
    let a = length-onto (records_of saved.documents) [] in
    let b = length-map saved.documents (λ (d : Data × ℤ). d.0) in
    let c = length-raised ms known in
    let pair : List ℕ × Data → Data × ℤ = λ e. (e.1, next_clock saved) in
    let d : length (all_at (next_clock saved) (raised_map ms known)) ≡ length (raised_map ms known) = length-map (raised_map ms known) pair in
    let e = few.0 in
    (omega arith, few.1)

abbrev record_of : Data × ℤ → SavedRecord
record_of d = record { «record» = val_of d.0; clock = d.1 }

abbrev tomb_of : List ℕ × ℤ → SavedTomb
tomb_of t = record { id = t.0; clock = t.1 }

records_seen : (ds : Documents) → documents_view (each record_of ds) ≡ ds
records_seen [] = refl
records_seen (d ∷ ds) = λ i. (data_again d.0 i, d.1) ∷ records_seen ds i

tombs_seen : (ts : Tombs) → tombs_view (each tomb_of ts) ≡ ts
tombs_seen [] = refl
tombs_seen (t ∷ ts) = ap (λ l. t ∷ l) (tombs_seen ts)

abbrev heap : Global
heap = record { memory = record { seal = tt } }

abbrev vec : {X : Type 0} (xs : List X) → length xs < 2 ^ 63 → Vec X
vec xs few = record { ptr = null_ptr; len = length xs; cap = length xs; alloc = heap; items = xs; ok = (refl, omega arith); small = few }

-- a saved room stands for each such one
room_found : (t : SavedTree) → IsFew t → (room : SavedRoom) × (saved_tree room ≡ t)
room_found t few =
    let a = length-map t.documents record_of in
    let b = length-map t.tombstones tomb_of in
    let c = few.0 in
    let d = few.1 in
    let documents : length (each record_of t.documents) < 2 ^ 63 = omega arith in
    let tombs : length (each tomb_of t.tombstones) < 2 ^ 63 = omega arith in (
      record { clock = t.clock; start = t.start; documents = vec (each record_of t.documents) documents; tombstones = vec (each tomb_of t.tombstones) tombs },
      λ i. record { clock = t.clock; start = t.start; documents = records_seen t.documents i; tombstones = tombs_seen t.tombstones i },
    )

-- ---- its records have ids of their own, or one is the first that hasn't

abbrev IdsFound : List Data → Type 0
IdsFound ds = HaveIds ds ⊎ ((id : List ℕ) × IsFirstFault ds id)

ids_from : (before : List Data) (d : Data) (ds : List Data) → HaveIds before → ((next : List Data) → HaveIds next → IdsFound (next ++ ds)) → IdsFound (before ++ d ∷ ds)
ids_from before d ds have more = by (id_in d) refl
  where
    known : (id : List ℕ) → id_in d ≡ Some id → (b : Bool) → has_id before id ≡ b → IdsFound (before ++ d ∷ ds)
    known id is true stood = inr (id, record { before = before; bad = d; after = ds; split = refl; fine = have; fault = subst (λ o. MatchOption o (id ≡ codes "-") (λ own. (id ≡ own) × IsTrue (has_id before own))) (sym is) (refl, stood) })
    known id is false new = subst IdsFound (append_assoc before (d ∷ []) ds) (more (before ++ d ∷ []) (ids_more before d id have is new))

    by : (o : Option (List ℕ)) → id_in d ≡ o → IdsFound (before ++ d ∷ ds)
    by None is = inr (codes "-", record { before = before; bad = d; after = ds; split = refl; fine = have; fault = subst (λ o. MatchOption o (codes "-" ≡ codes "-") (λ own. (codes "-" ≡ own) × IsTrue (has_id before own))) (sym is) refl })
    by (Some id) is = known id is (has_id before id) refl

ids_walked : (after before : List Data) → HaveIds before → IdsFound (before ++ after)
ids_walked [] before have = inl (subst HaveIds (sym (append-nil before)) have)
ids_walked (d ∷ ds) before have = ids_from before d ds have (λ next h. ids_walked ds next h)

-- ---- why it can't be brought to a schema, or loaded, has a text

abbrev PlanHasText : PlanFault → Type 0
PlanHasText f = (text : List ℕ) × (plan_fault_text f ≡ Some text)

abbrev IfFault : {F : Type 0} → (F → Type 0) → Option F → Type 0
IfFault P None = Unit {0}
IfFault P (Some f) = P f

version_said : (seqs : List Sequence) (v : List ℕ × ℕ) → IfFault PlanHasText (version_fault seqs v)
version_said seqs v = by (find (λ (s : Sequence). bytes_eq s.id v.0) seqs)
  where
    new : (b : Bool) → IfFault PlanHasText (cond b (Some (plan.TooNew v.0)) None)
    new true = (_, refl)
    new false = tt

    by : (o : Option Sequence) → IfFault PlanHasText (option_map_or (λ (s : Sequence). cond (nat_lt (length s.migrations.items) v.1) (Some (plan.TooNew v.0)) None) o (Some (plan.UnknownSequence v.0)))
    by None = (_, refl)
    by (Some s) = new (nat_lt (length s.migrations.items) v.1)

first_said : (seqs : List Sequence) (held : Versions) → IfFault PlanHasText (first_fault seqs held)
first_said seqs [] = tt
first_said seqs (v ∷ held) = by (version_fault seqs v) (version_said seqs v) (first_said seqs held)
  where
    by : (o : Option PlanFault) → IfFault PlanHasText o → IfFault PlanHasText (first_some (version_fault seqs) held) → IfFault PlanHasText (option_map_or Some o (first_some (version_fault seqs) held))
    by None h rest = rest
    by (Some f) h rest = h

abbrev LoadHasText : LoadFault → Type 0
LoadHasText f = (text : List ℕ) × (load_fault_text f ≡ Some text)

load_said : (schemas : Schemas) (last : ℤ) (room : SavedRoom) → IfFault LoadHasText (load_fault schemas last room)
load_said schemas last room = by (are_clocks last room) (unfit schemas room) (is_too_large room)
  where
    by : (clocks : Bool) (o : Option (List ℕ)) (large : Bool) → IfFault LoadHasText (cond (not clocks) (Some load.Clocks) (option_map_or (λ id. Some (load.BadRecord id)) o (cond large (Some load.TooLarge) None)))
    by false o large = (_, refl)
    by true (Some id) large = (_, refl)
    by true None true = (_, refl)
    by true None false = tt

-- ---- how what is read begins

-- where events go on, the tables decide
abbrev IfBegins : Beginning → Type 0
IfBegins (refused_at at text) = Unit {0}
IfBegins (begins rest) = FromTables rest.progress

module _ (whole : Bool) where
  abbrev LoadsFound : SavedLine → ℕ → ℕ → List (List ℕ) → Type 0
  LoadsFound from version at lines = (b : Beginning) × Loads from version whole at lines b × IfBegins b

  module _ (from : SavedLine) (few : IsFew from.saved) (version at : ℕ) (lines : List (List ℕ)) (known : IsVersion version) (schema : SchemaTree) (is_at : IsSchemaAt version schema) where
    unfit_found : (text : List ℕ) → IsUnfit schema from.saved from.held text → LoadsFound from version at lines
    unfit_found text is = (refused_at from.at text, (schema, is_at, inl (text, is, refl)), tt)

    of_room : (room : SavedRoom) → HaveIds (records_of from.saved.documents) → raised schema.sequences from.held from.saved ≡ Ok (saved_tree room)
        → (o : Option LoadFault) → load_fault (decided schema) (pos LAST_CLOCK) room ≡ o → IfFault LoadHasText o → LoadsFound from version at lines
    of_room room ids is (Some f) fault has = unfit_found has.0 (inr (inr (room, f, ids, is, fault, has.1)))
    of_room room ids is None fine has = (
      begins (record { progress = Some (schemas_of schema, nobody_viewing (world_over (begun_room LAST_CLOCK room))); at = at; lines = lines; whole = whole }),
      (schema, is_at, inr (room, (ids, is, fine), refl)),
      record { version = version; known = known; room = schema; at = is_at; are = refl },
    )

    of_plan : HaveIds (records_of from.saved.documents) → (o : Option PlanFault) → first_fault schema.sequences from.held ≡ o → IfFault PlanHasText o → LoadsFound from version at lines
    of_plan ids (Some f) is has =
        unfit_found has.0 (inr (inl (f, ids, ap (λ o. result_map_both (raised_by schema.sequences from.saved) (λ fault. fault) (option_map_or Err o (Ok (plan_of schema.sequences from.held)))) is, has.1)))
    of_plan ids None is has =
        let places = plan_of schema.sequences from.held in
        let room = room_found (raised_by schema.sequences from.saved places) (few_raised schema.sequences from.saved places few) in
        of_room room.0 ids
        (ap (λ o. result_map_both (raised_by schema.sequences from.saved) (λ fault. fault) (option_map_or Err o (Ok places))) is ∙ ap Ok (sym room.1))
        (load_fault (decided schema) (pos LAST_CLOCK) room.0) refl (load_said (decided schema) (pos LAST_CLOCK) room.0)

    loads_found : LoadsFound from version at lines
    loads_found = elim (ids_walked (records_of from.saved.documents) [] tt) [
      | inl ids ↦ of_plan ids (first_fault schema.sequences from.held) refl (first_said schema.sequences from.held)
      | inr bad ↦ unfit_found (bad_record_text bad.0) (inl (bad.0, bad.1, refl))
    ]

  header_begins : (from : SavedLine) → IsFew from.saved → (first : First) → (b : Beginning) × TakesHeader whole from first b × IfBegins b
  header_begins from few (nothing at) = (refused_at at (unended_text whole), refl, tt)
  header_begins from few (found at line lines) = elim (found_header line) [
    | inl h ↦
        let s = schema_found h.0.version in
        let loads = loads_found from few h.0.version (at + 1) lines h.1.1 s.0 s.1 in
        (loads.0, inr (h.0, h.1, loads.1), loads.2)
    | inr text ↦ (refused_at at text.0, inl (text.0, text.1, refl), tt)
  ]

  saved_begins : (first : First) → (b : Beginning) × TakesSaved whole first b × IfBegins b
  saved_begins (nothing at) = (refused_at at (unended_text whole), refl, tt)
  saved_begins (found at line lines) = elim (found_saved line) [
    | inl s ↦
        let from : SavedLine = record { at = at; saved = s.0; held = s.1 } in
        let next = header_begins from (few_in_line line s.0 s.1 s.2) (first_line format.LONGEST_LINE (at + 1) lines) in
        (next.0, inr (s.0, s.1, s.2, next.1), next.2)
    | inr f ↦ (refused_at at f.1, inl (f.0, f.1, f.2, f.3, refl), tt)
  ]

on_found : (b : Beginning) → IfBegins b → (w : Written) × WritesOn b w
on_found (refused_at at text) tables = (record { text = fault_line at text; is_ended = false; reached = None }, refl)
on_found (begins rest) tables = written false (unended_text rest.whole) rest.progress rest.at rest.lines tables

pub restored_found : (recording : List ℕ) → (w : Written) × Restores recording w
restored_found recording =
    let b = saved_begins (is_whole recording) (first_line snapshot.LONGEST_LINE 1 (saved_lines recording)) in
    let w = on_found b.0 b.2 in
    (w.0, (b.0, b.1, w.1))
