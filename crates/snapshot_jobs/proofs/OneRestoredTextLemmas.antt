-- One text is written of a saved room and what goes on from it.
use Rattle.std.proofs.Common.{◌≡◌, ℕ, ◌+◌, ◌<◌, ◌≤◌, ◌⊎◌, inl, inr, pos, Bool, false, List, [], ◌∷◌, ◌++◌, length, codes, IsTrue, MatchOption, Option, Some, None, Result, Ok, Err, refl, sym, ap, subst, ◌∙◌}
use Rattle.std.specs.Result.{result_map_both}
use Rattle.rooms_val.proofs.Truths.{le_lt_absurd, one_ok, one_some}
use Rattle.rooms_val.specs.Data.{Data}
use Rattle.rooms_val.specs.Json.{value_of}
use Rattle.rooms_val.specs.Maps.{seen}
use Rattle.fault_texts.specs.Texts.{val_fault_text, line_fault_text, snap_fault_text, plan_fault_text, load_fault_text, bad_record_text}
use Rattle.migrate_seq.specs.Plans.{migrations_at, plan_answer}
use Rattle.migrate_seq.specs.Versions.{Versions}
use Rattle.migrate_seq.specs.declared.fault.PlanFault.{PlanFault}
use Rattle.migrate_seq.specs.declared.place.Place.{Place}
use Rattle.peer_schemas.specs.Clients.{schemas_of}
use Rattle.peer_schemas.proofs.RoomLemmas.{same_decided, same_schemas}
use Rattle.rec_format.specs.Events.{header_val}
use Rattle.rec_format.specs.Lines.{IsHeader}
use Rattle.rec_format.specs.declared.fault.LineFault.{LineFault}
use Rattle.rec_format.specs.declared.fault.LineFault.TheVariants as line_fault
use Rattle.rec_format.specs.declared.read.TheConstants as format
use Rattle.rec_format.proofs.OneEachLemmas.{one_header, reads_header}
use Rattle.recording_lines.specs.Lines.{is_whole}
use Rattle.replay_job.specs.Replay.{Written}
use Rattle.replay_job.specs.Taking.{refused, IsRefusedHeader}
use Rattle.replay_job.specs.Texts.{unended_text}
use Rattle.replay_job.proofs.OneTextLemmas.{one_header_taken, one_writes}
use Rattle.room_model.specs.Rooms.{Room}
use Rattle.room_model.specs.Saves.{begun_room, load_fault}
use Rattle.room_model.specs.Schemas.{WorldSchemas, Plan}
use Rattle.room_model.specs.Worlds.{world_over}
use Rattle.room_model.specs.declared.event.Header.{Header}
use Rattle.room_model.specs.declared.limits.TheConstants.{LAST_CLOCK}
use Rattle.room_model.specs.declared.saved.SavedRoom.{SavedRoom}
use Rattle.room_schemas.specs.Decided.{decided}
use Rattle.room_snapshot.specs.Ids.{id_in, has_id, IsFault, IsFirstFault, by_id}
use Rattle.room_snapshot.specs.Lines.{line_val}
use Rattle.room_snapshot.specs.Raised.{all_at, next_clock, raised_by, raised}
use Rattle.room_snapshot.specs.Readings.{IsLine, RefusesLine}
use Rattle.room_snapshot.specs.Saved.{SavedTree, saved_tree, records_of}
use Rattle.room_snapshot.specs.declared.fault.SnapFault.{SnapFault}
use Rattle.room_snapshot.specs.declared.fault.SnapFault.TheVariants as snap
use Rattle.room_snapshot.specs.declared.snapshot.TheConstants as snapshot
use Rattle.room_snapshot.proofs.IdLemmas.{no_ids}
use Rattle.room_snapshot.proofs.LineLemmas.{one_room, reads_line}
use Rattle.schema_core.specs.Tree.{SchemaTree}
use Rattle.side_effects.specs.declared.fault.EditFault.{EditFault}
use Rattle.tl_tables.specs.Tables.{IsSchemaAt}
use Rattle.tl_tables.proofs.PlanLemmas.{answer_of, answer_seen}
use Rattle.world_views.specs.Views.{nobody_viewing}
use Rattle.snapshot_jobs.specs.Restoring.{Beginning, refused_at, begins, SavedLine, IsUnfit, IsFit, Loads, TakesHeader, TakesSaved, WritesOn, Restores, saved_lines}
use Rattle.snapshot_jobs.specs.Seeking.{First, found, nothing, first_line}
use Rattle.snapshot_jobs.proofs.SameRoomLemmas.{same_fault, same_room}
use Rattle.migrate_steps.proofs.RecordLemmas.{each_alone, each_itself, each_after}

the_err : {T E : Type 0} (r : Result T E) (a b : E) → r ≡ Err a → r ≡ Err b → a ≡ b
the_err r a b one other = let same : Err a ≡ Err b = sym one ∙ other in cc

not_both : {T E A : Type 0} (r : Result T E) (a : T) (b : E) → r ≡ Ok a → r ≡ Err b → A
not_both r a b one other = absurd (let same : Ok a ≡ Err b = sym one ∙ other in cc)

some_none : {X A : Type 0} (o : Option X) (a : X) → o ≡ Some a → o ≡ None → A
some_none o a one other = absurd (let same : Some a ≡ None = sym one ∙ other in cc)

-- ---- the first line

-- a refused line has one text
one_snap : (line : List ℕ) (f g : SnapFault) (a b : List ℕ) → RefusesLine line f → RefusesLine line g → snap_fault_text f ≡ Some a → snap_fault_text g ≡ Some b → a ≡ b
one_snap line snap.LineTooLong snap.LineTooLong a b h k p q = one_some (snap_fault_text snap.LineTooLong) a b p q
one_snap line snap.LineTooLong (snap.Val g) a b h k p q = le_lt_absurd (length line) snapshot.LONGEST_LINE k.0 h
one_snap line snap.LineTooLong snap.Shape a b h k p q = le_lt_absurd (length line) snapshot.LONGEST_LINE k.0 h
one_snap line (snap.Val f) snap.LineTooLong a b h k p q = le_lt_absurd (length line) snapshot.LONGEST_LINE h.0 k
one_snap line (snap.Val f) (snap.Val g) a b h k p q = one_some (val_fault_text g) a b (ap val_fault_text (sym (the_err (value_of line) f g h.1 k.1)) ∙ p) q
one_snap line (snap.Val f) snap.Shape a b h k p q = not_both (value_of line) k.1 f k.2 h.1
one_snap line snap.Shape snap.LineTooLong a b h k p q = le_lt_absurd (length line) snapshot.LONGEST_LINE h.0 k
one_snap line snap.Shape (snap.Val g) a b h k p q = not_both (value_of line) h.1 g h.2 k.1
one_snap line snap.Shape snap.Shape a b h k p q = one_some (snap_fault_text snap.Shape) a b p q
one_snap line snap.OutOfMemory g a b h k p q = some_none (snap_fault_text snap.OutOfMemory) a p refl
one_snap line snap.LineTooLong snap.OutOfMemory a b h k p q = some_none (snap_fault_text snap.OutOfMemory) b q refl
one_snap line (snap.Val f) snap.OutOfMemory a b h k p q = some_none (snap_fault_text snap.OutOfMemory) b q refl
one_snap line snap.Shape snap.OutOfMemory a b h k p q = some_none (snap_fault_text snap.OutOfMemory) b q refl

-- a line of a saved room isn't refused
not_saved : {A : Type 0} (line : List ℕ) (f : SnapFault) (text : List ℕ) (saved : SavedTree) (held : Versions) → RefusesLine line f → snap_fault_text f ≡ Some text → IsLine line saved held → A
not_saved line f text saved held refuses told is =
    let want : f ≡ snap.OutOfMemory = reads_line line (Err f) tt refuses saved held is in
    some_none (snap_fault_text snap.OutOfMemory) text (ap snap_fault_text (sym want) ∙ told) refl

-- ---- the header

has_memory : {A : Type 0} (f : LineFault) (text : List ℕ) → f ≡ line_fault.OutOfMemory → line_fault_text f ≡ Some text → A
has_memory f text none is = some_none (line_fault_text line_fault.OutOfMemory) text (ap line_fault_text (sym none) ∙ is) refl

not_header : {A : Type 0} (line : List ℕ) (h : Header) (text : List ℕ) → IsHeader line h → IsRefusedHeader line text → A
not_header line h text is fault = has_memory fault.0 text (reads_header line (Err fault.0) tt fault.1 h is) fault.2

refused_same : (a b : List ℕ) → refused a ≡ refused b → a ≡ b
refused_same a b is = cc

-- ---- what is wrong with ids

-- a list that is split in two ways
splits : (a b : List Data) (x y : Data) (more bs : List Data) → a ++ x ∷ more ≡ b ++ y ∷ bs
    → ((a ≡ b) × (x ≡ y)) ⊎ (((rest : List Data) × (b ≡ a ++ x ∷ rest)) ⊎ ((rest : List Data) × (a ≡ b ++ y ∷ rest)))
splits [] [] x y more bs is = inl (refl, cc)
splits [] (e ∷ b) x y more bs is = inr (inl (b, (let same : x ≡ e = cc in ap (λ d. d ∷ b) (sym same))))
splits (d ∷ a) [] x y more bs is = inr (inr (a, (let same : d ≡ y = cc in ap (λ e. e ∷ a) same)))
splits (d ∷ a) (e ∷ b) x y more bs is =
    let same : d ≡ e = cc in
    let rest : a ++ x ∷ more ≡ b ++ y ∷ bs = cc in
    elim (splits a b x y more bs rest) [
      | inl both ↦ inl ((λ i. same i ∷ both.0 i), both.1)
      | inr (inl first) ↦ inr (inl (first.0, λ i. sym same i ∷ first.1 i))
      | inr (inr second) ↦ inr (inr (second.0, λ i. same i ∷ second.1 i))
    ]

told_once : (o : Option (List ℕ)) (before : List Data) (a b : List ℕ) → MatchOption o (a ≡ codes "-") (λ id. (a ≡ id) × IsTrue (has_id before id)) → MatchOption o (b ≡ codes "-") (λ id. (b ≡ id) × IsTrue (has_id before id)) → a ≡ b
told_once None before a b h k = h ∙ sym k
told_once (Some id) before a b h k = h.0 ∙ sym k.0

one_first_fault : (ds : List Data) (a b : List ℕ) → IsFirstFault ds a → IsFirstFault ds b → a ≡ b
one_first_fault ds a b h k = elim (splits h.before k.before h.bad k.bad h.after k.after (sym h.split ∙ k.split)) [
  | inl same ↦ told_once (id_in k.bad) k.before a b (subst (λ d. IsFault k.before d a) same.1 (subst (λ l. IsFault l h.bad a) same.0 h.fault)) k.fault
  | inr (inl first) ↦ absurd (no_ids k.before a (record { before = h.before; bad = h.bad; after = first.0; split = first.1; fine = h.fine; fault = h.fault }) k.fine)
  | inr (inr second) ↦ absurd (no_ids h.before b (record { before = k.before; bad = k.bad; after = second.0; split = second.1; fine = k.fine; fault = k.fault }) h.fine)
]

-- ---- what becomes of a saved room at a schema

-- a saved room after a plan, by what the plan makes of a record
abbrev along : (Plan → Data → Data) → SavedTree → Plan → SavedTree
along raise s [] = s
along raise s (p ∷ plan) = record {
  clock = next_clock s;
  start = s.start;
  documents = all_at (next_clock s) (seen (raise (p ∷ plan)) (by_id (records_of s.documents)));
  tombstones = s.tombstones;
}

raised_is : (schema : SchemaTree) (held : Versions) (s : SavedTree) (answer : Result (List Place) PlanFault)
    → result_map_both (raised_by schema.sequences s) (λ fault. fault) answer ≡ result_map_both (along (decided schema).raise s) (λ fault. fault) answer
raised_is schema held s (Err fault) = refl
raised_is schema held s (Ok []) = refl
raised_is schema held s (Ok (p ∷ plan)) =
    ap (λ ps. Ok (record { clock = next_clock s; start = s.start; documents = all_at (next_clock s) ps; tombstones = s.tombstones }))
    (each_alone (migrations_at schema.sequences (p ∷ plan)) (by_id (records_of s.documents)))

module _ (version : ℕ) (s t : SchemaTree) (one : IsSchemaAt version s) (other : IsSchemaAt version t) (saved : SavedTree) (held : Versions) where
  same_plan : plan_answer s.sequences held ≡ plan_answer t.sequences held
  same_plan = answer_seen s.sequences held ∙ ap (λ trees. answer_of trees held) (one.sequences_are ∙ sym other.sequences_are) ∙ sym (answer_seen t.sequences held)

  same_raised : raised s.sequences held saved ≡ raised t.sequences held saved
  same_raised =
      raised_is s held saved (plan_answer s.sequences held)
      ∙ (λ i. result_map_both (along (same_decided version s t one other i).raise saved) (λ fault. fault) (same_plan i))
      ∙ sym (raised_is t held saved (plan_answer t.sequences held))

  unfit_there : (text : List ℕ) → IsUnfit t saved held text → IsUnfit s saved held text
  unfit_there text (inl first) = inl first
  unfit_there text (inr (inl planned)) = inr (inl (planned.0, planned.1, same_raised ∙ planned.2, planned.3))
  unfit_there text (inr (inr made)) = inr (inr (made.0, made.1, made.2, same_raised ∙ made.3, ap (λ d. load_fault d (pos LAST_CLOCK) made.0) (same_decided version s t one other) ∙ made.4, made.5))

  fit_there : (room : SavedRoom) → IsFit t saved held room → IsFit s saved held room
  fit_there room fit = (fit.0, same_raised ∙ fit.1, ap (λ d. load_fault d (pos LAST_CLOCK) room) (same_decided version s t one other) ∙ fit.2)

module _ (schema : SchemaTree) (saved : SavedTree) (held : Versions) where
  abbrev Made : Result SavedTree PlanFault
  Made = raised schema.sequences held saved

  same_load : (a b : SavedRoom) → Made ≡ Ok (saved_tree a) → Made ≡ Ok (saved_tree b) → load_fault (decided schema) (pos LAST_CLOCK) a ≡ load_fault (decided schema) (pos LAST_CLOCK) b
  same_load a b is also = same_fault a b (one_ok Made (saved_tree a) (saved_tree b) is also) (decided schema) (pos LAST_CLOCK)

  one_unfit : (a b : List ℕ) → IsUnfit schema saved held a → IsUnfit schema saved held b → a ≡ b
  one_unfit a b (inl h) (inl k) = h.2 ∙ ap bad_record_text (one_first_fault (records_of saved.documents) h.0 k.0 h.1 k.1) ∙ sym k.2
  one_unfit a b (inl h) (inr (inl k)) = absurd (no_ids (records_of saved.documents) h.0 h.1 k.1)
  one_unfit a b (inl h) (inr (inr k)) = absurd (no_ids (records_of saved.documents) h.0 h.1 k.2)
  one_unfit a b (inr (inl h)) (inl k) = absurd (no_ids (records_of saved.documents) k.0 k.1 h.1)
  one_unfit a b (inr (inl h)) (inr (inl k)) = one_some (plan_fault_text k.0) a b (ap plan_fault_text (sym (the_err Made h.0 k.0 h.2 k.2)) ∙ h.3) k.3
  one_unfit a b (inr (inl h)) (inr (inr k)) = not_both Made (saved_tree k.0) h.0 k.3 h.2
  one_unfit a b (inr (inr h)) (inl k) = absurd (no_ids (records_of saved.documents) k.0 k.1 h.2)
  one_unfit a b (inr (inr h)) (inr (inl k)) = not_both Made (saved_tree h.0) k.0 h.3 k.2
  one_unfit a b (inr (inr h)) (inr (inr k)) =
      let same : h.1 ≡ k.1 = one_some (load_fault (decided schema) (pos LAST_CLOCK) k.0) h.1 k.1 (sym (same_load h.0 k.0 h.3 k.3) ∙ h.4) k.4 in
      one_some (load_fault_text k.1) a b (ap load_fault_text (sym same) ∙ h.5) k.5

  not_fit : {A : Type 0} (a : List ℕ) (room : SavedRoom) → IsUnfit schema saved held a → IsFit schema saved held room → A
  not_fit a room (inl h) fit = absurd (no_ids (records_of saved.documents) h.0 h.1 fit.0)
  not_fit a room (inr (inl h)) fit = not_both Made (saved_tree room) h.0 fit.1 h.2
  not_fit a room (inr (inr h)) fit = some_none (load_fault (decided schema) (pos LAST_CLOCK) h.0) h.1 h.4 (same_load h.0 room h.3 fit.1 ∙ fit.2)

  one_fit : (a b : SavedRoom) → IsFit schema saved held a → IsFit schema saved held b → begun_room LAST_CLOCK a ≡ begun_room LAST_CLOCK b
  one_fit a b h k = same_room a b (one_ok Made (saved_tree a) (saved_tree b) h.1 k.1) LAST_CLOCK

-- ---- how what is read begins

module _ (whole : Bool) where
  abbrev going : ℕ → List (List ℕ) → WorldSchemas EditFault → Room → Beginning
  going at lines schemas room = begins (record { progress = Some (schemas, nobody_viewing (world_over room)); at = at; lines = lines; whole = whole })

  one_loads : (from : SavedLine) (version at : ℕ) (lines : List (List ℕ)) (b c : Beginning) → Loads from version whole at lines b → Loads from version whole at lines c → b ≡ c
  one_loads from version at lines b c h k = by h.2 k.2
    where
      by : (((text : List ℕ) × IsUnfit h.0 from.saved from.held text × (b ≡ refused_at from.at text)) ⊎ ((room : SavedRoom) × IsFit h.0 from.saved from.held room × (b ≡ going at lines (schemas_of h.0) (begun_room LAST_CLOCK room))))
          → (((text : List ℕ) × IsUnfit k.0 from.saved from.held text × (c ≡ refused_at from.at text)) ⊎ ((room : SavedRoom) × IsFit k.0 from.saved from.held room × (c ≡ going at lines (schemas_of k.0) (begun_room LAST_CLOCK room)))) → b ≡ c
      by (inl p) (inl q) = p.2 ∙ ap (refused_at from.at) (one_unfit h.0 from.saved from.held p.0 q.0 p.1 (unfit_there version h.0 k.0 h.1 k.1 from.saved from.held q.0 q.1)) ∙ sym q.2
      by (inl p) (inr q) = not_fit h.0 from.saved from.held p.0 q.0 p.1 (fit_there version h.0 k.0 h.1 k.1 from.saved from.held q.0 q.1)
      by (inr p) (inl q) = not_fit h.0 from.saved from.held q.0 p.0 (unfit_there version h.0 k.0 h.1 k.1 from.saved from.held q.0 q.1) p.1
      by (inr p) (inr q) =
          let rooms = one_fit h.0 from.saved from.held p.0 q.0 p.1 (fit_there version h.0 k.0 h.1 k.1 from.saved from.held q.0 q.1) in
          p.2 ∙ (λ i. going at lines (same_schemas version h.0 k.0 h.1 k.1 i) (rooms i)) ∙ sym q.2

  one_header_begins : (from : SavedLine) (first : First) (b c : Beginning) → TakesHeader whole from first b → TakesHeader whole from first c → b ≡ c
  one_header_begins from (nothing at) b c h k = h ∙ sym k
  one_header_begins from (found at line lines) b c (inl h) (inl k) = h.2 ∙ ap (refused_at at) (refused_same h.0 k.0 (one_header_taken false line (refused h.0) (refused k.0) h.1 k.1)) ∙ sym k.2
  one_header_begins from (found at line lines) b c (inl h) (inr k) = not_header line k.0 h.0 k.1 h.1
  one_header_begins from (found at line lines) b c (inr h) (inl k) = not_header line h.0 k.0 h.1 k.1
  one_header_begins from (found at line lines) b c (inr h) (inr k) =
      let same : h.0 ≡ k.0 = one_header h.0 k.0 (one_ok (value_of line) (header_val h.0) (header_val k.0) h.1.0.1 k.1.0.1) in
      one_loads from k.0.version (at + 1) lines b c (subst (λ (x : Header). Loads from x.version whole (at + 1) lines b) same h.2) k.2

  one_begins : (first : First) (b c : Beginning) → TakesSaved whole first b → TakesSaved whole first c → b ≡ c
  one_begins (nothing at) b c h k = h ∙ sym k
  one_begins (found at line lines) b c (inl h) (inl k) = h.4 ∙ ap (refused_at at) (one_snap line h.0 k.0 h.1 k.1 h.2 k.2 h.3 k.3) ∙ sym k.4
  one_begins (found at line lines) b c (inl h) (inr k) = not_saved line h.0 h.1 k.0 k.1 h.2 h.3 k.2
  one_begins (found at line lines) b c (inr h) (inl k) = not_saved line k.0 k.1 h.0 h.1 k.2 k.3 h.2
  one_begins (found at line lines) b c (inr h) (inr k) =
      let same = one_room h.0 k.0 h.1 k.1 h.2.rising k.2.rising (one_ok (value_of line) (line_val h.0 h.1) (line_val k.0 k.1) h.2.value k.2.value) in
      let from : SavedLine = record { at = at; saved = k.0; held = k.1 } in
      one_header_begins from (first_line format.LONGEST_LINE (at + 1) lines) b c
      (subst (λ (x : SavedLine). TakesHeader whole x (first_line format.LONGEST_LINE (at + 1) lines) b) (λ i. record { at = at; saved = same.0 i; held = same.1 i }) h.3) k.3

one_on : (b : Beginning) (v w : Written) → WritesOn b v → WritesOn b w → v ≡ w
one_on (refused_at at text) v w h k = h ∙ sym k
one_on (begins rest) v w h k = one_writes false (unended_text rest.whole) rest.progress rest.at rest.lines v w h k

pub one_restored_text : (recording : List ℕ) (v w : Written) → Restores recording v → Restores recording w → v ≡ w
one_restored_text recording v w h k =
    let same : h.0 ≡ k.0 = one_begins (is_whole recording) (first_line snapshot.LONGEST_LINE 1 (saved_lines recording)) h.0 k.0 h.1 k.1 in
    one_on k.0 v w (subst (λ b. WritesOn b v) same h.2) k.2
