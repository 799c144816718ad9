-- A recording writes one text, and ends in one way.
use Rattle.std.proofs.Common.{◌≡◌, ℕ, ◌+◌, ◌<◌, ◌≤◌, ◌&&◌, ◌⊎◌, inl, inr, Bool, true, false, List, [], ◌∷◌, length, map, filter, slice_get, Option, Some, None, Result, Ok, Err, refl, sym, ap, subst, ◌∙◌}
use Rattle.std.specs.Option.{option_map_or}
use Rattle.rooms_val.proofs.Truths.{le_lt_absurd}
use Rattle.rooms_val.specs.Data.{Data, Pairs}
use Rattle.rooms_val.specs.Json.{value_of}
use Rattle.rooms_val.specs.declared.fault.ValFault.{ValFault}
use Rattle.shape_tree.specs.Queries.{ids_meeting}
use Rattle.shape_tree.specs.Records.{is_id_of}
use Rattle.shape_tree.specs.declared.query.Query.{Query}
use Rattle.view_vals.specs.Laws.{AskTheSame}
use Rattle.fault_texts.specs.Texts.{line_fault_text, step_fault_text}
use Rattle.recording_lines.specs.Lines.{is_whole, recorded_lines}
use Rattle.room_model.specs.Schemas.{WorldSchemas}
use Rattle.room_model.specs.Worlds.{shown_in}
use Rattle.room_model.specs.declared.event.Header.{Header}
use Rattle.room_model.specs.declared.fault.StepFault.{StepFault}
use Rattle.room_model.specs.declared.fault.StepFault.TheVariants.{NoSuchClient}
use Rattle.rec_format.specs.Events.{header_val}
use Rattle.rec_format.specs.Laws.{IsSame}
use Rattle.rec_format.specs.Lines.{IsOf, IsHeader, IsEvent, IsUnknown, RefusesHeader, RefusesLine}
use Rattle.rec_format.specs.Recorded.{recorded_val}
use Rattle.rec_format.specs.declared.fault.LineFault.{LineFault}
use Rattle.rec_format.specs.declared.fault.LineFault.TheVariants as line_fault
use Rattle.rec_format.specs.declared.printed.PrintedLine.TheVariants as printed
use Rattle.rec_format.specs.declared.read.TheConstants.{LONGEST_LINE}
use Rattle.rec_format.specs.declared.recorded.RecordedEvent.{RecordedEvent}
use Rattle.rec_format.specs.declared.recorded.RecordedEvent.TheVariants as recorded
use Rattle.rec_format.proofs.OneEachLemmas.{one_event, one_header, reads_event, reads_header}
use Rattle.side_effects.specs.declared.fault.EditFault.{EditFault}
use Rattle.sync_world.specs.Standing.{IsAtVersion}
use Rattle.sync_world.proofs.VersionLemmas.{one_schemas}
use Rattle.world_views.specs.Views.{Viewed, Stepped, Outcome, nothing_viewed, tells, on_event, on_watch, on_query, after_recorded}
use Rattle.replay_job.specs.Replay.{Written, Follows, Writes, Replays}
use Rattle.replay_job.specs.Taking.{Progress, Taken, refused, passed, ended, is_end, Happens, IsRefusedHeader, IsRefusedEvent, TakesHeader, TakesEvent, TakesUnless, Takes, is_passed_by}
use Rattle.replay_job.specs.Texts.{lines_text, unended_text}
use Rattle.replay_job.proofs.GoingLemmas.{behind}

the_text : (o : Option (List ℕ)) (a b : List ℕ) → o ≡ Some a → o ≡ Some b → a ≡ b
the_text o a b one other = cc

the_val : (r : Result Data ValFault) (a b : Data) → r ≡ Ok a → r ≡ Ok b → a ≡ b
the_val r a b one other = cc

the_val_fault : (r : Result Data ValFault) (a b : ValFault) → r ≡ Err a → r ≡ Err b → a ≡ b
the_val_fault r a b one other = cc

no_val : (r : Result Data ValFault) (d : Data) (f : ValFault) → r ≡ Ok d → r ≡ Err f → ⊥
no_val r d f one other = cc

-- why a line is refused: it is too long, no value, or a value that has a fault
data Cause : Type 0 where
  long : Cause
  bad : ValFault → Cause
  said : LineFault → Cause

abbrev fault_of : Cause → LineFault
fault_of long = line_fault.LineTooLong
fault_of (bad fault) = line_fault.Val fault
fault_of (said fault) = fault

module _ (Of : Data → LineFault → Type 0) (line : List ℕ) where
  -- the line has the cause, where these are the faults of values
  abbrev HasCause : Cause → Type 0
  HasCause long = LONGEST_LINE < length line
  HasCause (bad fault) = length line ≤ LONGEST_LINE × (value_of line ≡ Err fault)
  HasCause (said fault) = (d : Data) × IsOf line d × Of d fault

  -- where a value has one fault at most, a line has one cause at most
  one_cause : ((d : Data) (f g : LineFault) → Of d f → Of d g → f ≡ g) → (a b : Cause) → HasCause a → HasCause b → a ≡ b
  one_cause one long long h k = refl
  one_cause one long (bad f) h k = le_lt_absurd (length line) LONGEST_LINE k.0 h
  one_cause one long (said f) h k = le_lt_absurd (length line) LONGEST_LINE k.1.0 h
  one_cause one (bad e) long h k = le_lt_absurd (length line) LONGEST_LINE h.0 k
  one_cause one (bad e) (bad f) h k = ap bad (the_val_fault (value_of line) e f h.1 k.1)
  one_cause one (bad e) (said f) h k = absurd (no_val (value_of line) k.0 e k.1.1 h.1)
  one_cause one (said e) long h k = le_lt_absurd (length line) LONGEST_LINE h.1.0 k
  one_cause one (said e) (bad f) h k = absurd (no_val (value_of line) h.0 f h.1.1 k.1)
  one_cause one (said e) (said f) h k = ap said (one k.0 e f (subst (λ d. Of d e) (the_val (value_of line) h.0 k.0 h.1.1 k.1.1) h.2) k.2)

  -- a fault that has a text is that of a cause
  abbrev IsOfCause : LineFault → Type 0
  IsOfCause f = (c : Cause) × HasCause c × (f ≡ fault_of c)

  -- two such faults have one text
  one_text : ((d : Data) (f g : LineFault) → Of d f → Of d g → f ≡ g) → (f g : LineFault) (a b : List ℕ) → IsOfCause f → IsOfCause g
      → line_fault_text f ≡ Some a → line_fault_text g ≡ Some b → a ≡ b
  one_text one f g a b h k is_f is_g =
      let same : f ≡ g = h.2 ∙ ap fault_of (one_cause one h.0 k.0 h.1 k.1) ∙ sym k.2 in
      the_text (line_fault_text f) a b is_f (ap line_fault_text same ∙ is_g)

-- the fault of a value that is no header, and of one that is no event
abbrev OfHeader : Data → LineFault → Type 0
OfHeader d f = f ≡ line_fault.NoHeader

abbrev OfEvent : Data → LineFault → Type 0
OfEvent d f = (IsUnknown d × (f ≡ line_fault.UnknownEvent)) ⊎ ((¬ IsUnknown d) × (f ≡ line_fault.Field))

one_of_event : (d : Data) (f g : LineFault) → OfEvent d f → OfEvent d g → f ≡ g
one_of_event d f g (inl h) (inl k) = h.1 ∙ sym k.1
one_of_event d f g (inl h) (inr k) = absurd (k.0 h.0)
one_of_event d f g (inr h) (inl k) = absurd (h.0 k.0)
one_of_event d f g (inr h) (inr k) = h.1 ∙ sym k.1

header_cause : (line : List ℕ) (f : LineFault) (text : List ℕ) → RefusesHeader line f → line_fault_text f ≡ Some text → IsOfCause OfHeader line f
header_cause line line_fault.LineTooLong text h is = (long, h, refl)
header_cause line (line_fault.Val fault) text h is = (bad fault, h, refl)
header_cause line line_fault.NoHeader text h is = (said line_fault.NoHeader, (h.0, h.1, refl), refl)
header_cause line line_fault.UnknownEvent text h is = absurd h
header_cause line line_fault.Field text h is = absurd h
header_cause line line_fault.OutOfMemory text h is = absurd (cc)

event_cause : (line : List ℕ) (f : LineFault) (text : List ℕ) → RefusesLine line f → line_fault_text f ≡ Some text → IsOfCause OfEvent line f
event_cause line line_fault.LineTooLong text h is = (long, h, refl)
event_cause line (line_fault.Val fault) text h is = (bad fault, h, refl)
event_cause line line_fault.NoHeader text h is = absurd h
event_cause line line_fault.UnknownEvent text h is = (said line_fault.UnknownEvent, (h.0, h.1, inl (h.2, refl)), refl)
event_cause line line_fault.Field text h is = (said line_fault.Field, (h.0, h.1, inr (h.2, refl)), refl)
event_cause line line_fault.OutOfMemory text h is = absurd (cc)

-- want of memory has no text
has_memory : (f : LineFault) (text : List ℕ) → f ≡ line_fault.OutOfMemory → line_fault_text f ≡ Some text → ⊥
has_memory f text none is = let never : None ≡ Some text = sym (ap line_fault_text none) ∙ is in cc

-- a line that is refused is no header, or no event
not_header : (line : List ℕ) (h : Header) (text : List ℕ) → IsHeader line h → IsRefusedHeader line text → ⊥
not_header line h text is fault = has_memory fault.0 text (reads_header line (Err fault.0) tt fault.1 h is) fault.2

not_event : (line : List ℕ) (e : RecordedEvent) (text : List ℕ) → IsEvent line e → IsRefusedEvent line text → ⊥
not_event line e text is fault = has_memory fault.0 text (reads_event line (Err fault.0) tt fault.1 e is) fault.2

same_ids : (m : Pairs) (type : List ℕ) (q r : Query) → AskTheSame q r → ids_meeting m type q ≡ ids_meeting m type r
same_ids m type q r same = λ i. map (λ e. e.0) (filter (λ e. is_id_of type e.0 && same e.1 i) m)

same_end : (a b : RecordedEvent) → IsSame a b → is_end a ≡ is_end b
same_end (recorded.World a) (recorded.World b) is = ap (λ e. is_end (recorded.World e)) is
same_end (recorded.World a) (recorded.Watch d w) is = absurd is
same_end (recorded.World a) (recorded.Query d u r) is = absurd is
same_end (recorded.Watch c v) (recorded.World b) is = absurd is
same_end (recorded.Watch c v) (recorded.Watch d w) is = refl
same_end (recorded.Watch c v) (recorded.Query d u r) is = absurd is
same_end (recorded.Query c t q) (recorded.World b) is = absurd is
same_end (recorded.Query c t q) (recorded.Watch d w) is = absurd is
same_end (recorded.Query c t q) (recorded.Query d u r) is = refl

abbrev in_world : WorldSchemas EditFault → Viewed → Progress
in_world schemas viewed = Some (schemas, viewed)

module _ (trace : Bool) where
  module _ (schemas : WorldSchemas EditFault) (viewed : Viewed) where
    -- two events that are the same make the same
    same_outcome : (a b : RecordedEvent) → IsSame a b → after_recorded schemas trace viewed a ≡ after_recorded schemas trace viewed b
    same_outcome (recorded.World a) (recorded.World b) is = ap (λ e. on_event schemas trace e viewed) is
    same_outcome (recorded.World a) (recorded.Watch d w) is = absurd is
    same_outcome (recorded.World a) (recorded.Query d u r) is = absurd is
    same_outcome (recorded.Watch c v) (recorded.World b) is = absurd is
    same_outcome (recorded.Watch c v) (recorded.Watch d w) is = λ i. on_watch schemas (is.0 i) (is.1 i) viewed
    same_outcome (recorded.Watch c v) (recorded.Query d u r) is = absurd is
    same_outcome (recorded.Query c t q) (recorded.World b) is = absurd is
    same_outcome (recorded.Query c t q) (recorded.Watch d w) is = absurd is
    same_outcome (recorded.Query c t q) (recorded.Query d u r) is =
        let named : on_query schemas c t q viewed ≡ on_query schemas d u q viewed = λ i. on_query schemas (is.0 i) (is.1 i) q viewed in
        let asked : on_query schemas d u q viewed ≡ on_query schemas d u r viewed =
        λ i. option_map_or (λ client. Ok (tells schemas (printed.Ids d (same_ids (shown_in schemas viewed.world client) u q r is.2 i) ∷ []) viewed)) (slice_get viewed.world.clients d) (Err NoSuchClient) in
        named ∙ asked

    the_made : (o : Outcome EditFault) (a b : Stepped) → o ≡ Ok a → o ≡ Ok b → a ≡ b
    the_made o a b one other = cc

    the_fault : (o : Outcome EditFault) (a b : StepFault EditFault) → o ≡ Err a → o ≡ Err b → a ≡ b
    the_fault o a b one other = cc

    no_made : (o : Outcome EditFault) (a : Stepped) (f : StepFault EditFault) → o ≡ Ok a → o ≡ Err f → ⊥
    no_made o a f one other = cc

    no_end : (b : Bool) → b ≡ false → b ≡ true → ⊥
    no_end b one other = cc

    -- one thing becomes of an event
    one_happens : (a b : RecordedEvent) → IsSame a b → (s t : Taken) → Happens trace schemas viewed a s → Happens trace schemas viewed b t → s ≡ t
    one_happens a b is (refused x) (refused y) h k =
        let same = the_fault (after_recorded schemas trace viewed b) h.0 k.0 (sym (same_outcome a b is) ∙ h.1) k.1 in
        ap refused (the_text (step_fault_text h.0) x y h.2 (ap step_fault_text same ∙ k.2))
    one_happens a b is (refused x) (passed out next) h k = absurd (no_made (after_recorded schemas trace viewed b) k.0 h.0 k.1 (sym (same_outcome a b is) ∙ h.1))
    one_happens a b is (refused x) (ended out next) h k = absurd (no_made (after_recorded schemas trace viewed b) k.0 h.0 k.1 (sym (same_outcome a b is) ∙ h.1))
    one_happens a b is (passed out next) (refused y) h k = absurd (no_made (after_recorded schemas trace viewed b) h.0 k.0 (sym (same_outcome a b is) ∙ h.1) k.1)
    one_happens a b is (passed out next) (passed more last) h k =
        let same = the_made (after_recorded schemas trace viewed b) h.0 k.0 (sym (same_outcome a b is) ∙ h.1) k.1 in
        let lines = h.3 ∙ ap (λ (s : Stepped). s.lines) same ∙ sym k.3 in
        let made : next ≡ last = h.4 ∙ ap (λ (s : Stepped). in_world schemas s.viewed) same ∙ sym k.4 in
        λ i. passed (lines i) (made i)
    one_happens a b is (passed out next) (ended more last) h k = absurd (no_end (is_end b) (sym (same_end a b is) ∙ h.2) k.2)
    one_happens a b is (ended out next) (refused y) h k = absurd (no_made (after_recorded schemas trace viewed b) h.0 k.0 (sym (same_outcome a b is) ∙ h.1) k.1)
    one_happens a b is (ended out next) (passed more last) h k = absurd (no_end (is_end b) k.2 (sym (same_end a b is) ∙ h.2))
    one_happens a b is (ended out next) (ended more last) h k =
        let same = the_made (after_recorded schemas trace viewed b) h.0 k.0 (sym (same_outcome a b is) ∙ h.1) k.1 in
        let lines = h.3 ∙ ap (λ (s : Stepped). s.lines) same ∙ sym k.3 in
        let made : next ≡ last = h.4 ∙ ap (λ (s : Stepped). in_world schemas s.viewed) same ∙ sym k.4 in
        λ i. ended (lines i) (made i)

    one_event_taken : (line : List ℕ) (s t : Taken) → TakesEvent trace schemas viewed line s → TakesEvent trace schemas viewed line t → s ≡ t
    one_event_taken line s t (inl h) (inl k) =
        h.2 ∙ ap refused (one_text OfEvent line one_of_event h.1.0 k.1.0 h.0 k.0 (event_cause line h.1.0 h.0 h.1.1 h.1.2) (event_cause line k.1.0 k.0 k.1.1 k.1.2) h.1.2 k.1.2) ∙ sym k.2
    one_event_taken line s t (inl h) (inr k) = absurd (not_event line k.0 h.0 k.1 h.1)
    one_event_taken line s t (inr h) (inl k) = absurd (not_event line h.0 k.0 h.1 k.1)
    one_event_taken line s t (inr h) (inr k) =
        one_happens h.0 k.0 (one_event h.0 k.0 (the_val (value_of line) (recorded_val h.0) (recorded_val k.0) h.1.0.1 k.1.0.1)) s t h.2 k.2

  pub one_header_taken : (line : List ℕ) (s t : Taken) → TakesHeader line s → TakesHeader line t → s ≡ t
  one_header_taken line (refused x) (refused y) h k =
      ap refused (one_text OfHeader line (λ d f g one other. one ∙ sym other) h.0 k.0 x y (header_cause line h.0 x h.1 h.2) (header_cause line k.0 y k.1 k.2) h.2 k.2)
  one_header_taken line (refused x) (passed out next) h k = absurd (not_header line k.0 x k.2 h)
  one_header_taken line (refused x) (ended out next) h k = absurd k
  one_header_taken line (passed out next) (refused y) h k = absurd (not_header line h.0 y h.2 k)
  one_header_taken line (passed out next) (passed more last) h k =
      let header : h.0 ≡ k.0 = one_header h.0 k.0 (the_val (value_of line) (header_val h.0) (header_val k.0) h.2.0.1 k.2.0.1) in
      let decided : h.1 ≡ k.1 = one_schemas k.0.version h.1 k.1 (subst (λ (x : Header). IsAtVersion x.version h.1) header h.3) k.3 in
      let lines = h.4 ∙ sym k.4 in
      let made : next ≡ last = h.5 ∙ ap (λ (s : WorldSchemas EditFault). in_world s nothing_viewed) decided ∙ sym k.5 in
      λ i. passed (lines i) (made i)
  one_header_taken line (passed out next) (ended more last) h k = absurd k
  one_header_taken line (ended out next) t h k = absurd h

  one_unless : (b : Bool) (progress : Progress) (line : List ℕ) (s t : Taken) → TakesUnless b trace progress line s → TakesUnless b trace progress line t → s ≡ t
  one_unless true progress line s t h k = h ∙ sym k
  one_unless false None line s t h k = one_header_taken line s t h k
  one_unless false (Some (schemas, viewed)) line s t h k = one_event_taken schemas viewed line s t h k

  -- one thing becomes of a line
  pub one_taken : (progress : Progress) (line : List ℕ) (s t : Taken) → Takes trace progress line s → Takes trace progress line t → s ≡ t
  one_taken progress line s t h k = one_unless (is_passed_by line) progress line s t h k

-- what is left to write is one, if the rest writes one
one_follows : (at : ℕ) (progress : Progress) (taken : Taken) (Rest : Progress → Written → Type 0) → ((next : Progress) (v w : Written) → Rest next v → Rest next w → v ≡ w)
    → (v w : Written) → Follows at progress taken Rest v → Follows at progress taken Rest w → v ≡ w
one_follows at progress (refused text) Rest one v w h k = h ∙ sym k
one_follows at progress (passed lines next) Rest one v w h k =
    let same : h.0 ≡ k.0 = one next h.0 k.0 h.1 k.1 in
    h.2 ∙ ap (behind (lines_text lines)) same ∙ sym k.2
one_follows at progress (ended lines next) Rest one v w h k = h ∙ sym k

pub one_writes : (trace : Bool) (unended : List ℕ) (progress : Progress) (at : ℕ) (lines : List (List ℕ)) (v w : Written)
    → Writes trace unended progress at lines v → Writes trace unended progress at lines w → v ≡ w
one_writes trace unended progress at [] v w h k = h ∙ sym k
one_writes trace unended progress at (line ∷ lines) v w h k =
    let Rest : Progress → Written → Type 0 = λ next rest. Writes trace unended next (at + 1) lines rest in
    let same : h.0 ≡ k.0 = one_taken trace progress line h.0 k.0 h.1 k.1 in
    one_follows at progress k.0 Rest (λ next. one_writes trace unended next (at + 1) lines) v w (subst (λ t. Follows at progress t Rest v) same h.2) k.2

pub one_written : (trace : Bool) (recording : List ℕ) (v w : Written) → Replays trace recording v → Replays trace recording w → v ≡ w
one_written trace recording = one_writes trace (unended_text (is_whole recording)) None 1 (recorded_lines recording)
