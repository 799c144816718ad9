-- Each recording writes a text.
use Rattle.std.proofs.Common.{◌≡◌, ℕ, ◌+◌, ◌++◌, Bool, true, false, List, [], ◌∷◌, inl, inr, Some, None, Ok, Err, IfErr, refl}
use Rattle.recording_lines.specs.Lines.{is_whole, recorded_lines}
use Rattle.room_model.specs.Schemas.{WorldSchemas}
use Rattle.rec_format.specs.declared.recorded.RecordedEvent.{RecordedEvent}
use Rattle.side_effects.specs.declared.fault.EditFault.{EditFault}
use Rattle.peer_schemas.specs.Clients.{schemas_of, AreOfTables}
use Rattle.world_views.specs.Views.{Viewed, Outcome, nothing_viewed, after_recorded}
use Rattle.replay_job.specs.Replay.{Written, Writes, Replays}
use Rattle.replay_job.specs.Taking.{Progress, Taken, refused, passed, ended, is_end, Happens, TakesHeader, TakesEvent, TakesUnless, Takes, is_passed_by}
use Rattle.replay_job.specs.Texts.{lines_text, fault_line, unended_text}
use Rattle.replay_job.proofs.LineLemmas.{found_header, found_recorded}
use Rattle.replay_job.proofs.FaultTextLemmas.{HasText, fault_text_found}
use Rattle.replay_job.proofs.SchemaLemmas.{schema_found}

-- once there is a world, the tables decide
abbrev pub FromTables : Progress → Type 0
FromTables None = Unit {0}
FromTables (Some (schemas, viewed)) = AreOfTables schemas

abbrev Leaves : Taken → Type 0
Leaves (refused text) = Unit {0}
Leaves (passed lines next) = FromTables next
Leaves (ended lines next) = FromTables next

module _ (trace : Bool) where
  module _ (schemas : WorldSchemas EditFault) (viewed : Viewed) (tables : AreOfTables schemas) where
    happens_found : (e : RecordedEvent) → (taken : Taken) × Happens trace schemas viewed e taken × Leaves taken
    happens_found e = by (after_recorded schemas trace viewed e) refl (fault_text_found trace schemas viewed e tables) (is_end e) refl
      where
        by : (o : Outcome EditFault) → after_recorded schemas trace viewed e ≡ o → IfErr o HasText → (b : Bool) → is_end e ≡ b
            → (taken : Taken) × Happens trace schemas viewed e taken × Leaves taken
        by (Err fault) is has b ends = (refused has.0, (fault, is, has.1), tt)
        by (Ok made) is has true ends = (ended made.lines (Some (schemas, made.viewed)), (made, is, ends, refl, refl), tables)
        by (Ok made) is has false ends = (passed made.lines (Some (schemas, made.viewed)), (made, is, ends, refl, refl), tables)

    event_taken : (line : List ℕ) → (taken : Taken) × TakesEvent trace schemas viewed line taken × Leaves taken
    event_taken line = elim (found_recorded line) [
      | inl e ↦ let t = happens_found e.0 in (t.0, inr (e.0, e.1, t.1), t.2)
      | inr fault ↦ (refused fault.0, inl (fault.0, fault.1, refl), tt)
    ]

  header_taken : (line : List ℕ) → (taken : Taken) × TakesHeader line taken × Leaves taken
  header_taken line = elim (found_header line) [
    | inl h ↦
        let s = schema_found h.0.version in
        let tables : AreOfTables (schemas_of s.0) = record { version = h.0.version; known = h.1.1; room = s.0; at = s.1; are = refl } in
        (passed [] (Some (schemas_of s.0, nothing_viewed)), (h.0, schemas_of s.0, h.1, (tables, refl), refl, refl), tables)
    | inr fault ↦ (refused fault.0, fault.1, tt)
  ]

  line_taken : (progress : Progress) (line : List ℕ) → FromTables progress → (taken : Taken) × Takes trace progress line taken × Leaves taken
  line_taken progress line tables = by (is_passed_by line) progress tables
    where
      by : (b : Bool) (progress : Progress) → FromTables progress → (taken : Taken) × TakesUnless b trace progress line taken × Leaves taken
      by true progress tables = (passed [] progress, refl, tables)
      by false None tables = header_taken line
      by false (Some (schemas, viewed)) tables = event_taken schemas viewed tables line

  pub written : (unended : List ℕ) (progress : Progress) (at : ℕ) (lines : List (List ℕ)) → FromTables progress → (w : Written) × Writes trace unended progress at lines w
  written unended progress at [] tables = (record { text = fault_line at unended; is_ended = false; reached = progress }, refl)
  written unended progress at (line ∷ lines) tables =
      let t = line_taken progress line tables in by t.0 t.1 t.2 (λ next. written unended next (at + 1) lines)
    where
      by : (taken : Taken) → Takes trace progress line taken → Leaves taken
          → ((next : Progress) → FromTables next → (rest : Written) × Writes trace unended next (at + 1) lines rest)
          → (w : Written) × Writes trace unended progress at (line ∷ lines) w
      by (refused text) is leaves rest = (record { text = fault_line at text; is_ended = false; reached = progress }, (refused text, is, refl))
      by (ended out next) is leaves rest = (record { text = lines_text out; is_ended = true; reached = next }, (ended out next, is, refl))
      by (passed out next) is leaves rest =
          let r = rest next leaves in
          (record { text = lines_text out ++ r.0.text; is_ended = r.0.is_ended; reached = r.0.reached }, (passed out next, is, (r.0, r.1, refl)))

pub text_found : (trace : Bool) (recording : List ℕ) → (w : Written) × Replays trace recording w
text_found trace recording = written trace (unended_text (is_whole recording)) None 1 (recorded_lines recording) tt
