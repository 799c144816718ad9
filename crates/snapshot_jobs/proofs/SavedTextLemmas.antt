-- A text is saved of each recording.
use Rattle.std.proofs.Common.{◌≡◌, ℕ, ◌+◌, true, false, List, [], ◌∷◌, inl, inr, Some, None, refl, sym, ap, subst}
use Rattle.rooms_val.specs.Json.{text_of}
use Rattle.rec_format.specs.declared.printed.PrintedLine.{PrintedLine}
use Rattle.rec_format.specs.declared.recorded.RecordedEvent.{RecordedEvent}
use Rattle.peer_schemas.specs.Clients.{AreOfTables}
use Rattle.peer_schemas.proofs.ClientLemmas.{lawful}
use Rattle.replay_job.specs.Replay.{Written, Follows, Writes}
use Rattle.replay_job.specs.Taking.{Progress, Taken, refused, passed, ended, Happens, TakesNext, TakesUnless, Takes, is_passed_by}
use Rattle.replay_job.specs.Texts.{written_line, fault_line, unended_text}
use Rattle.replay_job.proofs.EveryTextLemmas.{text_found}
use Rattle.room_history.specs.Saving.{IsSavedOf}
use Rattle.room_model.specs.Reachable.{Reachable, anew, begins as from_beginning}
use Rattle.room_model.specs.Rooms.{new_room}
use Rattle.room_model.specs.Schemas.{WorldSchemas, Schemas, AreLawful}
use Rattle.room_model.specs.Worlds.{World}
use Rattle.room_model.specs.declared.limits.TheConstants.{LAST_CLOCK}
use Rattle.room_schemas.specs.Decided.{decided}
use Rattle.room_snapshot.specs.Lines.{line_val}
use Rattle.room_snapshot.specs.Saved.{saved_tree}
use Rattle.recording_lines.specs.Lines.{is_whole, recorded_lines}
use Rattle.saved_laws.proofs.LoadLemmas.{something_saved}
use Rattle.side_effects.specs.declared.fault.EditFault.{EditFault}
use Rattle.world_laws.specs.Reachable.{ReachableWorld, begun}
use Rattle.world_laws.proofs.DiffLemmas.{room_reached}
use Rattle.world_views.specs.Views.{Viewed}
use Rattle.world_views.proofs.LeavingLemmas.{leaves}
use Rattle.snapshot_jobs.specs.Saving.{Outcome, refused_at, ends_in, Comes, IsRoomLine, WritesOutcome, Saves}
use Rattle.replay_job.proofs.CaughtUpLemmas.{the_next}

-- once there is a world, the tables decide, and it can be reached
abbrev IsReached : Progress → Type 0
IsReached None = Unit {0}
IsReached (Some (schemas, viewed)) = AreOfTables schemas × ReachableWorld schemas viewed.world

-- there is such a world
abbrev IsThere : Progress → Type 0
IsThere None = ⊥
IsThere (Some (schemas, viewed)) = AreOfTables schemas × ReachableWorld schemas viewed.world

not_passed : (out more : List PrintedLine) (next last : Progress) → ended out next ≡ passed more last → ⊥
not_passed out more next last is = cc

passed_reaches : (schemas : WorldSchemas EditFault) (viewed : Viewed) (e : RecordedEvent) (out : List PrintedLine) (next : Progress)
    → AreOfTables schemas × ReachableWorld schemas viewed.world → Happens false schemas viewed e (passed out next) → IsReached next
passed_reaches schemas viewed e out next reached happens =
    subst IsReached (sym happens.4) (reached.0, (leaves schemas false viewed e happens.0 happens.1).reachable reached.1)

ended_reaches : (schemas : WorldSchemas EditFault) (viewed : Viewed) (e : RecordedEvent) (out : List PrintedLine) (next : Progress)
    → AreOfTables schemas × ReachableWorld schemas viewed.world → Happens false schemas viewed e (ended out next) → IsThere next
ended_reaches schemas viewed e out next reached happens =
    subst IsThere (sym happens.4) (reached.0, (leaves schemas false viewed e happens.0 happens.1).reachable reached.1)

next_passed : (progress next : Progress) (line : List ℕ) (out : List PrintedLine) → IsReached progress → TakesNext false progress line (passed out next) → IsReached next
next_passed None next line out reached takes =
    subst IsReached (sym takes.5) (takes.3.0, begun (new_room LAST_CLOCK) (from_beginning (new_room LAST_CLOCK) (anew LAST_CLOCK)) refl)
next_passed (Some (schemas, viewed)) next line out reached (inl other) = absurd (cc other.2)
next_passed (Some (schemas, viewed)) next line out reached (inr takes) = passed_reaches schemas viewed takes.0 out next reached takes.2

next_ended : (progress next : Progress) (line : List ℕ) (out : List PrintedLine) → IsReached progress → TakesNext false progress line (ended out next) → IsThere next
next_ended None next line out reached takes = absurd takes
next_ended (Some (schemas, viewed)) next line out reached (inl other) = absurd (cc other.2)
next_ended (Some (schemas, viewed)) next line out reached (inr takes) = ended_reaches schemas viewed takes.0 out next reached takes.2

line_passed : (progress next : Progress) (line : List ℕ) (out : List PrintedLine) → IsReached progress → Takes false progress line (passed out next) → IsReached next
line_passed progress next line out reached takes =
    elim (is_passed_by line) as (λ b. TakesUnless b false progress line (passed out next) → IsReached next) [
      | true ↦ λ same. subst IsReached (the_next out [] next progress same) reached
      | false ↦ λ later. next_passed progress next line out reached later
    ] takes

line_ended : (progress next : Progress) (line : List ℕ) (out : List PrintedLine) → IsReached progress → Takes false progress line (ended out next) → IsThere next
line_ended progress next line out reached takes =
    elim (is_passed_by line) as (λ b. TakesUnless b false progress line (ended out next) → IsThere next) [
      | true ↦ λ same. absurd (not_passed out [] next progress same)
      | false ↦ λ later. next_ended progress next line out reached later
    ] takes

-- what a recording comes to is a refusal, or a world that can be reached
abbrev EndsThere : Outcome → Type 0
EndsThere (refused_at at text) = Unit {0}
EndsThere (ends_in progress) = IsThere progress

-- where lines write a text, they come to something
comes_found : (unended : List ℕ) (progress : Progress) (at : ℕ) (lines : List (List ℕ)) (w : Written) → Writes false unended progress at lines w → IsReached progress
    → (outcome : Outcome) × Comes unended progress at lines outcome × EndsThere outcome
comes_found unended progress at [] w writes reached = (refused_at at unended, refl, tt)
comes_found unended progress at (line ∷ lines) w writes reached = by writes.0 writes.1 writes.2 (λ next rest. comes_found unended next (at + 1) lines rest)
  where
    by : (taken : Taken) → Takes false progress line taken → Follows at progress taken (λ next rest. Writes false unended next (at + 1) lines rest) w
        → ((next : Progress) (rest : Written) → Writes false unended next (at + 1) lines rest → IsReached next → (outcome : Outcome) × Comes unended next (at + 1) lines outcome × EndsThere outcome)
        → (outcome : Outcome) × Comes unended progress at (line ∷ lines) outcome × EndsThere outcome
    by (refused text) takes is more = (refused_at at text, (refused text, takes, refl), tt)
    by (ended out next) takes is more = (ends_in next, (ended out next, takes, refl), line_ended progress next line out reached takes)
    by (passed out next) takes rest more =
        let later = more next rest.0 rest.1 (line_passed progress next line out reached takes) in
        (later.0, (passed out next, takes, later.1), later.2)

-- the room of a world that can be reached has a line
room_line_found : (schemas : WorldSchemas EditFault) (world : World) → AreOfTables schemas → ReachableWorld schemas world → (line : List ℕ) × IsRoomLine schemas.room world.room line
room_line_found schemas world of reached =
    let tree = of.room in
    let by : schemas.room ≡ decided tree = ap (λ (s : WorldSchemas EditFault). s.room) of.are in
    let lawful_room : AreLawful (decided tree) = subst AreLawful by (lawful schemas of).room in
    let made : Reachable (decided tree) world.room = subst (λ (s : Schemas). Reachable s world.room) by (room_reached schemas (lawful schemas of) world reached) in
    let found = something_saved tree lawful_room world.room made in (
      written_line (text_of (line_val (saved_tree found.0) schemas.room.versions)),
      record {
        saved = found.0;
        of_room = subst (λ (s : Schemas). IsSavedOf s.is_document world.room.first world.room.history found.0) (sym by) found.1;
        text = refl;
      },
    )

outcome_written : (outcome : Outcome) → EndsThere outcome → (status : ℕ) × (text : List ℕ) × WritesOutcome outcome status text
outcome_written (refused_at at text) there = (3, fault_line at text, (refl, refl))
outcome_written (ends_in None) there = absurd there
outcome_written (ends_in (Some (schemas, viewed))) there = let line = room_line_found schemas viewed.world there.0 there.1 in (0, line.0, (refl, line.1))

pub text_saved : (recording : List ℕ) → (status : ℕ) × (text : List ℕ) × Saves recording status text
text_saved recording =
    let found = text_found false recording in
    let comes = comes_found (unended_text (is_whole recording)) None 1 (recorded_lines recording) found.0 found.1 tt in
    let written = outcome_written comes.0 comes.2 in
    (written.0, written.1, (comes.0, comes.1, written.2))
