-- What becomes of a line of a recording.
use Rattle.std.specs.Prelude.{◌≡◌, ℕ, nat_le, List, [], length, Bool, true, false, ◌&&◌, ◌⊎◌, Option, Some, None, Ok, Err}
use Rattle.recording_lines.specs.Lines.{is_blank}
use Rattle.rec_format.specs.Lines.{IsHeader, IsEvent, RefusesHeader, RefusesLine}
use Rattle.rec_format.specs.declared.fault.LineFault.{LineFault}
use Rattle.rec_format.specs.declared.printed.PrintedLine.{PrintedLine}
use Rattle.rec_format.specs.declared.read.TheConstants.{LONGEST_LINE}
use Rattle.rec_format.specs.declared.recorded.RecordedEvent.{RecordedEvent}
use Rattle.rec_format.specs.declared.recorded.RecordedEvent.TheVariants as recorded
use Rattle.fault_texts.specs.Texts.{line_fault_text, step_fault_text}
use Rattle.side_effects.specs.declared.fault.EditFault.{EditFault}
use Rattle.room_model.specs.Schemas.{WorldSchemas}
use Rattle.room_model.specs.declared.event.Event.TheVariants as event
use Rattle.room_model.specs.declared.event.Header.{Header}
use Rattle.room_model.specs.declared.fault.StepFault.{StepFault}
use Rattle.sync_world.specs.Standing.{IsAtVersion}
use Rattle.world_views.specs.Views.{Viewed, Stepped, nothing_viewed, after_recorded}

-- how far a recording was read: before its header, or in this world with what its clients watch, of which these schemas decide
abbrev pub Progress : Type 0
Progress = Option (WorldSchemas EditFault × Viewed)

-- what becomes of a line: it is refused for a cause of this text; or it prints these lines and leaves this progress; or it prints them and
-- ends the recording
pub data Taken : Type 0 where
  refused : List ℕ → Taken
  passed : List PrintedLine → Progress → Taken
  ended : List PrintedLine → Progress → Taken

-- the event ends the recording
abbrev pub is_end : RecordedEvent → Bool
is_end (recorded.World event.End) = true
is_end other = false

-- what becomes of an event in a world
abbrev pub Happens : Bool → WorldSchemas EditFault → Viewed → RecordedEvent → Taken → Type 0
Happens trace schemas viewed e (refused text) =
    (fault : StepFault EditFault) × (after_recorded schemas trace viewed e ≡ Err fault) × (step_fault_text fault ≡ Some text)
Happens trace schemas viewed e (passed lines next) =
    (made : Stepped) × (after_recorded schemas trace viewed e ≡ Ok made) × (is_end e ≡ false) × (lines ≡ made.lines) × (next ≡ Some (schemas, made.viewed))
Happens trace schemas viewed e (ended lines next) =
    (made : Stepped) × (after_recorded schemas trace viewed e ≡ Ok made) × (is_end e ≡ true) × (lines ≡ made.lines) × (next ≡ Some (schemas, made.viewed))

-- a line is no header, for a cause of this text
abbrev pub IsRefusedHeader : List ℕ → List ℕ → Type 0
IsRefusedHeader line text = (fault : LineFault) × RefusesHeader line fault × (line_fault_text fault ≡ Some text)

-- a line is no event, for a cause of this text
abbrev pub IsRefusedEvent : List ℕ → List ℕ → Type 0
IsRefusedEvent line text = (fault : LineFault) × RefusesLine line fault × (line_fault_text fault ≡ Some text)

-- the first line makes the world in which nothing happened and nobody watches, whose room is at the header's version
abbrev pub TakesHeader : List ℕ → Taken → Type 0
TakesHeader line (refused text) = IsRefusedHeader line text
TakesHeader line (passed lines next) =
    (header : Header) × (schemas : WorldSchemas EditFault)
    × IsHeader line header × IsAtVersion header.version schemas × (lines ≡ []) × (next ≡ Some (schemas, nothing_viewed))
TakesHeader line (ended lines next) = ⊥

-- each later line is an event, which happens in the world
abbrev pub TakesEvent : Bool → WorldSchemas EditFault → Viewed → List ℕ → Taken → Type 0
TakesEvent trace schemas viewed line taken =
    ((text : List ℕ) × IsRefusedEvent line text × (taken ≡ refused text))
    ⊎ ((e : RecordedEvent) × IsEvent line e × Happens trace schemas viewed e taken)

-- the same of a line that isn't passed by
abbrev pub TakesNext : Bool → Progress → List ℕ → Taken → Type 0
TakesNext trace None line taken = TakesHeader line taken
TakesNext trace (Some (schemas, viewed)) line taken = TakesEvent trace schemas viewed line taken

-- a blank line that isn't too long is passed by
abbrev pub is_passed_by : List ℕ → Bool
is_passed_by line = nat_le (length line) LONGEST_LINE && is_blank line

abbrev pub TakesUnless : Bool → Bool → Progress → List ℕ → Taken → Type 0
TakesUnless true trace progress line taken = taken ≡ passed [] progress
TakesUnless false trace progress line taken = TakesNext trace progress line taken

-- what becomes of a line after this progress
abbrev pub Takes : Bool → Progress → List ℕ → Taken → Type 0
Takes trace progress line taken = TakesUnless (is_passed_by line) trace progress line taken
