-- Which lines stand for a header or an event, and why a line stands for none.
use Rattle.std.specs.Prelude.{◌≡◌, ℕ, ◌≤◌, ◌<◌, List, length, codes, Option, Some, None, Ok, Err, option_and_then}
use Rattle.rooms_val.specs.Data as data'
use Rattle.rooms_val.specs.Data.{Data}
use Rattle.rooms_val.specs.Kinds.{field}
use Rattle.rooms_val.specs.Json.{value_of}
use Rattle.room_model.specs.declared.event.Header.{Header}
use Rattle.rec_format.specs.Events.{header_val}
use Rattle.tl_tables.specs.Tables.{IsVersion}
use Rattle.rec_format.specs.Recorded.{recorded_val, IsProperRecorded}
use Rattle.rec_format.specs.Verbs.{word_of}
use Rattle.rec_format.specs.declared.read.TheConstants.{LONGEST_LINE}
use Rattle.rec_format.specs.declared.recorded.RecordedEvent.{RecordedEvent}
use Rattle.rec_format.specs.declared.verb.Verb.{Verb}
use Rattle.rec_format.specs.declared.fault.LineFault.{LineFault}
use Rattle.rec_format.specs.declared.fault.LineFault.TheVariants as line_fault

-- the line, without its newline, isn't too long and is read as the value
abbrev pub IsOf : List ℕ → Data → Type 0
IsOf line d = length line ≤ LONGEST_LINE × (value_of line ≡ Ok d)

-- the line stands for the header
abbrev pub IsHeader : List ℕ → Header → Type 0
IsHeader line h = IsOf line (header_val h) × IsVersion h.version

-- the line stands for the event
abbrev pub IsEvent : List ℕ → RecordedEvent → Type 0
IsEvent line e = IsOf line (recorded_val e) × IsProperRecorded e

-- the value is that of no header
abbrev pub IsNoHeader : Data → Type 0
IsNoHeader d = (h : Header) → IsVersion h.version → ¬ (d ≡ header_val h)

-- the value is that of no event
abbrev pub IsNoEvent : Data → Type 0
IsNoEvent d = (e : RecordedEvent) → IsProperRecorded e → ¬ (d ≡ recorded_val e)

abbrev pub text_in : Data → Option (List ℕ)
text_in (data'.text s) = Some s
text_in data'.null = None
text_in (data'.boolean b) = None
text_in (data'.whole z) = None
text_in (data'.list ds) = None
text_in (data'.map ms) = None

-- the text under `do`, where the value is a map and has one there
abbrev pub word_in : Data → Option (List ℕ)
word_in d = option_and_then text_in (field d (codes "do"))

-- the value has under `do` a text that is the word of no event
abbrev pub IsUnknown : Data → Type 0
IsUnknown d = (word : List ℕ) × (word_in d ≡ Some word) × ((v : Verb) → ¬ (word ≡ word_of v))

-- the cause of each fault of a value that is read as an event
abbrev pub RefusesVal : Data → LineFault → Type 0
RefusesVal d line_fault.UnknownEvent = IsUnknown d
RefusesVal d line_fault.Field = (¬ IsUnknown d) × IsNoEvent d
RefusesVal d line_fault.OutOfMemory = Unit {0}
RefusesVal d _ = ⊥

-- the cause of each fault of a line that is read as a value
abbrev pub RefusesBytes : List ℕ → LineFault → Type 0
RefusesBytes line line_fault.LineTooLong = LONGEST_LINE < length line
RefusesBytes line (line_fault.Val fault) = length line ≤ LONGEST_LINE × (value_of line ≡ Err fault)
RefusesBytes line line_fault.OutOfMemory = Unit {0}
RefusesBytes line _ = ⊥

-- the cause of each fault of a line that is read as a header; `OutOfMemory` alone has none
abbrev pub RefusesHeader : List ℕ → LineFault → Type 0
RefusesHeader line line_fault.LineTooLong = LONGEST_LINE < length line
RefusesHeader line (line_fault.Val fault) = length line ≤ LONGEST_LINE × (value_of line ≡ Err fault)
RefusesHeader line line_fault.NoHeader = (d : Data) × IsOf line d × IsNoHeader d
RefusesHeader line line_fault.UnknownEvent = ⊥
RefusesHeader line line_fault.Field = ⊥
RefusesHeader line line_fault.OutOfMemory = Unit {0}

-- the cause of each fault of a line that is read as an event; `OutOfMemory` alone has none
abbrev pub RefusesLine : List ℕ → LineFault → Type 0
RefusesLine line line_fault.LineTooLong = LONGEST_LINE < length line
RefusesLine line (line_fault.Val fault) = length line ≤ LONGEST_LINE × (value_of line ≡ Err fault)
RefusesLine line line_fault.NoHeader = ⊥
RefusesLine line line_fault.UnknownEvent = (d : Data) × IsOf line d × IsUnknown d
RefusesLine line line_fault.Field = (d : Data) × IsOf line d × (¬ IsUnknown d) × IsNoEvent d
RefusesLine line line_fault.OutOfMemory = Unit {0}
