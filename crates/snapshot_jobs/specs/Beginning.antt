-- Which beginning of the definitions the code's stands for.
use Rattle.std.specs.Prelude.{◌≡◌, ℕ, ◌+◌, nat_lt, List, length, ⊤, Option, Some, None, Ok}
use Rattle.replay_job.specs.Endings.{rest_of}
use Rattle.replay_job.specs.Replies.{Reads}
use Rattle.recording_lines.specs.Lines.{lines_left}
use Rattle.rec_format.specs.declared.read.TheConstants as format
use Rattle.room_snapshot.specs.Saved.{saved_tree}
use Rattle.room_snapshot.specs.declared.snapshot.Snapshot.{Snapshot}
use Rattle.room_snapshot.specs.declared.snapshot.TheConstants as snapshot
use Rattle.schema_core.specs.Tree.{SchemaTree}
use Rattle.snapshot_jobs.specs.Restored.{IsWorldOf}
use Rattle.snapshot_jobs.specs.Restoring.{IsUnfit, Beginning, refused_at, begins, SavedLine, TakesSaved, TakesHeader}
use Rattle.snapshot_jobs.specs.Seeking.{first_line}
use Rattle.snapshot_jobs.specs.declared.restore.Begun.{Begun}
use Rattle.snapshot_jobs.specs.declared.restore.Begun.TheVariants.{Refused, Going}

-- the code is refused at the same line for the same cause; or its world stands for the one in which events go on, and what is left is still
-- to come
abbrev pub Tells : ℕ → ℕ → Option (List ℕ) → Beginning → Begun → Type 0
Tells most after come (refused_at at text) (Refused number fault) = (number ≡ at) × (fault ≡ text)
Tells most after come (begins rest) (Going number world) = Reads rest.progress (Some world) × (rest_of rest.progress number most after come ≡ Some rest)
Tells most after come b begun = ⊥

-- what is to come begins so, with the line of a saved room
abbrev pub BeginsSaved : ℕ → ℕ → Option (List ℕ) → ℕ → Option (List ℕ) → Begun → Type 0
BeginsSaved most before None after come begun = ⊤
BeginsSaved most before (Some old) after come begun =
    (b : Beginning) × TakesSaved (nat_lt (length old) before) (first_line snapshot.LONGEST_LINE 1 (lines_left most before old)) b × Tells most after come b begun

-- what is to come behind the line of a saved room begins so, with a header
abbrev pub BeginsHeader : SavedLine → ℕ → ℕ → Option (List ℕ) → ℕ → Option (List ℕ) → Begun → Type 0
BeginsHeader from most before None after come begun = ⊤
BeginsHeader from most before (Some old) after come begun =
    (b : Beginning) × TakesHeader (nat_lt (length old) before) from (first_line format.LONGEST_LINE (from.at + 1) (lines_left most before old)) b
    × Tells most after come b begun

-- at a schema a saved room is refused, at its line; or a world that stands for that over the room that begins from it goes on at a line
abbrev pub BeginsAt : SchemaTree → SavedLine → ℕ → Begun → Type 0
BeginsAt schema from next (Refused number fault) = (number ≡ from.at) × IsUnfit schema from.saved from.held fault
BeginsAt schema from next (Going number world) = (number ≡ next) × IsWorldOf schema from.saved from.held (Ok world)

-- the line of a snapshot
abbrev pub line_of : ℕ → Snapshot → SavedLine
line_of at read = record { at = at; saved = saved_tree read.saved; held = read.held }

-- the property holds of the number of the next line, where events go on
abbrev pub IfGoing : Begun → (ℕ → Type 0) → Type 0
IfGoing (Refused at fault) P = ⊤
IfGoing (Going at world) P = P at
