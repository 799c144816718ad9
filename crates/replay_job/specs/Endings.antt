-- How a replay ends, and what it leaves in its sink.
use Rattle.std.specs.Prelude.{◌≡◌, ◌≤◌, ℕ, ◌⊎◌, List, length, Bool, ⊤, Option, Some, None, Result, Ok, Err, if◌then◌else◌, nat_lt, option_map}
use Rattle.std.specs.Io.KnownBytes.{Consumes}
use Rattle.recording_lines.specs.declared.fault.ReadFault.{ReadFault}
use Rattle.recording_lines.specs.declared.fault.ReadFault.TheVariants as read
use Rattle.room_link.specs.Held.{Extends}
use Rattle.recording_lines.specs.Lines.{lines_left}
use Rattle.replay_job.specs.Replay.{Written, Rest, all_of, RestWrites, RestWritesFront, Replays}
use Rattle.replay_job.specs.Taking.{Progress}
use Rattle.replay_job.specs.Replies.{Reads}
use Rattle.replay_job.specs.declared.play.End.{End}
use Rattle.replay_job.specs.declared.play.End.TheVariants.{Done, Refused}
use Rattle.replay_job.specs.declared.play.Stop.{Stop}
use Rattle.replay_job.specs.declared.play.Stop.TheVariants.{SourceFailed, SinkFailed, OutOfMemory}
use Rattle.world_views.specs.declared.viewed.ViewedWorld.{ViewedWorld}

-- the status with which a replay ends
abbrev pub status_code : Result End Stop → ℕ
status_code (Ok Done) = 0
status_code (Ok Refused) = 3
status_code (Err SourceFailed) = 4
status_code (Err SinkFailed) = 5
status_code (Err OutOfMemory) = 6

-- the statuses of a replay
abbrev pub IsReplayStatus : ℕ → Type 0
IsReplayStatus status = (status ≡ 0) ⊎ (status ≡ 3) ⊎ (status ≡ 4) ⊎ (status ≡ 5) ⊎ (status ≡ 6)

-- the status of a recording that is read whole: 0 where it is read to its `end` line, 3 where it is refused
abbrev pub status_of : Written → ℕ
status_of w = if w.is_ended then 0 else 3

-- what is left of a recording, where that is known: how far it was read, the number of the next line, what is to come, how many bytes of
-- that may be looked at, and how many a line may have
abbrev pub rest_of : Progress → ℕ → ℕ → ℕ → Option (List ℕ) → Option Rest
rest_of progress at longest budget come =
    option_map (λ bytes. record { progress = progress; at = at; lines = lines_left longest budget bytes; whole = nat_lt (length bytes) budget }) come

-- where that is known: what the rest writes stands in the sink behind what that held, and the status is the recording's; the world stands
-- for the one that the recording leads to
abbrev pub WritesRest : Bool → Option Rest → ℕ → Option ViewedWorld → Option (List ℕ) → Option (List ℕ) → Type 0
WritesRest trace None status world old new = ⊤
WritesRest trace (Some rest) status world old new =
    (w : Written) × RestWrites trace rest w × (status ≡ status_of w) × Reads w.reached world × Extends old new w.text

-- the same of a recording that the source held
abbrev pub WritesAll : Bool → Option (List ℕ) → ℕ → Option ViewedWorld → Option (List ℕ) → Option (List ℕ) → Type 0
WritesAll trace recording status world old new = WritesRest trace (option_map all_of recording) status world old new

-- where the source tells the recording that it held: what the recording writes stands in the sink behind what that held, and the status is
-- the recording's
abbrev pub Prints : Bool → Option (List ℕ) → ℕ → Option (List ℕ) → Option (List ℕ) → Type 0
Prints trace None status old new = ⊤
Prints trace (Some recording) status old new = (w : Written) × Replays trace recording w × (status ≡ status_of w) × Extends old new w.text

-- a front of what the rest writes stands there
abbrev pub WritesRestFront : Bool → Option Rest → Option (List ℕ) → Option (List ℕ) → Type 0
WritesRestFront trace None old new = ⊤
WritesRestFront trace (Some rest) old new = (front : List ℕ) × RestWritesFront trace rest front × Extends old new front

-- the same of a recording that the source held
abbrev pub PrintsFront : Bool → Option (List ℕ) → Option (List ℕ) → Option (List ℕ) → Type 0
PrintsFront trace recording old new = WritesRestFront trace (option_map all_of recording) old new

-- how a recording that is taken line by line leaves sink and world
abbrev pub Leaves : Bool → Option Rest → Result End Stop → Option ViewedWorld → Option (List ℕ) → Option (List ℕ) → Type 0
Leaves trace rest (Ok end) world old new = WritesRest trace rest (status_code (Ok end)) world old new
Leaves trace rest (Err stop) world old new = WritesRestFront trace rest old new

-- where a source tells what is left, that was a front of so many bytes at most, followed by what is left now
abbrev pub TakesFront : ℕ → Option (List ℕ) → Option (List ℕ) → Type 0
TakesFront most old new = (front : List ℕ) × (length front ≤ most) × Consumes old new front

abbrev pub stop_of : ReadFault → Stop
stop_of read.Failed = SourceFailed
stop_of read.OutOfMemory = OutOfMemory
