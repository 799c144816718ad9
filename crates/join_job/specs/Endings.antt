-- How a script ends, and why it is cut off.
use Rattle.std.specs.Prelude.{Option, Some, None, Result, Ok, Err}
use Rattle.recording_lines.specs.declared.fault.ReadFault.{ReadFault}
use Rattle.recording_lines.specs.declared.fault.ReadFault.TheVariants as read
use Rattle.room_link.specs.declared.passing.Stop.TheVariants as link
use Rattle.room_link.specs.declared.passing.Stop as passing
use Rattle.join_job.specs.declared.ending.End.{End}
use Rattle.join_job.specs.declared.ending.End.TheVariants as end
use Rattle.join_job.specs.declared.ending.JoinEnd.{JoinEnd}
use Rattle.join_job.specs.declared.ending.JoinEnd.TheVariants as join
use Rattle.join_job.specs.declared.ending.Stop.{Stop}
use Rattle.join_job.specs.declared.ending.Stop.TheVariants as stop

-- what a script ends with
abbrev pub join_end : Result End Stop → JoinEnd
join_end (Ok end.Done) = join.Done
join_end (Ok end.Refused) = join.Refused
join_end (Ok end.Server) = join.Server
join_end (Err stop.Read) = join.Read
join_end (Err stop.Write) = join.Write
join_end (Err stop.Memory) = join.Memory
join_end (Err stop.Link) = join.Link

-- how a script ended that was played, and nothing where it was cut off
abbrev pub played_to : Result End Stop → Option End
played_to (Ok by) = Some by
played_to (Err cause) = None

-- the same of what it ended with
abbrev pub ended_by : JoinEnd → Option End
ended_by join.Done = Some end.Done
ended_by join.Refused = Some end.Refused
ended_by join.Server = Some end.Server
ended_by join.Read = None
ended_by join.Write = None
ended_by join.Memory = None
ended_by join.Link = None

-- why a script is cut off that can't be read
abbrev pub stop_of_read : ReadFault → Stop
stop_of_read read.Failed = stop.Read
stop_of_read read.OutOfMemory = stop.Memory

-- why a script is cut off where a call on its link returns no value
abbrev pub stop_of_link : passing.Stop → Stop
stop_of_link link.Failed = stop.Link
stop_of_link link.OutOfMemory = stop.Memory
