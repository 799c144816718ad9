-- The text of a reason.
use Rattle.std.specs.Prelude.{ℕ, List, codes}
use Rattle.sync_msgs.specs.declared.end_reason.EndReason.{EndReason}
use Rattle.sync_msgs.specs.declared.end_reason.EndReason.TheVariants as reason

-- the name of the reason in capitals, with `_` between words
abbrev pub reason_text : EndReason → List ℕ
reason_text reason.ClientTooOld = codes "CLIENT_TOO_OLD"
reason_text reason.ServerTooOld = codes "SERVER_TOO_OLD"
reason_text reason.InvalidRecord = codes "INVALID_RECORD"
reason_text reason.RoomFull = codes "ROOM_FULL"
reason_text reason.Slow = codes "SLOW"
