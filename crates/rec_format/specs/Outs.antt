-- The text of each printed line.
use Rattle.std.specs.Prelude.{ℕ, ℤ, pos, nat_le, List, [], ◌∷◌, Bool, true, codes, if◌then◌else◌}
use Rattle.rooms_val.specs.Data.{Data, Pairs, boolean, whole, text, map, members_of}
use Rattle.rooms_val.specs.Json.{text_of}
use Rattle.rooms_val.specs.View.{data_of}
use Rattle.sync_msgs.specs.declared.end_reason.EndReason.{EndReason}
use Rattle.sync_msgs.specs.declared.end_reason.EndReason.TheVariants as reason
use Rattle.room_model.specs.declared.line.OutLine.{OutLine}
use Rattle.room_model.specs.declared.line.OutLine.TheVariants as line
use Rattle.sync_msgs.specs.declared.client_message.ClientMessage.{ClientMessage}
use Rattle.sync_msgs.specs.declared.server_message.ServerMessage.{ServerMessage}
use Rattle.wire_msgs.specs.Messages.{client_val, server_val}
use Rattle.rec_format.specs.declared.fields.TheConstants.{MOST_PRINTED}

-- the number that is printed for a number: the greatest that a value can have stands for all beyond it
abbrev pub number_printed : ℕ → ℕ
number_printed n = if nat_le n MOST_PRINTED then n else MOST_PRINTED

-- the value of a number that is printed
abbrev pub number_val : ℕ → Data
number_val n = whole (pos (number_printed n))

-- the name of a reason
abbrev pub reason_text : EndReason → List ℕ
reason_text reason.ClientTooOld = codes "CLIENT_TOO_OLD"
reason_text reason.ServerTooOld = codes "SERVER_TOO_OLD"
reason_text reason.InvalidRecord = codes "INVALID_RECORD"
reason_text reason.RoomFull = codes "ROOM_FULL"
reason_text reason.Slow = codes "SLOW"

-- whether a client had edits to take back: `{"client":C,"undo":true}`
abbrev pub undo_fields : ℕ → Bool → Pairs
undo_fields c done = (codes "client", number_val c) ∷ (codes "undo", boolean done) ∷ []

-- whether a client had edits to do again: `{"client":C,"redo":true}`
abbrev pub redo_fields : ℕ → Bool → Pairs
redo_fields c done = (codes "client", number_val c) ∷ (codes "redo", boolean done) ∷ []

-- a client was told an end: `{"client":C,"ended":REASON}`
abbrev pub ended_fields : ℕ → EndReason → Pairs
ended_fields c reason = (codes "client", number_val c) ∷ (codes "ended", text (reason_text reason)) ∷ []

-- the clock and the document, with which the fields of a client and of the room begin
abbrev pub clock_and_doc : Data → Data → Pairs
clock_and_doc clock doc = (codes "clock", clock) ∷ (codes "doc", doc) ∷ []

-- what a client shows: `{"clock":CLOCK,"doc":DOC,"others":OTHERS,"owed":N,"show":C}`
abbrev pub show_fields : ℕ → ℤ → Data → Data → ℕ → Pairs
show_fields c clock doc others owed = (codes "clock", whole clock) ∷ (codes "doc", doc) ∷ (codes "others", others)
    ∷ (codes "owed", number_val owed) ∷ (codes "show", number_val c) ∷ []

-- what the room has at the end: `{"clock":CLOCK,"doc":DOC,"end":true,"presence":PRESENCE}`
abbrev pub end_fields : ℤ → Data → Data → Pairs
end_fields clock doc presence = (codes "clock", whole clock) ∷ (codes "doc", doc) ∷ (codes "end", boolean true) ∷ (codes "presence", presence) ∷ []

-- a message was given to the room: `{"from":S,"message":M}`
abbrev pub from_fields : ℕ → ClientMessage → Pairs
from_fields s m = (codes "from", number_val s) ∷ (codes "message", client_val m) ∷ []

-- the room gave out a message: `{"message":M,"to":S}`
abbrev pub to_fields : ℕ → ServerMessage → Pairs
to_fields s m = (codes "message", server_val m) ∷ (codes "to", number_val s) ∷ []

-- the room gave out an end: `{"end":REASON,"to":S}`
abbrev pub ending_fields : ℕ → EndReason → Pairs
ending_fields s reason = (codes "end", text (reason_text reason)) ∷ (codes "to", number_val s) ∷ []

-- where the recording is refused: `{"at":N,"fault":"NAME"}`
abbrev pub fault_fields : ℕ → List ℕ → Pairs
fault_fields at name = (codes "at", number_val at) ∷ (codes "fault", text name) ∷ []

-- the fields of a line, by key
abbrev pub line_fields : OutLine → Pairs
line_fields (line.Undo c done) = undo_fields c done
line_fields (line.Redo c done) = redo_fields c done
line_fields (line.Ended c reason) = ended_fields c reason
line_fields (line.Show c clock doc others owed) = show_fields c clock (data_of doc) (data_of others) owed
line_fields (line.End clock doc presence) = end_fields clock (data_of doc) (data_of presence)
line_fields (line.From s message) = from_fields s message
line_fields (line.To s message) = to_fields s message
line_fields (line.Ending s reason) = ending_fields s reason
line_fields (line.Fault at name) = fault_fields at name

-- the text of a line
abbrev pub line_text : OutLine → List ℕ
line_text l = text_of (map (members_of (line_fields l)))
