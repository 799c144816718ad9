-- What is told of a link from when it has named its room.
use Rattle.std.specs.Prelude.{◌≡◌, List, [], ◌++◌, Bool, Option, None, Some}
use Rattle.link_texts.specs.Sending.{counted}
use Rattle.room_link.specs.Exchange.{Exchange, Arrival}
use Rattle.room_link.specs.declared.passing.Outgoing.{Outgoing}
use Rattle.room_run.specs.declared.passes.Gone.{Gone}
use Rattle.room_run.specs.declared.passes.PassFault.{PassFault}
use Rattle.room_run.specs.declared.passes.PassFault.TheVariants.{Full, OutOfMemory}
use Rattle.room_run.specs.declared.running.RunningRoom.{RunningRoom}
use Rattle.room_serve.specs.Accounts.{IsOpen, texts_after}
use Rattle.room_serve.specs.Courses.{IsClosing}
use Rattle.room_serve.specs.Reports.{account_of, IsVisit}
use Rattle.room_serve.specs.declared.account.Account.{Account}
use Rattle.room_serve.specs.declared.report.Report.{Report}
use Rattle.sync_msgs.specs.declared.end_reason.EndReason.TheVariants.{RoomFull}

-- who is gone of a full room
abbrev pub full_gone : PassFault → Option Gone
full_gone (Full gone) = Some gone
full_gone OutOfMemory = None

-- a link was in its room, as a report says
pub record Visits (room : RunningRoom) (readonly : Bool) (before : Account) (report : Report) (old new : Exchange) : Type 0 where
  pub arrivals : List Arrival
  pub put : List Outgoing
  pub taken : old.left ≡ arrivals ++ new.left
  pub out : new.sent ≡ old.sent ++ put
  pub visit : IsVisit room report.gone readonly (account_of report) arrivals put
  pub texts : report.texts ≡ texts_after before.texts arrivals
  pub sent : (account_of report).sent ≡ counted before.sent put
  pub whole : IsOpen (account_of report) → new.left ≡ []

-- a link had to go: it was closed because its room is full, or memory was refused
pub record TurnsAway (gone : Option Gone) (before : Account) (report : Report) (old new : Exchange) : Type 0 where
  pub put : List Outgoing
  pub out : new ≡ record old { sent = old.sent ++ put }
  pub texts : report.texts ≡ before.texts
  pub sent : (account_of report).sent ≡ counted before.sent put
  pub wire : report.wire ≡ None
  pub full : (one : Gone) → gone ≡ Some one → IsClosing (account_of report) RoomFull put
  pub none : gone ≡ None → put ≡ []
  pub shut : IsOpen (account_of report) → ⊥
