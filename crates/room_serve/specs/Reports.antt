-- What a report says of a link that was served.
use Rattle.std.specs.Prelude.{◌≡◌, ◌⊎◌, ℕ, List, [], ◌∷◌, ◌++◌, All, length, slice_get, Bool, true, Option, None, Some, IfSome, option_and_then}
use Rattle.link_texts.specs.Joins.{IsJoin, IsNoJoin}
use Rattle.link_texts.specs.Sending.{counted}
use Rattle.link_texts.specs.declared.fault.WireFault.TheVariants.{Join}
use Rattle.link_texts.specs.declared.join.Join as named
use Rattle.room_events.specs.declared.room_event.RoomEvent.{RoomEvent}
use Rattle.room_events.specs.declared.room_event.RoomEvent.TheVariants.{Enter, Leave}
use Rattle.room_link.specs.Exchange.{Exchange, Arrival, text, idle}
use Rattle.room_link.specs.declared.passing.Outgoing.{Outgoing}
use Rattle.room_run.specs.Calls.{HasSeenFull}
use Rattle.room_run.specs.Passes.{room_of_gone, view_of_gone}
use Rattle.room_run.specs.Rooms.{id_of, opening_of}
use Rattle.room_run.specs.declared.passes.Gone.{Gone}
use Rattle.room_run.specs.declared.running.RunningRoom.{RunningRoom}
use Rattle.room_serve.specs.Accounts.{IsOpen, nothing_sent, texts_after}
use Rattle.room_serve.specs.Courses.{Course, IsClosing}
use Rattle.room_serve.specs.declared.account.Account.{Account}
use Rattle.room_serve.specs.declared.report.Report.{Report}
use Rattle.sync_msgs.specs.declared.end_reason.EndReason.TheVariants.{InvalidRecord, RoomFull}
use Rattle.wire_text.specs.Feeding.{Assembly, empty}

-- what is noted in a report
abbrev pub account_of : Report → Account
account_of report = record {
  texts = report.texts;
  sent = record { texts = report.sent; ended = report.ended };
  wire = report.wire;
  fault = report.fault;
  memory = report.memory;
}

-- the session of one that is gone, if there is one and it had a session
abbrev pub session_of : Option Gone → Option ℕ
session_of gone = option_and_then (λ one. one.session) gone

-- one that is gone was in the room whose number a report has
pub record WasIn (rooms : List RunningRoom) (room : Option ℕ) (gone : Gone) : Type 0 where
  pub number : ℕ
  pub running : RunningRoom
  pub named : room ≡ Some number
  pub there : slice_get rooms number ≡ Some running
  pub own : room_of_gone gone ≡ id_of running

-- a link named no room: nothing came but idles, or a text came that names none of so many, or for which memory was refused
abbrev pub IsUnjoined : ℕ → Account → List Arrival → List Outgoing → Type 0
IsUnjoined rooms account [] put = (put ≡ []) × (account.wire ≡ None)
IsUnjoined rooms account (text bytes ∷ []) put =
    (IsNoJoin rooms bytes × (account.wire ≡ Some Join) × IsClosing account InvalidRecord put)
    ⊎ ((account.memory ≡ true) × (account.wire ≡ None) × (put ≡ []))
IsUnjoined rooms account arrivals put = ⊥

-- a session was served: its events are its enter, those by what arrived, and its leave. A message has at most 4,194,304 bytes
pub record IsServed (number : ℕ) (readonly : Bool) (mine : List RoomEvent) (arrivals : List Arrival) (put : List Outgoing) (account : Account) : Type 0 where
  pub events : List RoomEvent
  pub next : Assembly
  pub mine_is : mine ≡ Enter number readonly ∷ events ++ Leave number ∷ []
  pub course : Course number (empty 4194304) next arrivals events put account

-- a link was told that its room is full, as this shows
pub record IsTurnedAway (Full : Type 0) (arrivals : List Arrival) (put : List Outgoing) (account : Account) : Type 0 where
  pub full : Full
  pub nothing : arrivals ≡ []
  pub wire : account.wire ≡ None
  pub closing : IsClosing account RoomFull put

-- memory was refused before a link was in its room
pub record IsKeptOut (arrivals : List Arrival) (put : List Outgoing) (account : Account) : Type 0 where
  pub refused : account.memory ≡ true
  pub wire : account.wire ≡ None
  pub nothing : arrivals ≡ []
  pub silent : put ≡ []

-- a link was in a room: with a session that did these events there, or, if it had none, while the room was full
module _ (Full : Type 0) (mine_of : ℕ → List RoomEvent) where
  abbrev pub IsStay : Option ℕ → Bool → Account → List Arrival → List Outgoing → Type 0
  IsStay None readonly account arrivals put = IsTurnedAway Full arrivals put account
  IsStay (Some number) readonly account arrivals put = IsServed number readonly (mine_of number) arrivals put account

-- what is told of a link by who is gone
abbrev pub IsVisit : RunningRoom → Option Gone → Bool → Account → List Arrival → List Outgoing → Type 0
IsVisit room None readonly account arrivals put = IsKeptOut arrivals put account
IsVisit room (Some gone) readonly account arrivals put =
    IsStay (HasSeenFull (opening_of room) (view_of_gone gone)) (λ number. (view_of_gone gone).mine) gone.session readonly account arrivals put

-- how a link was in the room that it has named
abbrev pub Visit : Type 1
Visit = Bool → Account → List Arrival → List Outgoing → Type 0

-- a link has named a room, one of so many, by its first text, and was there
pub record IsJoined (count number : ℕ) (Was : Visit) (account : Account) (arrivals : List Arrival) (put : List Outgoing) : Type 0 where
  pub bytes : List ℕ
  pub join : named.Join
  pub rest : List Arrival
  pub first : arrivals ≡ text bytes ∷ rest
  pub names : IsJoin count bytes join
  pub is : join.room ≡ number
  pub visit : Was join.readonly account rest put

module _ (count : ℕ) (Was : ℕ → Visit) where
  -- what arrived but for the idles before a room was named, and what went out, by the room of a report
  abbrev pub IsService : Option ℕ → Account → List Arrival → List Outgoing → Type 0
  IsService None account arrivals put = IsUnjoined count account arrivals put
  IsService (Some number) account arrivals put = IsJoined count number (Was number) account arrivals put

  -- a link was served as a report says: idles came, then what was taken; and nothing is left if nothing ended the service
  pub record Serves (report : Report) (old new : Exchange) : Type 0 where
    pub idles : List Arrival
    pub arrivals : List Arrival
    pub put : List Outgoing
    pub quiet : All (λ arrival. arrival ≡ idle) idles
    pub taken : old.left ≡ (idles ++ arrivals) ++ new.left
    pub out : new.sent ≡ old.sent ++ put
    pub service : IsService report.room (account_of report) arrivals put
    pub texts : report.texts ≡ texts_after 0 arrivals
    pub sent : (account_of report).sent ≡ counted nothing_sent put
    pub whole : IsOpen (account_of report) → new.left ≡ []

-- the same of running rooms
module _ (rooms : List RunningRoom) where
  -- how a link was in the room of a number, by who is gone
  abbrev pub WasThere : Option Gone → ℕ → Visit
  WasThere gone number readonly account arrivals put =
      (room : RunningRoom) × (slice_get rooms number ≡ Some room) × IsVisit room gone readonly account arrivals put

  abbrev pub ServesIn : Report → Exchange → Exchange → Type 0
  ServesIn report = Serves (length rooms) (WasThere report.gone) report

-- what a report says of who is gone: the session; and nobody is gone only if no room was named or memory was refused
pub record IsReport (rooms : List RunningRoom) (report : Report) : Type 0 where
  pub own : IfSome report.gone (WasIn rooms report.room)
  pub session : report.session ≡ session_of report.gone
  pub none : report.gone ≡ None → (report.room ≡ None) ⊎ (report.memory ≡ true)
