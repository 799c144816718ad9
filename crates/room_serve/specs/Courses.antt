-- What a link's texts and idles make of a session, and what goes out for it.
use Rattle.std.specs.Prelude.{◌≡◌, ◌⊎◌, ℕ, List, [], ◌∷◌, ◌++◌, All, true, None, Some}
use Rattle.link_texts.specs.Hearing.{Refuses}
use Rattle.link_texts.specs.Sending.{ArePrinted, AreBegun}
use Rattle.link_texts.specs.declared.fault.WireFault.{WireFault}
use Rattle.room_events.specs.declared.room_event.RoomEvent.{RoomEvent}
use Rattle.room_link.specs.Exchange.{Arrival, text}
use Rattle.room_link.specs.declared.passing.Outgoing.{Outgoing}
use Rattle.room_link.specs.declared.passing.Outgoing.TheVariants.{Close}
use Rattle.room_serve.specs.Accounts.{IsOpen, IsWell}
use Rattle.room_serve.specs.Answering.{Input, AreHeard, AreAnswered, IsCut}
use Rattle.room_serve.specs.declared.account.Account.{Account}
use Rattle.sync_msgs.specs.declared.end_reason.EndReason.{EndReason}
use Rattle.sync_msgs.specs.declared.end_reason.EndReason.TheVariants.{InvalidRecord}
use Rattle.sync_msgs.specs.declared.out.Out.{Out}
use Rattle.sync_msgs.specs.declared.out.Out.TheVariants.{Message, End}
use Rattle.wire_text.specs.Feeding.{Assembly}

-- what is given doesn't end the session
abbrev pub IsMessage : Out → Type 0
IsMessage (Message message) = Unit {0}
IsMessage (End reason) = ⊥

-- the link is closed for a reason, unless that failed
pub record IsClosing (account : Account) (reason : EndReason) (put : List Outgoing) : Type 0 where
  pub one : (put ≡ []) ⊎ (put ≡ Close reason ∷ [])
  pub done : IsWell account → put ≡ Close reason ∷ []

-- a text was refused, for a cause that is noted, and the link closed
pub record IsRefused (now : Assembly) (bytes : List ℕ) (account : Account) (events : List RoomEvent) (put : List Outgoing) : Type 0 where
  pub fault : WireFault
  pub refuses : Refuses now bytes fault
  pub noted : account.wire ≡ Some fault
  pub nothing : events ≡ []
  pub closing : IsClosing account InvalidRecord put

-- memory was refused for a text
pub record IsUnread (account : Account) (events : List RoomEvent) (put : List Outgoing) : Type 0 where
  pub refused : account.memory ≡ true
  pub wire : account.wire ≡ None
  pub nothing : events ≡ []
  pub silent : put ≡ []

-- what arrived was heard, but memory was refused for what it asks
pub record IsCutOff (number : ℕ) (now : Assembly) (arrival : Arrival) (account : Account) (events : List RoomEvent) (put : List Outgoing) : Type 0 where
  pub inputs : List Input
  pub next : Assembly
  pub says : AreHeard now (arrival ∷ []) inputs next
  pub refused : account.memory ≡ true
  pub wire : account.wire ≡ None
  pub begun : IsCut number inputs events
  pub silent : put ≡ []

-- what arrived was heard and answered, and what was given went out, or a beginning of it if a call failed; nothing that
-- was given is an end, unless that ends the service
pub record IsHeardOut (number : ℕ) (now next : Assembly) (arrival : Arrival) (account : Account) (events : List RoomEvent) (put : List Outgoing) : Type 0 where
  pub inputs : List Input
  pub outs : List Out
  pub says : AreHeard now (arrival ∷ []) inputs next
  pub wire : account.wire ≡ None
  pub answered : AreAnswered number inputs events outs
  pub begun : AreBegun outs put
  pub whole : IsWell account → ArePrinted outs put
  pub goes_on : IsOpen account → All IsMessage outs

-- how the last arrival went, if any came, and which assembler it left if it was heard out
abbrev pub IsLast : ℕ → Assembly → Assembly → Account → List Arrival → List RoomEvent → List Outgoing → Type 0
IsLast number now next account [] events put = (next ≡ now) × (account.wire ≡ None) × (events ≡ []) × (put ≡ [])
IsLast number now next account (arrival ∷ []) events put =
    IsHeardOut number now next arrival account events put
    ⊎ IsCutOff number now arrival account events put
    ⊎ ((bytes : List ℕ) × (arrival ≡ text bytes) × IsRefused now bytes account events put)
    ⊎ ((bytes : List ℕ) × (arrival ≡ text bytes) × IsUnread account events put)
IsLast number now next account (arrival ∷ other ∷ arrivals) events put = ⊥

-- all that arrived is heard and answered, all that was given goes out, and none of it is an end
pub record IsWhole (number : ℕ) (before next : Assembly) (arrivals : List Arrival) (events : List RoomEvent) (put : List Outgoing) : Type 0 where
  pub inputs : List Input
  pub outs : List Out
  pub says : AreHeard before arrivals inputs next
  pub answered : AreAnswered number inputs events outs
  pub no_end : All IsMessage outs
  pub printed : ArePrinted outs put

-- a link is served for a session: what arrived, what the session did, what went out, and what is noted then. It is whole but
-- perhaps for the last arrival. The assembler is the next one if that was heard out
pub record Course (number : ℕ) (before next : Assembly) (arrivals : List Arrival) (events : List RoomEvent) (put : List Outgoing) (account : Account) : Type 0 where
  pub done : List Arrival
  pub last : List Arrival
  pub now : Assembly
  pub first : List RoomEvent
  pub rest : List RoomEvent
  pub replies : List Outgoing
  pub more : List Outgoing
  pub arrived : arrivals ≡ done ++ last
  pub events_are : events ≡ first ++ rest
  pub put_is : put ≡ replies ++ more
  pub done_is : IsWhole number before now done first replies
  pub last_is : IsLast number now next account last rest more
