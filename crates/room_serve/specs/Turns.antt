-- What a conversation over a link is, for a while.
use Rattle.std.specs.Prelude.{◌≡◌, ◌⊎◌, ℕ, List, [], ◌∷◌, ◌++◌, All, true, Result, Ok, Err}
use Rattle.link_texts.specs.Sending.{ArePrinted, AreBegun, counted}
use Rattle.room_events.specs.declared.room_event.RoomEvent.{RoomEvent}
use Rattle.room_link.specs.Exchange.{Exchange, Arrival}
use Rattle.room_link.specs.declared.passing.Outgoing.{Outgoing}
use Rattle.room_run.specs.Passes.{view_of}
use Rattle.room_run.specs.declared.passes.Pass.{Pass}
use Rattle.room_serve.specs.Accounts.{IsOpen, IsWell, texts_after}
use Rattle.room_serve.specs.Answering.{Input, IsAnswered, IsCut}
use Rattle.room_serve.specs.Courses.{Course, IsClosing, IsMessage}
use Rattle.room_serve.specs.declared.account.Account.{Account}
use Rattle.room_serve.specs.declared.conversation.Conversation.{Conversation}
use Rattle.sync_msgs.specs.declared.end_reason.EndReason.{EndReason}
use Rattle.std.specs.Global.{Vec}
use Rattle.sync_msgs.specs.declared.out.Out.{Out}

-- something went out on a link, behind the rest, and is counted; nothing came
pub record GoesOut (put : List Outgoing) (before after : Account) (old new : Exchange) : Type 0 where
  pub out : new ≡ record old { sent = old.sent ++ put }
  pub sent : after.sent ≡ counted before.sent put
  pub texts : after.texts ≡ before.texts

-- what was given went out, or a beginning of it if a call failed
pub record Delivers (outs : List Out) (before after : Account) (old new : Exchange) : Type 0 where
  pub put : List Outgoing
  pub goes : GoesOut put before after old new
  pub wire : after.wire ≡ before.wire
  pub begun : AreBegun outs put
  pub whole : IsWell after → ArePrinted outs put

-- the same of what a call of the room gave, or, if that ran out of memory, nothing did
abbrev pub Replies : {E : Type 0} → Result (Vec Out) E → Account → Account → Exchange → Exchange → Type 0
Replies (Ok outs) before after old new = Delivers outs.items before after old new
Replies (Err refused) before after old new = (after ≡ record before { memory = true }) × (new ≡ old)

-- the link was closed for a reason, unless that failed
pub record Closes (reason : EndReason) (before after : Account) (old new : Exchange) : Type 0 where
  pub put : List Outgoing
  pub goes : GoesOut put before after old new
  pub closing : IsClosing after reason put

-- a conversation goes on by what arrived: the session's events, what went out, and what is noted
pub record GoesOn (arrivals : List Arrival) (before after : Conversation) (old new : Exchange) : Type 0 where
  pub events : List RoomEvent
  pub put : List Outgoing
  pub taken : old.left ≡ arrivals ++ new.left
  pub out : new.sent ≡ old.sent ++ put
  pub mine : (view_of after.pass).mine ≡ (view_of before.pass).mine ++ events
  pub course : Course before.pass.session before.assembler after.assembler arrivals events put after.account
  pub texts : after.account.texts ≡ texts_after before.account.texts arrivals
  pub sent : after.account.sent ≡ counted before.account.sent put

-- the same by one that was taken before
abbrev pub Reacts : Arrival → Conversation → Conversation → Exchange → Exchange → Type 0
Reacts arrival before after old new =
    GoesOn (arrival ∷ []) before after (record old { left = arrival ∷ old.left }) new

-- a conversation goes on, by what arrives meanwhile
pub record Converses (before after : Conversation) (old new : Exchange) : Type 0 where
  pub arrivals : List Arrival
  pub goes : GoesOn arrivals before after old new

-- nothing is left to come if nothing ended the service
abbrev pub Leaves : Account → Exchange → Exchange → Type 0
Leaves account old new = IsOpen account → new.left ≡ []

-- the session's events by an input, and what goes out: all that was given, or a beginning of it if a call failed
pub record IsGivenOut (number : ℕ) (input : Input) (account : Account) (events : List RoomEvent) (put : List Outgoing) : Type 0 where
  pub outs : List Out
  pub answered : IsAnswered number input events outs
  pub begun : AreBegun outs put
  pub whole : IsWell account → ArePrinted outs put
  pub goes_on : IsOpen account → All IsMessage outs

-- memory was refused for an input, and nothing goes out
pub record IsLost (number : ℕ) (input : Input) (account : Account) (events : List RoomEvent) (put : List Outgoing) : Type 0 where
  pub refused : account.memory ≡ true
  pub begun : IsCut number (input ∷ []) events
  pub silent : put ≡ []

-- the session's events by an input, as a pass has them then: those by which it was given this, or the first of them if memory was
-- refused
abbrev pub IsAsked : {E : Type 0} → Input → Result (Vec Out) E → Pass → Pass → Type 0
IsAsked input (Ok outs) before after = (events : List RoomEvent)
    × IsAnswered before.session input events outs.items × ((view_of after).mine ≡ (view_of before).mine ++ events)
IsAsked input (Err refused) before after = (events : List RoomEvent)
    × IsCut before.session (input ∷ []) events × ((view_of after).mine ≡ (view_of before).mine ++ events)

-- the room is asked something, and what the session is given goes out
pub record Answers (input : Input) (before after : Conversation) (old new : Exchange) : Type 0 where
  pub events : List RoomEvent
  pub put : List Outgoing
  pub mine : (view_of after.pass).mine ≡ (view_of before.pass).mine ++ events
  pub how : IsGivenOut before.pass.session input after.account events put ⊎ IsLost before.pass.session input after.account events put
  pub goes : GoesOut put before.account after.account old new
  pub wire : after.account.wire ≡ before.account.wire
