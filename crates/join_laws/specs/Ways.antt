-- The way of a client that joined a room: what it does by itself and what comes to it, step by step.
use Rattle.std.specs.Prelude.{ℕ, List, [], ◌∷◌, ◌++◌, fold, filter_map, if◌then◌else◌, Option, Some, None, is_some, Ok, Err}
use Rattle.client_link.specs.declared.saying.Saying.{Saying}
use Rattle.client_link.specs.declared.saying.Saying.TheVariants as say
use Rattle.room_join.specs.Joiners.{Joiner, new_joiner, Outcome, acts, with_message, hello, pushes, after_pushes, after_told}
use Rattle.room_join.specs.declared.act.Act.{Act}
use Rattle.room_model.specs.Schemas.{WorldSchemas}
use Rattle.side_effects.specs.declared.fault.EditFault.{EditFault}
use Rattle.sync_client.specs.Faults.{take_fault}
use Rattle.sync_client.specs.declared.fault.TakeFault.{TakeFault}
use Rattle.sync_msgs.specs.declared.client_message.ClientMessage.{ClientMessage}
use Rattle.sync_msgs.specs.declared.server_message.ServerMessage.{ServerMessage}
use Rattle.wire_text.specs.Feeding.{Assembly}

-- what happens to a client: it does something by itself; a message of the room comes to it, or none for a while, and these pieces of a
-- further message wait then
pub data Step : Type 0 where
  does : Act → Step
  hears : ServerMessage → Assembly → Step
  idles : Assembly → Step

-- where a client has come to
pub record Way : Type 0 where
  pub joiner : Joiner
  -- what it said, the oldest first
  pub said : List Saying
  -- the messages that came to it, the oldest first
  pub came : List ServerMessage
  -- why it didn't take the last of these, if it didn't
  pub fault : Option TakeFault

-- the message to the room that something said is, if it is one
abbrev pub message_in : Saying → Option ClientMessage
message_in (say.Join join) = None
message_in (say.Message message) = Some message

-- the messages among what was said
abbrev pub messages_in : List Saying → List ClientMessage
messages_in said = filter_map message_in said

module _ (schemas : WorldSchemas EditFault) where
  -- a client of a version that asked to join a room, to which nothing came yet
  abbrev pub first_way : ℕ → ℕ → Way
  first_way version room = record { joiner = new_joiner version; said = hello schemas room version; came = []; fault = None }

  -- a client became this; it says each push that it can make then, and tells the views that changed
  abbrev pub goes_on : Joiner → Way → Way
  goes_on joiner way = record way { joiner = after_told schemas (after_pushes schemas joiner); said = way.said ++ pushes schemas joiner }

  -- a client does something; what can't happen changes nothing
  abbrev pub after_act : Outcome → Way → Way
  after_act (Ok made) way = goes_on made.joiner way
  after_act (Err fault) way = way

  -- a message came to a client, which takes it, or doesn't for a fault
  abbrev pub after_coming : ServerMessage → Option TakeFault → Joiner → Way → Way
  after_coming message None joiner way = goes_on (with_message schemas message joiner) (record way { came = way.came ++ message ∷ [] })
  after_coming message (Some fault) joiner way = record way { came = way.came ++ message ∷ []; fault = Some fault }

  -- the step of a client that took all messages so far
  abbrev pub step_on : Step → Way → Way
  step_on (does act) way = after_act (acts schemas act way.joiner) way
  step_on (hears message waiting) way = after_coming message (take_fault way.joiner.state.client message) (record way.joiner { waiting = waiting }) way
  step_on (idles waiting) way = goes_on (record way.joiner { waiting = waiting }) way

  -- a step; who didn't take a message makes none
  abbrev pub after_step : Way → Step → Way
  after_step way step = if is_some way.fault then way else step_on step way

  -- where a client of a version comes to in a room by some steps
  abbrev pub way_of : ℕ → ℕ → List Step → Way
  way_of version room steps = fold after_step (first_way version room) steps
