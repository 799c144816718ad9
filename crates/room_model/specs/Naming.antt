-- Which ids are named by the diffs that a session is given, and by the entries of its pushes.
use Rattle.std.specs.Prelude.{◌≡◌, ℕ, List, [], ◌∷◌, slice_get, Bool, true, not, ◌||◌, Some}
use Rattle.std.specs.List.{list_all}
use Rattle.field_ops.specs.RecordOps.{RecordOps}
use Rattle.room_model.specs.Schemas.{Schemas, is_own}
use Rattle.room_model.specs.Histories.{History}
use Rattle.room_model.specs.Rooms.{Session}
use Rattle.room_model.specs.declared.history.Author.{Author}
use Rattle.sync_msgs.specs.declared.data_event.Action.{Action}
use Rattle.sync_msgs.specs.declared.data_event.Action.TheVariants.{Commit, Discard, Rebase}
use Rattle.sync_msgs.specs.declared.data_event.DataEvent.{DataEvent}
use Rattle.sync_msgs.specs.declared.data_event.DataEvent.TheVariants.{Patch, PushResult}
use Rattle.sync_msgs.specs.declared.out.Out.{Out}
use Rattle.sync_msgs.specs.declared.out.Out.TheVariants.{Message, End}
use Rattle.sync_msgs.specs.declared.server_message.ServerMessage.{ServerMessage}
use Rattle.sync_msgs.specs.declared.server_message.ServerMessage.TheVariants as reply

-- the diff that an action says, none but for a rebase
abbrev pub action_diff : Action → RecordOps
action_diff Commit = []
action_diff Discard = []
action_diff (Rebase diff) = diff

-- the diff that an event says: what changed, or that of the action of a push
abbrev pub event_diff : DataEvent → RecordOps
event_diff (Patch diff clock) = diff
event_diff (PushResult client_clock clock action) = action_diff action

-- a diff names no presence of a session
abbrev pub names_others : ℕ → RecordOps → Bool
names_others session diff = list_all (λ c. not (is_own session c.0)) diff

-- no diff of a message names it
abbrev pub tells_others : ℕ → ServerMessage → Bool
tells_others session (reply.Connect hydration request protocol versions diff clock readonly) = names_others session diff
tells_others session (reply.Data events) = list_all (λ event. names_others session (event_diff event)) events
tells_others session reply.Pong = true

-- nor does one of what goes to a session
abbrev pub gives_others : ℕ → Out → Bool
gives_others session (Message said) = tells_others session said
gives_others session (End reason) = true

module _ (schemas : Schemas) where
  -- what the diff of an entry names, whose author is the session of a number
  pub record IsNamedBy (sessions : List Session) (number : ℕ) (diff : RecordOps) : Type 0 where
    -- the session has entered
    pub session : Session
    pub entered : slice_get sessions number ≡ Some session
    -- the diff names ids of the document and the session's presence alone
    pub names : list_all (λ c. schemas.is_document c.0 || is_own number c.0) diff ≡ true
    -- that of a read-only session names no id of the document
    pub readonly : session.readonly ≡ true → list_all (λ c. not (schemas.is_document c.0)) diff ≡ true

  -- it is so of each entry of a history that has an author
  abbrev pub AllNamed : List Session → History → Type 0
  AllNamed sessions [] = Unit {0}
  AllNamed sessions (entry ∷ history) =
      ((author : Author) → entry.author ≡ Some author → IsNamedBy sessions author.session entry.diff) × AllNamed sessions history
