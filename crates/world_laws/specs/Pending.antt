-- What a client that is connected owes: which of its pending works the room has answered, and which are in flight to it.
use Rattle.std.specs.Prelude.{unwrap_or, ◌≡◌, ℕ, nat_lt, ◌≤◌, pos, List, [], ◌∷◌, ◌++◌, length, Bool, true, false, if◌then◌else◌, Some, None, slice_get}
use Rattle.room_model.specs.Schemas.{Schemas}
use Rattle.room_model.specs.Acting.{document_ops}
use Rattle.sync_msgs.specs.declared.data_event.Action.TheVariants.{Commit}
use Rattle.room_model.specs.Histories.{History, is_by}
use Rattle.room_model.specs.Rooms.{Phase, live, Session}
use Rattle.room_model.specs.Replicas.{Work, edit, presence, Pending, Client, is_open, diff_in, push_of, next_push}
use Rattle.room_model.specs.Worlds.{Channel, World}
use Rattle.room_model.specs.declared.connection.Connection.TheVariants.{Asking, Open}
use Rattle.room_model.specs.declared.limits.TheConstants.{MOST_PUSHES}
use Rattle.room_model.specs.declared.history.Author.{Author}
use Rattle.room_model.specs.declared.history.Entry.{Entry}
use Rattle.sync_msgs.specs.declared.client_message.ClientMessage.{ClientMessage}

-- a work that wasn't pushed, and is an edit
abbrev pub IsIdleWork : Work → Type 0
IsIdleWork (edit diff) = Unit {0}
IsIdleWork (presence d) = ⊥

-- it is so of all that is pending
abbrev pub AreIdle : List Pending → Type 0
AreIdle [] = Unit {0}
AreIdle (item ∷ items) = ((item.sent_as ≡ None) × IsIdleWork item.work) × AreIdle items

-- no entry of a history answers a push of a session
abbrev pub NoneBy : ℕ → History → Type 0
NoneBy k [] = Unit {0}
NoneBy k (entry ∷ history) = (is_by k entry ≡ false) × NoneBy k history

-- what a client owes that isn't connected
pub record AreWaiting (world : World) : Type 0 where
  -- edits alone, none of which was pushed
  pub idle : (number : ℕ) (client : Client) → slice_get world.clients number ≡ Some client → is_open client.connection ≡ false → AreIdle client.pending
  -- and the session on which it waits has authored nothing
  pub none : (number k : ℕ) (client : Client) → slice_get world.clients number ≡ Some client → client.connection ≡ Asking k → NoneBy k world.room.history

-- an entry, if it answers a push of a session
abbrev pub answers_by : ℕ → Entry → List Entry
answers_by k entry = if is_by k entry then entry ∷ [] else []

-- the entries above a clock that answer pushes of a session, the oldest first
abbrev pub answered_above : ℕ → ℕ → History → List Entry
answered_above k clock [] = []
answered_above k clock (entry ∷ history) = if nat_lt (length history) clock then [] else answered_above k clock history ++ answers_by k entry

-- none of some items was pushed
abbrev pub AreUnsent : List Pending → Type 0
AreUnsent [] = Unit {0}
AreUnsent (item ∷ items) = (item.sent_as ≡ None) × AreUnsent items

-- messages are the pushes of the first of some items, and the others were not pushed; of a session that isn't live nothing is said
abbrev pub AreInFlight : Bool → List Pending → List ClientMessage → Type 0
AreInFlight false items messages = Unit {0}
AreInFlight true items [] = AreUnsent items
AreInFlight true [] (said ∷ messages) = ⊥
AreInFlight true (item ∷ items) (said ∷ messages) = ((n : ℕ) × (item.sent_as ≡ Some n) × (said ≡ push_of n item.work)) × AreInFlight true items messages

-- a session is live
abbrev pub goes_on : Phase → Bool
goes_on (live sent plan) = true
goes_on phase = false

module _ (schemas : Schemas) where
  -- an entry answers the push of a work under a number
  pub record IsAnswer (number : ℕ) (work : Work) (entry : Entry) : Type 0 where
    -- it has the number
    pub author : Author
    pub by : entry.author ≡ Some author
    pub numbered : author.client_clock ≡ pos number
    -- and if the action is a commit, its document part is the work's diff, none for a presence
    pub commits : author.action ≡ Commit → document_ops schemas entry.diff ≡ unwrap_or (diff_in work) []

  -- the first items are those that some entries answer, and after these come those that are in flight
  abbrev pub IsOwed : Bool → List Entry → List Pending → List ClientMessage → Type 0
  IsOwed goes [] items messages = AreInFlight goes items messages
  IsOwed goes (entry ∷ entries) [] messages = ⊥
  IsOwed goes (entry ∷ entries) (item ∷ items) messages =
      ((number : ℕ) × (item.sent_as ≡ Some number) × IsAnswer number item.work entry) × IsOwed goes entries items messages

  -- what a client that is connected at a clock owes
  pub record Owes (world : World) (client : Client) (k reached : ℕ) (session : Session) (channel : Channel) : Type 0 where
    -- the pending items are those that entries above its clock answer, and those that are in flight
    pub owed : IsOwed (goes_on session.phase) (answered_above k reached world.room.history) client.pending channel.to_room
    -- and there are others only if the client can push no more
    pub pushed : next_push client ≡ None

  -- it is so of each client that is connected
  abbrev pub AreOwed : World → Type 0
  AreOwed world =
      (number k reached : ℕ) (client : Client) (session : Session) (channel : Channel)
      → slice_get world.clients number ≡ Some client → client.connection ≡ Open k → client.reached ≡ pos reached
      → slice_get world.room.sessions k ≡ Some session → slice_get world.channels k ≡ Some channel → Owes world client k reached session channel

-- no client of a world made more than 2^53 - 1 pushes
abbrev pub AreFewPushes : World → Type 0
AreFewPushes world = (number : ℕ) (client : Client) → slice_get world.clients number ≡ Some client → client.pushes ≤ MOST_PUSHES
