-- Which room of the definitions a room stands for.
use Rattle.std.specs.Prelude.{◌≡◌, ℕ, pos, false, Option, Some, None, Result, Ok, Err}
use Rattle.slab.specs.Slab.{get}
use Rattle.schema_core.specs.SchemaOf.{schema_tree}
use Rattle.schema_core.specs.Tree.{SchemaTree}
use Rattle.room_model.specs.Rooms as model
use Rattle.room_model.specs.Reachable.{is_over, AreSentNear, ArePresencesOwned}
use Rattle.room_model.specs.declared.handled.Handled.{Handled}
use Rattle.room_schemas.specs.Decided.{decided}
use Rattle.room_history.specs.Keeps.{Keeps}
use Rattle.room_messages.specs.Told.{HasOwnActions}
use Rattle.room_model.specs.Accepting.{Push}
use Rattle.room_model.specs.Schemas.{Schemas}
use Rattle.room_model.specs.declared.handled.Handled.TheVariants.{Taken}
use Rattle.room_model.specs.Acting.{document_ops, IsActionOf}
use Rattle.room_model.specs.declared.history.Author.{Author}
use Rattle.room_accept.specs.declared.accepted.Accepted.{Accepted}
use Rattle.sync_msgs.specs.declared.end_reason.EndReason.{EndReason}
use Rattle.sync_msgs.specs.declared.out.Out.{Out}
use Rattle.sync_room.specs.Sessions.{Holds, IsByPush, phase_of, session_of}
use Rattle.sync_room.specs.declared.room.Room.{Room}
use Rattle.sync_room.specs.declared.session.Session.{Session}

-- what the room's schema is
abbrev pub tree_of : Room → SchemaTree
tree_of room = schema_tree room.history.kept.schema

-- a room keeps the history and the sessions of one of the definitions
pub record Agrees (state : model.Room) (room : Room) : Type 0 where
  pub last : room.last ≡ pos state.last
  pub history : Keeps state.first state.history room.history.kept
  pub sessions : Holds state room.sessions
  -- each entry of a push says what was accepted
  pub says : HasOwnActions (decided (tree_of room)) state.history

-- as in every room that calls make, none of those is further behind than it may be, and each presence is that of one of them
pub record Stands (state : model.Room) (room : Room) : Type 0 where
  pub agrees : Agrees state room
  pub near : AreSentNear state
  pub presences : ArePresencesOwned (decided (tree_of room)) state

-- a reply is the one of the definition, and the room afterwards agrees with the definition's
pub record Follows (replied : model.Replied) (told : Handled) (after : Room) : Type 0 where
  pub reply : told ≡ replied.reply
  pub room : Agrees replied.room after

-- the same where the room stands for the definition's, which has the session
abbrev pub Replies : Option model.Replied → Handled → Room → Type 0
Replies (Some replied) reply room = (reply ≡ replied.reply) × Stands replied.room room
Replies None reply room = ⊥

-- what a session is given is the definition's, and the room stands for the definition's next
abbrev pub Drains : model.Room → ℕ → Option model.Given → Option Out → Room → Type 0
Drains state number None out room = (out ≡ None) × Stands state room
Drains state number (Some given) out room = (out ≡ Some given.out) × Stands (model.after_drain state number given) room

-- a room stands for what a leave makes of one of the definitions, which has the session
abbrev pub Leaves : Option model.Room → Room → Type 0
Leaves (Some after) room = Stands after room
Leaves None room = ⊥

-- a session of a room is under a key, and isn't ended
pub record IsUnended (key : ℕ) (s : Session) (room : Room) : Type 0 where
  pub here : get room.sessions.present key ≡ Some s
  pub unended : is_over (phase_of s.phase) ≡ false

-- a key has the session that is the first of those that are too slow, if any is
pub record IsFirstSlow (state : model.Room) (room : Room) (key : ℕ) : Type 0 where
  pub session : Session
  pub at : IsUnended key session room
  pub first : model.first_slow state ≡ Some session.number

-- what is accepted of a push of a session makes its entry, by which the room goes on, or the session is refused for a reason
abbrev pub Judges : Schemas → model.Room → Session → Push → Result Accepted EndReason → Type 0
Judges schemas state s push (Ok accepted) =
    (model.after_push schemas s.number (session_of s) push state (phase_of s.phase) ≡ record { reply = Taken; room = model.after_entry accepted.entry state })
    × IsByPush s.number push.client_clock accepted.entry
    × ((author : Author) → accepted.entry.author ≡ Some author → IsActionOf (document_ops schemas accepted.entry.diff) author.action)
Judges schemas state s push (Err reason) =
    model.after_push schemas s.number (session_of s) push state (phase_of s.phase) ≡ model.refuse s.number (session_of s) reason state
