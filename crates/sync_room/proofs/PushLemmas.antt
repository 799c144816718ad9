-- What a connect and a push make of a room that agrees with one of the definitions.
use Rattle.std.proofs.Common.{◌≡◌, ℕ, ℤ, Bool, true, false, List, [], ◌∷◌, ◌++◌, length, is_some, Option, Some, None, Ok, refl, sym, ap, subst, ◌∙◌}
use Rattle.rooms_val.specs.Data.{Pairs}
use Rattle.rooms_val.specs.Maps.{AreRising}
use Rattle.slab.specs.Slab.{get}
use Rattle.slab.proofs.SlabLemmas.{Updates-with_value}
use Rattle.schema_core.specs.Tree.{SchemaTree}
use Rattle.room_model.specs.Accepting.{Push, is_taken, entry_of, document_part, action_of}
use Rattle.room_model.specs.Acting.{document_ops, IsActionOf}
use Rattle.room_model.specs.Schemas.{Schemas, Member}
use Rattle.room_model.specs.Rooms as model
use Rattle.room_model.specs.Reachable.{is_over}
use Rattle.room_model.specs.declared.handled.Handled.{Handled}
use Rattle.room_model.specs.declared.handled.Handled.TheVariants as handled
use Rattle.room_model.specs.declared.history.Author.{Author}
use Rattle.room_model.specs.declared.history.Entry.{Entry}
use Rattle.room_model.proofs.ActingLemmas.{push_acts}
use Rattle.room_schemas.specs.Decided.{decided}
use Rattle.room_accept.specs.Plans.{plan_of}
use Rattle.room_accept.specs.Suiting.{HasPresences}
use Rattle.room_accept.specs.declared.plan.SessionPlan.{SessionPlan}
use Rattle.room_history.specs.Keeps.{Keeps}
use Rattle.room_messages.specs.Told.{HasOwnActions}
use Rattle.room_messages.proofs.LawfulLemmas.{lawful}
use Rattle.sync_msgs.specs.declared.client_message.ClientMessage.{ClientMessage}
use Rattle.sync_msgs.specs.declared.end_reason.EndReason.{EndReason}
use Rattle.sync_room.specs.Sending.{IsChanged}
use Rattle.sync_room.specs.Sessions.{phase_of, session_of, is_new, IsByPush, IsWithPushed, Holds, with_at}
use Rattle.sync_room.specs.Standing.{Agrees, Stands, Follows, Replies, tree_of}
use Rattle.sync_room.specs.declared.room.Room.{Room}
use Rattle.sync_room.specs.declared.session.Phase.{Phase}
use Rattle.sync_room.specs.declared.session.Phase.TheVariants.{New, Asked, Live, Ended}
use Rattle.sync_room.specs.declared.session.Session.{Session}
use Rattle.sync_room.proofs.HandleLemmas.{asks_rightly, asked_kept, reserved}
use Rattle.sync_room.proofs.RoomLemmas.{Decides, changes, replied}
use Rattle.sync_room.proofs.TableLemmas.{noted}

-- a new session asks
pub asks : (schemas : Schemas) (state : model.Room) (room after : Room) (key : ℕ) (s : Session) (ask : model.Ask) (plan : SessionPlan)
    → Agrees state room → get room.sessions.present key ≡ Some s → is_new s.phase ≡ true → model.protocol_fault ask.protocol ≡ None
    → Ok (plan_of plan) ≡ schemas.plan_for ask.versions → IsChanged key (record s { phase = Asked ask.request ask.reached plan }) room after
    → Follows (model.after_connect schemas s.number (session_of s) ask state (phase_of s.phase)) handled.Entered after
asks schemas state room after key s ask plan h at new right planned changed =
    subst (λ r. Follows r handled.Entered after) (sym (asks_rightly schemas s.number (session_of s) state ask s.phase (Ok (plan_of plan)) new right planned))
    (record {
      reply = refl;
      room = changes state room after key s (record s { phase = Asked ask.request ask.reached plan }) h at refl
          (asked_kept state.history s ask.request ask.reached plan new (h.sessions.kept key s at)) changed;
    })

-- a room in which memory for a client clock was taken agrees with the same
pub same_agrees : (state : model.Room) (room after : Room) (key : ℕ) (s u : Session) → Agrees state room → get room.sessions.present key ≡ Some s
    → IsWithPushed s.pushed.items s u → after.last ≡ room.last → Keeps state.first state.history after.history.kept → tree_of after ≡ tree_of room
    → after.sessions ≡ with_at key u room.sessions → Agrees state after
same_agrees state room after key s u h at with last keeps schema sessions = record {
  last = last ∙ h.last;
  history = keeps;
  sessions = subst (Holds state) (sym sessions) (reserved state room.sessions key s u h.sessions at with);
  says = subst (λ tree. HasOwnActions (decided tree) state.history) (sym schema) h.says;
}

-- a push is taken: its entry is appended and its client clock noted, and then the sessions are ended that have become too slow
pub taken : (schemas : Schemas) (state : model.Room) (room between after : Room) (key : ℕ) (s u t : Session) (push : Push) (entry : Entry)
    → Agrees state room → get room.sessions.present key ≡ Some s
    → model.after_push schemas s.number (session_of s) push state (phase_of s.phase) ≡ record { reply = handled.Taken; room = model.after_entry entry state }
    → IsByPush s.number push.client_clock entry
    → ((author : Author) → entry.author ≡ Some author → IsActionOf (document_ops (decided (tree_of room)) entry.diff) author.action)
    → IsWithPushed s.pushed.items s u → IsWithPushed (u.pushed.items ++ push.client_clock ∷ []) u t
    → between.last ≡ room.last → tree_of between ≡ tree_of room → Keeps state.first (entry ∷ state.history) between.history.kept
    → between.sessions ≡ with_at key t (with_at key u room.sessions)
    → ((r : model.Room) → Agrees r between → Agrees (model.end_slow r) after)
    → Follows (model.after_push schemas s.number (session_of s) push state (phase_of s.phase)) handled.Taken after
taken schemas state room between after key s u t push entry h at is by says with noting last schema keeps sessions ends =
    let number : u.number ≡ s.number = ap (λ s. s.number) with.same in
    let there = (Updates-with_value room.sessions.present key u (ap is_some at)).changed in
    let table = noted state (with_at key u room.sessions) key u t entry push.client_clock (reserved state room.sessions key s u h.sessions at with) there
    (record { author = by.author; by = by.by; session = by.session ∙ sym number; clock = by.clock }) noting in
    let pushed : model.Room = record state { history = entry ∷ state.history } in
    let agrees : Agrees pushed between = record {
      last = last ∙ h.last;
      history = keeps;
      sessions = subst (Holds pushed) (sym sessions) table;
      says = subst (λ tree. HasOwnActions (decided tree) (entry ∷ state.history)) (sym schema) (says, h.says);
    } in
    subst (λ r. Follows r handled.Taken after) (sym is) (record { reply = refl; room = ends pushed agrees })

-- what the entry of a push that is taken says
pub by_push : (schemas : Schemas) (member : Member) (m : Pairs) (push : Push) (entry : Entry) → entry ≡ entry_of schemas member m push
    → IsByPush member.session push.client_clock entry
by_push schemas member m push entry is = record {
  author = record { session = member.session; client_clock = push.client_clock; action = action_of member.plan push.diff (document_part schemas member m push.diff) };
  by = ap (λ e. e.author) is;
  session = refl;
  clock = refl;
}

pub push_says : (tree : SchemaTree) (member : Member) (m : Pairs) (push : Push) (entry : Entry) → HasPresences tree
    → AreRising push.diff → is_taken (decided tree) member push ≡ true → entry ≡ entry_of (decided tree) member m push
    → (author : Author) → entry.author ≡ Some author → IsActionOf (document_ops (decided tree) entry.diff) author.action
push_says tree member m push entry presences rising taken is =
    subst (λ e. (author : Author) → e.author ≡ Some author → IsActionOf (document_ops (decided tree) e.diff) author.action) (sym is)
    (push_acts (decided tree) (lawful tree presences) member m push rising taken).action

-- a session that isn't ended, by the arms of a match
pub not_ended : (phase : Phase) → ((reason : EndReason) (told : Bool) → phase ≡ Ended reason told → ⊥) → is_over (phase_of phase) ≡ false
not_ended New h = refl
not_ended (Asked request reached plan) h = refl
not_ended (Live sent plan) h = refl
not_ended (Ended reason told) h = absurd (h reason told refl)

-- the reply to its message
pub handles : (schemas : Schemas) (state : model.Room) (room after : Room) → Decides schemas room after → (key number : ℕ) (s : Session) → Stands state room → get room.sessions.present key ≡ Some s
    → s.number ≡ number → is_over (phase_of s.phase) ≡ false → (said read : ClientMessage) (reply : Handled) → read ≡ said
    → Follows (model.after_unended schemas s.number (session_of s) state said) reply after → Replies (model.after_message schemas state number read) reply after
handles schemas state room after decides key number s h at is unended said read reply same follows =
    subst (λ n. Replies (model.after_message schemas state n read) reply after) is
    (subst (λ m. Replies (model.after_message schemas state s.number m) reply after) (sym same)
    (replied schemas state room after decides key s h at said reply unended follows))
