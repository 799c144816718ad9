-- What the steps of a room make of the rooms that it agrees with.
use Rattle.std.proofs.Common.{◌≡◌, ◌⊎◌, inl, inr, ℕ, zero, suc, ◌+◌, ◌≤◌, ◌<◌, ℤ, pos, Bool, true, false, not, cond, List, [], ◌∷◌, ◌++◌, length, slice_get, slice_set, is_some, option_map, option_and_then, Option, Some, None, Result, Ok, Err, refl, sym, ap, subst, ◌∙◌, arith}
use Rattle.rooms_val.specs.Maps.{value_at}
use Rattle.slab.specs.Slab.{get, slab_len, Updates}
use Rattle.schema_core.specs.SchemaOf.{schema_tree}
use Rattle.schema_core.specs.Tree.{SchemaTree}
use Rattle.room_model.specs.Histories.{History, records_of}
use Rattle.room_model.specs.Schemas.{Schemas, presence_id}
use Rattle.room_model.specs.Rooms as model
use Rattle.room_model.specs.Reachable.{is_over, AreSentNear, ArePresencesOwned}
use Rattle.room_model.proofs.CallLemmas.{Step, enters, message_step, drain_step, leave_step}
use Rattle.room_model.proofs.ClockLemmas.{step_near, new_near}
use Rattle.room_model.proofs.OwnerLemmas.{step_owned}
use Rattle.room_model.specs.declared.handled.Handled.{Handled}
use Rattle.room_model.specs.declared.handled.Handled.TheVariants as handled
use Rattle.room_schemas.specs.Decided.{decided}
use Rattle.room_history.specs.Keeps.{Keeps}
use Rattle.room_history.specs.declared.kept.Kept.{Kept}
use Rattle.room_history.specs.declared.removal.Removal.{Removal}
use Rattle.room_messages.specs.Told.{HasOwnActions}
use Rattle.sync_msgs.specs.declared.client_message.ClientMessage.{ClientMessage}
use Rattle.sync_msgs.specs.declared.end_reason.EndReason.{EndReason}
use Rattle.sync_msgs.specs.declared.out.Out.{Out}
use Rattle.sync_room.specs.Sessions.{phase_of, session_of, IsIn, IsKept, Holds, with_at, ended_by}
use Rattle.sync_room.specs.Sending.{IsChanged}
use Rattle.sync_room.specs.Standing.{Agrees, Stands, Follows, Replies, Drains, Leaves, IsUnended, tree_of}
use Rattle.sync_room.specs.declared.room.Room.{Room}
use Rattle.sync_room.specs.declared.session.Phase.{Phase}
use Rattle.sync_room.specs.declared.session.Phase.TheVariants.{New, Asked, Live, Ended}
use Rattle.sync_room.specs.declared.session.Session.{Session}
use Rattle.sync_room.specs.declared.sessions.Sessions.{Sessions}
use Rattle.sync_room.proofs.TableLemmas.{not_left, changed, changed_in, removed, kept_further}

-- a session of the table is there for the definitions
pub session_there : (state : model.Room) (room : Room) (key : ℕ) (s : Session) → Agrees state room → get room.sessions.present key ≡ Some s
    → model.session_at s.number state ≡ Some (session_of s)
session_there state room key s h at =
    ap (λ o. option_and_then model.unless_left o) (h.sessions.here key s at)
    ∙ ap (λ b. cond b None (Some (session_of s))) (not_left s.phase)

-- the history after a presence is removed, if it was there
abbrev pub after_removal : Bool → ℕ → History → History
after_removal b number history = cond b (model.removal number ∷ history) history

-- what follows the end of a session, if that made an entry
abbrev pub after_end : Bool → model.Room → model.Room
after_end b room = cond b (model.end_slow room) room

-- each session is kept over that
removal_keeps : (b : Bool) (number : ℕ) (history : History) (u : Session) → IsKept history u → IsKept (after_removal b number history) u
removal_keeps true number history u h = kept_further history (model.removal number) u refl h
removal_keeps false number history u h = h

-- a session that was ended is kept over any history
ended_kept : (history : History) (reason : EndReason) (s : Session) → IsKept history (ended_by reason s)
ended_kept history reason s = record { sent = tt; unended = λ is. absurd (cc); ended = λ is. refl }

-- what a room keeps after a session is closed is what the definition says
closes_to : (state : model.Room) (number : ℕ) (s : model.Session) (phase : model.Phase) (b : Bool) → b ≡ model.is_present number state
    → model.close number s phase state ≡ record (model.with_session number (record s { phase = phase }) state) { history = after_removal b number state.history }
closes_to state number s phase b is =
    let t : model.Session = record s { phase = phase } in
    subst (λ b. model.close number s phase state ≡ record (model.with_session number t state) { history = after_removal b number state.history }) (sym is)
    (elim (model.is_present number state) as (λ c. model.with_session number t (cond c (record state { history = model.removal number ∷ state.history }) state)
    ≡ record (model.with_session number t state) { history = after_removal c number state.history }) [ true ↦ refl | false ↦ refl ])

-- whether the presence is there, as the records say
pub present_as : (state : model.Room) (room : Room) (number : ℕ) → Agrees state room → is_some (value_at room.history.kept.records.0 (presence_id number)) ≡ model.is_present number state
present_as state room number h = ap (λ r. is_some (value_at r.0 (presence_id number))) h.history.records

module _ (state : model.Room) (room after : Room) (key : ℕ) (s : Session) (h : Agrees state room) (at : get room.sessions.present key ≡ Some s)
    (b : Bool) (present : b ≡ model.is_present s.number state) (last : after.last ≡ room.last)
    (schema : tree_of after ≡ tree_of room)
    (keeps : Keeps state.first (after_removal b s.number state.history) after.history.kept) where
  removal_says : HasOwnActions (decided (tree_of after)) (after_removal b s.number state.history)
  removal_says = subst (λ tree. HasOwnActions (decided tree) (after_removal b s.number state.history)) (sym schema)
      (elim b as (λ b. HasOwnActions (decided (tree_of room)) (after_removal b s.number state.history)) [ true ↦ (λ author is. absurd (cc), h.says) | false ↦ h.says ])

  others : (other : ℕ) (u : Session) → IsKept state.history u → IsKept (after_removal b s.number state.history) u
  others other u kept = removal_keeps b s.number state.history u kept

  agree : (session : model.Session) (phase : model.Phase) → Holds (record (model.with_session s.number (record session { phase = phase }) state) { history = after_removal b s.number state.history }) after.sessions
      → Agrees (model.close s.number session phase state) after
  agree session phase sessions =
      subst (λ r. Agrees r after) (sym (closes_to state s.number session phase b present)) (record { last = last ∙ h.last; history = keeps; sessions = sessions; says = removal_says })

  -- a session that is ended
  pub closed : (reason : EndReason) → after.sessions ≡ with_at key (ended_by reason s) room.sessions
      → Agrees (model.close s.number (session_of s) (model.ended reason false) state) after
  closed reason is =
      agree (session_of s) (model.ended reason false)
      (subst (λ table. Holds (record (model.with_session s.number (session_of (ended_by reason s)) state) { history = after_removal b s.number state.history }) table) (sym is)
      (changed_in state room.sessions h.sessions key s at (ended_by reason s) refl (after_removal b s.number state.history)
      (λ other u differs found. others other u (h.sessions.kept other u found))
      (ended_kept (after_removal b s.number state.history) reason s)))

  -- a session that leaves
  pub left_closed : Updates room.sessions.present after.sessions.present key None → slab_len after.sessions.present + 1 ≡ slab_len room.sessions.present
      → after.sessions.entered ≡ room.sessions.entered → Agrees (model.close s.number (session_of s) model.gone state) after
  left_closed updates fewer entered =
      agree (session_of s) model.gone
      (removed state room.sessions h.sessions key s at (record (session_of s) { phase = model.gone }) refl after.sessions updates
      (after_removal b s.number state.history) (λ other u differs found. others other u (h.sessions.kept other u found)) fewer entered)

-- a session that was ended leaves
pub left_ended : (state : model.Room) (room after : Room) (key : ℕ) (s : Session) → Agrees state room → get room.sessions.present key ≡ Some s
    → after.last ≡ room.last → after.history.kept ≡ room.history.kept
    → Updates room.sessions.present after.sessions.present key None → slab_len after.sessions.present + 1 ≡ slab_len room.sessions.present
    → after.sessions.entered ≡ room.sessions.entered → Agrees (model.with_session s.number (record (session_of s) { phase = model.gone }) state) after
left_ended state room after key s h at last kept updates fewer entered = record {
  last = last ∙ h.last;
  history = subst (Keeps state.first state.history) (sym kept) h.history;
  sessions = removed state room.sessions h.sessions key s at (record (session_of s) { phase = model.gone }) refl after.sessions updates
      state.history (λ other u differs found. h.sessions.kept other u found) fewer entered;
  says = subst (λ kept. HasOwnActions (decided (schema_tree kept.schema)) state.history) (sym kept) h.says;
}

-- the session under a key becomes another
pub changes : (state : model.Room) (room after : Room) (key : ℕ) (s t : Session) → Agrees state room → get room.sessions.present key ≡ Some s
    → t.number ≡ s.number → IsKept state.history t → IsChanged key t room after → Agrees (model.with_session s.number (session_of t) state) after
changes state room after key s t h at same kept is = record {
  last = is.last ∙ h.last;
  history = subst (λ r. Keeps state.first state.history r.kept) (sym is.history) h.history;
  sessions = subst (Holds (model.with_session s.number (session_of t) state)) (sym is.sessions) (changed state room.sessions h.sessions key s at t same kept);
  says = subst (λ r. HasOwnActions (decided (schema_tree r.kept.schema)) state.history) (sym is.history) h.says;
}

-- what the schema of a room decides, before a call and after it
pub record Decides (schemas : Schemas) (room after : Room) : Type 0 where
  pub before : decided (tree_of room) ≡ schemas
  pub now : decided (tree_of after) ≡ schemas

-- whose presences are in it then
owned_still : (schemas : Schemas) (o : Option (ℕ × ClientMessage)) (state next : model.Room) (room after : Room) → Decides schemas room after → Step schemas o state next → Stands state room
    → ArePresencesOwned (decided (tree_of after)) next
owned_still schemas o state next room after decides step h =
    subst (λ s. ArePresencesOwned s next) (sym decides.now) (step_owned schemas o state next step (subst (λ s. ArePresencesOwned s state) decides.before h.presences))

module _ (schemas : Schemas) (state : model.Room) (room after : Room) (decides : Decides schemas room after)
    (key : ℕ) (s : Session) (h : Stands state room) (at : get room.sessions.present key ≡ Some s) where
  -- a message of a session that isn't ended
  unended_in : (said : ClientMessage) (phase : Phase) → is_over (phase_of phase) ≡ false
      → model.after_message_in schemas s.number (session_of s) state said (phase_of phase) ≡ model.after_unended schemas s.number (session_of s) state said
  unended_in said New is = refl
  unended_in said (Asked request reached plan) is = refl
  unended_in said (Live sent plan) is = refl
  unended_in said (Ended reason told) is = absurd (cc)

  -- a room stands for what a step makes, once it agrees with that
  stepped : (o : Option (ℕ × ClientMessage)) (next : model.Room) → Step schemas o state next → Agrees next after → Stands next after
  stepped o next step agrees = record {
    agrees = agrees;
    near = step_near schemas o state next step h.near;
    presences = owned_still schemas o state next room after decides step h;
  }

  message_there : (said : ClientMessage) → model.after_message schemas state s.number said ≡ Some (model.after_message_in schemas s.number (session_of s) state said (phase_of s.phase))
  message_there said = ap (option_map (λ session. model.after_message_in schemas s.number session state said session.phase)) (session_there state room key s h.agrees at)

  -- the reply to it
  pub replied : (said : ClientMessage) (reply : Handled) → is_over (phase_of s.phase) ≡ false
      → Follows (model.after_unended schemas s.number (session_of s) state said) reply after → Replies (model.after_message schemas state s.number said) reply after
  replied said reply is follows =
      let it = message_there said ∙ ap Some (unended_in said s.phase is) in
      subst (λ o. Replies o reply after) (sym it)
      (follows.reply, stepped _ _ (message_step schemas state s.number said _ it) follows.room)

  -- a message of one that is ended
  pub replied_ended : (said : ClientMessage) (reason : EndReason) (told : Bool) → s.phase ≡ Ended reason told → Stands state after
      → Replies (model.after_message schemas state s.number said) (handled.Ended reason) after
  replied_ended said reason told is stands =
      let it = message_there said ∙ ap (λ phase. Some (model.after_message_in schemas s.number (session_of s) state said (phase_of phase))) is in
      subst (λ o. Replies o (handled.Ended reason) after) (sym it) (refl, stands)

  -- what is next for a session
  next_there : model.next_for schemas state s.number ≡ model.next_in schemas state s.number (session_of s) (phase_of s.phase)
  next_there = ap (option_and_then (λ session. model.next_in schemas state s.number session session.phase)) (session_there state room key s h.agrees at)

  pub given_nothing : model.next_in schemas state s.number (session_of s) (phase_of s.phase) ≡ None → Stands state after
      → Drains state s.number (model.next_for schemas state s.number) None after
  given_nothing none stands = subst (λ o. Drains state s.number o None after) (sym (next_there ∙ none)) (refl, stands)

  pub given_out : (given : model.Given) (out : Out) → model.next_in schemas state s.number (session_of s) (phase_of s.phase) ≡ Some given → out ≡ given.out
      → Agrees (model.after_drain state s.number given) after → Drains state s.number (model.next_for schemas state s.number) (Some out) after
  given_out given out is same agrees =
      let it = next_there ∙ is in
      subst (λ o. Drains state s.number o (Some out) after) (sym it)
      (ap Some same, stepped _ _ (drain_step schemas state s.number given it) agrees)

-- a room that a session entered, or left
pub entered_near : (tree : SchemaTree) (state : model.Room) (readonly : Bool) → AreSentNear state → AreSentNear (model.after_enter readonly state)
entered_near tree state readonly h = step_near (decided tree) None state _ (enters readonly refl refl) h

pub entered_owned : (tree : SchemaTree) (state : model.Room) (readonly : Bool) → ArePresencesOwned (decided tree) state → ArePresencesOwned (decided tree) (model.after_enter readonly state)
entered_owned tree state readonly h = step_owned (decided tree) None state _ (enters readonly refl refl) h

pub left_there : (state : model.Room) (room after : Room) (key : ℕ) (s : Session) → Stands state room → get room.sessions.present key ≡ Some s → tree_of after ≡ tree_of room
    → Agrees (model.leave s.number (session_of s) state) after → Leaves (model.after_leave state s.number) after
left_there state room after key s h at same agrees =
    let schemas = decided (tree_of room) in
    let it = ap (option_map (λ session. model.leave s.number session state)) (session_there state room key s h.agrees at) in
    subst (λ o. Leaves o after) (sym it)
    (stepped schemas state room after (record { before = refl; now = ap decided same }) key s h at None _ (leave_step schemas state s.number _ it) agrees)

-- a session is refused, and those that have become too slow by that are ended
pub refuses : (state : model.Room) (number : ℕ) (session : model.Session) (reason : EndReason) (after : Room) (b : Bool) → b ≡ model.is_present number state
    → Agrees (after_end b (model.close number session (model.ended reason false) state)) after → Follows (model.refuse number session reason state) (handled.Ended reason) after
refuses state number session reason after b is h = record {
  reply = refl;
  room = subst (λ b. Agrees (after_end b (model.close number session (model.ended reason false) state)) after) is h;
}

-- whether a session that leaves was ended
over_ended : (phase : Phase) → is_over (phase_of phase) ≡ true → model.is_ended (phase_of phase) ≡ true
over_ended New is = absurd (cc)
over_ended (Asked request reached plan) is = absurd (cc)
over_ended (Live sent plan) is = absurd (cc)
over_ended (Ended reason told) is = refl

open_unended : (phase : Phase) → is_over (phase_of phase) ≡ false → model.is_ended (phase_of phase) ≡ false
open_unended New is = refl
open_unended (Asked request reached plan) is = refl
open_unended (Live sent plan) is = refl
open_unended (Ended reason told) is = absurd (cc)

module _ (state : model.Room) (room after : Room) (key : ℕ) (s : Session) (h : Stands state room) (at : get room.sessions.present key ≡ Some s) where
  kept : IsKept state.history s
  kept = h.agrees.sessions.kept key s at

  -- one without a removal was ended, and one with it wasn't
  removal_gone : s.removal ≡ None → is_over (phase_of s.phase) ≡ true
  removal_gone none = elim (is_over (phase_of s.phase)) as (λ b. is_over (phase_of s.phase) ≡ b → b ≡ true) [
    | true ↦ λ is. refl
    | false ↦ λ is. absurd (let has = (kept.unended is).1 in cc)
  ] refl

  pub removal_there : (removal : Removal) → s.removal ≡ Some removal → (is_over (phase_of s.phase) ≡ false) × (removal.session ≡ s.number)
  removal_there removal some =
      let unended : is_over (phase_of s.phase) ≡ false = elim (is_over (phase_of s.phase)) as (λ b. is_over (phase_of s.phase) ≡ b → b ≡ false) [
        | true ↦ λ is. absurd (let none = kept.ended is in cc)
        | false ↦ λ is. refl
      ] refl in
      let own = kept.unended unended in
      (unended, let same : removal ≡ own.0 = let has = own.1 in cc in ap (λ r. r.session) same ∙ own.2)

  pub leaves_ended : s.removal ≡ None → after.last ≡ room.last → after.history.kept ≡ room.history.kept
      → Updates room.sessions.present after.sessions.present key None → slab_len after.sessions.present + 1 ≡ slab_len room.sessions.present
      → after.sessions.entered ≡ room.sessions.entered → Leaves (model.after_leave state s.number) after
  leaves_ended none last same updates fewer entered =
      let ended = over_ended s.phase (removal_gone none) in
      let gone : model.Session = record (session_of s) { phase = model.gone } in
      left_there state room after key s h at (ap (λ kept. schema_tree kept.schema) same)
      (subst (λ b. Agrees (cond b (model.with_session s.number gone state) (model.after_close s.number (session_of s) model.gone state)) after) (sym ended)
      (left_ended state room after key s h.agrees at last same updates fewer entered))

  pub leaves_open : tree_of after ≡ tree_of room → (b : Bool) → is_over (phase_of s.phase) ≡ false → b ≡ model.is_present s.number state
      → Agrees (after_end b (model.close s.number (session_of s) model.gone state)) after → Leaves (model.after_leave state s.number) after
  leaves_open same b unended present agrees =
      let gone : model.Session = record (session_of s) { phase = model.gone } in
      left_there state room after key s h at same
      (subst (λ e. Agrees (cond e (model.with_session s.number gone state) (model.after_close s.number (session_of s) model.gone state)) after) (sym (open_unended s.phase unended))
      (subst (λ b. Agrees (after_end b (model.close s.number (session_of s) model.gone state)) after) present agrees))

-- a session that isn't ended has left the table, and its presence was removed
pub leaving : (state : model.Room) (room between : Room) (key : ℕ) (s : Session) (h : Stands state room) (at : get room.sessions.present key ≡ Some s) (removal : Removal)
    → s.removal ≡ Some removal → (b : Bool) → b ≡ is_some (value_at room.history.kept.records.0 (presence_id removal.session))
    → between.last ≡ room.last → tree_of between ≡ tree_of room → Keeps state.first (after_removal b removal.session state.history) between.history.kept
    → Updates room.sessions.present between.sessions.present key None → slab_len between.sessions.present + 1 ≡ slab_len room.sessions.present
    → between.sessions.entered ≡ room.sessions.entered
    → (is_over (phase_of s.phase) ≡ false) × (b ≡ model.is_present s.number state) × Agrees (model.close s.number (session_of s) model.gone state) between
leaving state room between key s h at removal some b was last schema keeps updates fewer entered =
    let own = removal_there state room between key s h at removal some in
    let present : b ≡ model.is_present s.number state =
    was ∙ ap (λ n. is_some (value_at room.history.kept.records.0 (presence_id n))) own.1 ∙ present_as state room s.number h.agrees in (
      own.0,
      present,
      left_closed state room between key s h.agrees at b present last schema
          (subst (λ n. Keeps state.first (after_removal b n state.history) between.history.kept) own.1 keeps) updates fewer entered,
    )

-- a session leaves that was ended
pub leaves_over : (state : model.Room) (room after : Room) (key number : ℕ) (s : Session) → Stands state room → get room.sessions.present key ≡ Some s → s.number ≡ number
    → s.removal ≡ None → after.last ≡ room.last → after.history.kept ≡ room.history.kept
    → Updates room.sessions.present after.sessions.present key None → slab_len after.sessions.present + 1 ≡ slab_len room.sessions.present
    → after.sessions.entered ≡ room.sessions.entered → Leaves (model.after_leave state number) after
leaves_over state room after key number s h at is none last same updates fewer entered =
    subst (λ n. Leaves (model.after_leave state n) after) is (leaves_ended state room after key s h at none last same updates fewer entered)

-- one leaves that wasn't, and had no presence; or had one, which may end others
module _ (state : model.Room) (room between : Room) (key number : ℕ) (s : Session) (h : Stands state room) (at : get room.sessions.present key ≡ Some s) (is : s.number ≡ number)
    (removal : Removal) (some : s.removal ≡ Some removal) (b : Bool) (was : b ≡ is_some (value_at room.history.kept.records.0 (presence_id removal.session)))
    (last : between.last ≡ room.last) (schema : tree_of between ≡ tree_of room) (keeps : Keeps state.first (after_removal b removal.session state.history) between.history.kept)
    (updates : Updates room.sessions.present between.sessions.present key None) (fewer : slab_len between.sessions.present + 1 ≡ slab_len room.sessions.present)
    (entered : between.sessions.entered ≡ room.sessions.entered) where
  pub leaves_quietly : b ≡ false → Leaves (model.after_leave state number) between
  leaves_quietly none =
      let left = leaving state room between key s h at removal some b was last schema keeps updates fewer entered in
      subst (λ n. Leaves (model.after_leave state n) between) is
      (leaves_open state room between key s h at schema false left.0 (sym none ∙ left.1) left.2)

  pub leaves_ending : (after : Room) → tree_of after ≡ tree_of between → b ≡ true → ((r : model.Room) → Agrees r between → Agrees (model.end_slow r) after) → Leaves (model.after_leave state number) after
  leaves_ending after same one ends =
      let left = leaving state room between key s h at removal some b was last schema keeps updates fewer entered in
      subst (λ n. Leaves (model.after_leave state n) after) is
      (leaves_open state room after key s h at (same ∙ schema) true left.0 (sym one ∙ left.1) (ends _ left.2))
