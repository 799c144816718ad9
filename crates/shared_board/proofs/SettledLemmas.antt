-- Once everything has arrived, each client that is connected shows the room's document.
use Rattle.std.proofs.Common.{◌≡◌, ℕ, suc, ◌<◌, ◌≤◌, nat_lt, pos, cond, Bool, true, false, ◌&&◌, List, [], ◌∷◌, ◌++◌, ◌-◌, length, slice_get, Option, Some, None, option_map, Ok, Err, refl, sym, ap, subst, ◌∙◌, arith}
use Rattle.std.specs.Prelude.{option_and_then, filter_map}
use Rattle.std.specs.Option.{option_map_or}
use Rattle.std.proofs.lemmas.Bool.Decides.{nat_tests}
use Rattle.std.proofs.lemmas.Option.{slice_get_within}
use Rattle.room_model.specs.Schemas.{WorldSchemas, AreLawfulTogether}
use Rattle.room_model.specs.Histories.{History}
use Rattle.room_model.specs.Rooms.{Session, live, has_left, unless_left, session_at, Notice, updates_between, pong, Given, next_in, next_for, after_drain}
use Rattle.room_model.specs.Replicas.{Work, Client, Pending, session_of, is_open, diff_in, pending_diffs, first_unsent, push_one}
use Rattle.room_model.specs.Worlds.{Channel, World, Stepped, Outcome, trace_line, out_line, with_channel, happens, at_channel, at_session, deliver_first, handle_first, on_deliver}
use Rattle.room_model.specs.declared.connection.Connection.{Connection}
use Rattle.room_model.specs.declared.connection.Connection.TheVariants.{Open}
use Rattle.room_model.specs.declared.fault.StepFault.TheVariants.{NoSuchClient, NoSuchSession, NothingThere}
use Rattle.room_model.specs.declared.limits.TheConstants.{MOST_PUSHES}
use Rattle.side_effects.specs.declared.fault.EditFault.{EditFault}
use Rattle.room_model.specs.Messages.{updates}
use Rattle.sync_msgs.specs.declared.client_message.ClientMessage.{ClientMessage}
use Rattle.sync_msgs.specs.declared.out.Out.TheVariants.{Message}
use Rattle.sync_msgs.specs.declared.server_message.ServerMessage.TheVariants as reply
use Rattle.world_laws.specs.Reachable.{ReachableWorld}
use Rattle.world_laws.specs.Channels.{IsAt, IsSentTo, IsSent}
use Rattle.world_laws.specs.Clocks.{IsReached}
use Rattle.world_laws.specs.Pending.{answered_above, answers_by, AreUnsent, goes_on, IsOwed, Owes}
use Rattle.world_laws.proofs.ClockLemmas.{clocks_stand}
use Rattle.world_laws.proofs.DownLemmas.{sent_stand}
use Rattle.world_laws.proofs.OwedLemmas.{owed_stand}
use Rattle.world_laws.proofs.SessionLemmas.{sessions_stand}
use Rattle.world_laws.proofs.ShownLemmas.{shows_room}
use Rattle.sync_world.proofs.ListLemmas.{got_some}
use Rattle.shared_board.specs.Moving.{IsRefused, IsSettled}
use Rattle.shared_board.specs.Sharing.{IsConnected, IsShared}

-- what happens isn't refused
never : (made : Stepped) → IsRefused (Ok made) → ⊥
never made refused = let no = refused.1 in cc

-- neither of two tests held where nothing was given
quiet : {A : Type 0} (a b : Bool) (x y : A) → cond a (Some x) (cond b (Some y) None) ≡ None → b ≡ false
quiet true b x y is = absurd (cc)
quiet false true x y is = absurd (cc)
quiet false false x y is = refl

-- above the last clock nothing was answered
none_above : (k : ℕ) (history : History) → answered_above k (length history) history ≡ []
none_above k [] = refl
none_above k (entry ∷ history) =
    let less : nat_lt (length history) (suc (length history)) ≡ true = grind (arith, nat_tests) in
    ap (λ b. cond b [] (answered_above k (suc (length history)) history ++ answers_by k entry)) less

-- where nothing was pushed, and nothing is left to push, nothing is pending
none_pending : (items : List Pending) → AreUnsent items → first_unsent items ≡ None → items ≡ []
none_pending [] unsent none = refl
none_pending (item ∷ items) unsent none = absurd (subst (λ o. first_unsent (record item { sent_as = o } ∷ items) ≡ None → ⊥) (sym unsent.0) (λ is. cc) none)

none_mapped : {A B : Type 0} (f : A → B) (o : Option A) → option_map f o ≡ None → o ≡ None
none_mapped f None is = refl
none_mapped f (Some x) is = absurd (cc)

-- a client that may push has pushed all
pushed_all : (a b : Bool) (client : Client) (o : Option Work) → a ≡ true → b ≡ true → cond (a && b) (option_map (push_one client) o) None ≡ None → o ≡ None
pushed_all true true client o on may is = none_mapped (push_one client) o is
pushed_all true false client o on may is = absurd (cc)
pushed_all false b client o on may is = absurd (cc)

module _ (schemas : WorldSchemas EditFault) (w : World) (n : ℕ) (client : Client) (is : IsConnected w n client) where
  abbrev k : ℕ
  k = is.session

  has : session_of client.connection ≡ Some k
  has = ap session_of is.connected

  module _ (reached : ReachableWorld schemas w) where
    found : (channel : Channel) × (slice_get w.channels k ≡ Some channel)
    found =
        let within : k < length w.room.sessions = slice_get_within w.room.sessions k is.held is.there in
        let same : length w.channels ≡ length w.room.sessions = (sessions_stand schemas w reached).channels in
        got_some w.channels k (omega (arith, within, same))

    abbrev here : Channel
    here = found.0

    session_there : session_at k w.room ≡ Some is.held
    session_there =
        ap (λ o. option_and_then unless_left o) is.there
        ∙ ap (λ p. cond (has_left p) None (Some is.held)) is.live.is

    at_it : (next : Channel → Outcome EditFault) → at_session k w next ≡ next here
    at_it next =
        ap (λ o. option_map_or (λ (s : Session). at_channel k w next) o (Err NoSuchSession)) session_there
        ∙ ap (λ o. option_map_or next o (Err NoSuchSession)) found.1

    module _ (settled : IsSettled schemas w) where
      no_messages : (messages : List ClientMessage) → IsRefused (handle_first schemas false k w here messages) → messages ≡ []
      no_messages [] refused = refl
      no_messages (said ∷ messages) refused = absurd (never _ refused)

      -- nothing is in flight to the room
      none_sent : here.to_room ≡ []
      none_sent = no_messages here.to_room (subst IsRefused (at_it (λ ch. handle_first schemas false k w ch ch.to_room)) (settled.heard k))

      no_notices : (notices : List Notice) → IsRefused (deliver_first n k w client here notices) → notices ≡ []
      no_notices [] refused = refl
      no_notices (notice ∷ notices) refused = absurd (never _ refused)

      delivers : on_deliver {F = EditFault} n w ≡ deliver_first n k w client here here.to_client
      delivers =
          ap (λ o. option_map_or (λ (c : Client). option_map_or (λ j. at_channel j w (λ ch. deliver_first n j w c ch ch.to_client)) (session_of c.connection) (Err NoSuchSession)) o (Err NoSuchClient)) is.joined
          ∙ ap (λ o. option_map_or (λ j. at_channel j w (λ ch. deliver_first n j w client ch ch.to_client)) o (Err NoSuchSession)) has
          ∙ ap (λ o. option_map_or (λ ch. deliver_first n k w client ch ch.to_client) o (Err NoSuchSession)) found.1

      -- nor to the client
      none_given : here.to_client ≡ []
      none_given = no_notices here.to_client (subst IsRefused delivers (settled.given n is.few))

      no_next : (o : Option Given) (f : Given → Outcome EditFault) → ((given : Given) → IsRefused (f given) → ⊥) → IsRefused (option_map_or f o (Err NothingThere)) → o ≡ None
      no_next None f happening refused = refl
      no_next (Some given) f happening refused = absurd (happening given refused)

      abbrev sends : Channel → Given → Outcome EditFault
      sends ch given =
          happens (trace_line false (out_line k given.out))
          (with_channel k (record ch { to_client = ch.to_client ++ given.notice ∷ [] }) (record w { room = after_drain w.room k given }))

      -- the room has told the session all
      none_next : next_for schemas.room w.room k ≡ None
      none_next = no_next (next_for schemas.room w.room k) (sends here) (λ given refused. never _ refused)
          (subst IsRefused (at_it (λ ch. option_map_or (sends ch) (next_for schemas.room w.room k) (Err NothingThere))) (settled.told k))

      abbrev ponged : Given
      ponged = record { out = Message reply.Pong; notice = pong; after = record is.held { pings = is.held.pings - 1 } }

      abbrev news : Given
      news = record {
        out = Message (updates schemas.room (record { session = k; readonly = is.held.readonly; plan = is.live.plan }) is.live.sent w.room.history);
        notice = updates_between is.live.sent (length w.room.history);
        after = record is.held { phase = live (length w.room.history) is.live.plan };
      }

      all_told : nat_lt is.live.sent (length w.room.history) ≡ false
      all_told =
          let next : next_in schemas.room w.room k is.held (live is.live.sent is.live.plan) ≡ None =
          ap (λ p. next_in schemas.room w.room k is.held p) (sym is.live.is) ∙ sym (ap (λ o. option_and_then (λ (s : Session). next_in schemas.room w.room k s s.phase) o) session_there) ∙ none_next in
          quiet (nat_lt 0 is.held.pings) (nat_lt is.live.sent (length w.room.history)) ponged news next

      sent : IsSent client is.held.phase []
      sent = subst (λ notices. IsSent client is.held.phase notices) none_given (sent_stand schemas w reached n k client is.held here is.joined has is.there found.1)

      -- so the client has reached the room's clock
      pub has_reached : client.reached ≡ pos (length w.room.history)
      has_reached =
          let at : IsAt (Open k) client.reached sent.place = subst (λ (c : Connection). IsAt c client.reached sent.place) is.connected sent.at in
          let leads : sent.place ≡ sent.last = sent.leads in
          let last : sent.last ≡ Some is.live.sent = subst (λ p. IsSentTo p [] sent.last) is.live.is sent.sent in
          let same : at.0 ≡ is.live.sent = let a = at.2 in cc in
          let within : at.0 ≤ length w.room.history = subst (λ r. IsReached (length w.room.history) r) at.1 ((clocks_stand schemas w reached).reached n client is.joined) in
          let clock : at.0 ≡ length w.room.history = let more = all_told in grind (arith, nat_tests) in
          at.1 ∙ ap pos clock

      module _ (lawful : AreLawfulTogether schemas) where
        owes : Owes schemas.room w client k (length w.room.history) is.held here
        owes = owed_stand schemas lawful w reached n k (length w.room.history) client is.held here is.joined is.connected has_reached is.there found.1

        unsent : AreUnsent client.pending
        unsent =
            let goes : goes_on is.held.phase ≡ true = ap goes_on is.live.is in
            let one = subst (λ b. IsOwed schemas.room b (answered_above k (length w.room.history) w.room.history) client.pending here.to_room) goes owes.owed in
            let two = subst (λ entries. IsOwed schemas.room true entries client.pending here.to_room) (none_above k w.room.history) one in
            subst (λ messages. IsOwed schemas.room true [] client.pending messages) none_sent two

        -- and owes nothing
        nothing_pending : client.pending ≡ []
        nothing_pending =
            let on : is_open client.connection ≡ true = ap is_open is.connected in
            let may : nat_lt client.pushes MOST_PUSHES ≡ true = let less = is.may_push in grind (arith, nat_tests) in
            none_pending client.pending unsent (pushed_all (is_open client.connection) (nat_lt client.pushes MOST_PUSHES) client (first_unsent client.pending) on may owes.pushed)

        pub owes_nothing : pending_diffs client ≡ []
        owes_nothing = ap (λ items. filter_map (λ (item : Pending). diff_in item.work) items) nothing_pending

-- a settled world is shared
pub is_shared : (schemas : WorldSchemas EditFault) (w : World) → AreLawfulTogether schemas → ReachableWorld schemas w → IsSettled schemas w → IsShared schemas w
is_shared schemas w lawful reached settled = record {
  owes = λ n client is. owes_nothing schemas w n client is reached settled lawful;
  shows = λ n client is.
      let shows = shows_room schemas w n client reached is.joined (has_reached schemas w n client is reached settled) (owes_nothing schemas w n client is reached settled lawful) in
      record { plan = shows.0; leads = shows.1; seen = shows.2 };
}
