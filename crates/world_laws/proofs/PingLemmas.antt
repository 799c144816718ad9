-- Clients of a world send no pings.
use Rattle.std.proofs.Common.{◌≡◌, ℕ, zero, suc, List, [], ◌∷◌, ◌++◌, length, slice_get, slice_set, Some, None, refl, sym, ap, subst, ◌∙◌, arith}
use Rattle.std.specs.Option.{option_map_or}
use Rattle.room_model.specs.Schemas.{WorldSchemas}
use Rattle.room_model.specs.Histories.{History}
use Rattle.room_model.specs.Rooms.{Session, Room, Notice, snapshot_at, updates_between, pong, end}
use Rattle.room_model.specs.Replicas.{Work, edit, presence, Client, Pushing, push_none, push_of, next_push, push_times, with_work, after_notice}
use Rattle.room_model.specs.Worlds.{Channel, World, with_channel, with_pushing}
use Rattle.sync_msgs.specs.declared.client_message.ClientMessage.{ClientMessage}
use Rattle.world_laws.specs.Reachable.{ReachableWorld}
use Rattle.world_laws.specs.Channels.{IsNoPing, AreNoPings, AreWithoutPings}
use Rattle.world_laws.proofs.EventLemmas.{Acts, rests, works, Keeps, everywhere}
use Rattle.world_laws.proofs.PushLemmas.{AtEach, each_set, each_added, next_same, answered, pushing_keeps}
use Rattle.world_laws.proofs.RoomLemmas.{Gives, tells_end, answers, pongs, tells, drain_gives}
use Rattle.world_laws.proofs.TurnLemmas.{leave_turns, message_turns}

pings_joined : (xs ys : List ClientMessage) → AreNoPings xs → AreNoPings ys → AreNoPings (xs ++ ys)
pings_joined [] ys h k = k
pings_joined (x ∷ xs) ys h k = (h.0, pings_joined xs ys h.1 k)

push_no_ping : (k : ℕ) (work : Work) → IsNoPing (push_of k work)
push_no_ping k (edit diff) = tt
push_no_ping k (presence d) = tt

pushed_no_pings : (k : ℕ) (c : Client) → AreNoPings (push_times k c).messages
pushed_no_pings zero c = tt
pushed_no_pings (suc k) c =
    elim (next_push c) as (λ o. next_push c ≡ o → AreNoPings (option_map_or (λ one. let more = push_times k one.client in record more { messages = one.messages ++ more.messages }) o (push_none c)).messages) [
      | None ↦ λ is. tt
      | Some p ↦ λ is.
          let on = next_same c p is in
          let one : AreNoPings p.messages = subst (λ (q : Pushing). AreNoPings q.messages) (sym on.2) (push_no_ping (suc c.pushes) on.0, tt) in
          pings_joined p.messages (push_times k p.client).messages one (pushed_no_pings k p.client)
    ] refl

notice_no_pings : (history : History) (k : ℕ) (c : Client) (notice : Notice) → AreNoPings (after_notice history k c notice).messages
notice_no_pings history k c (snapshot_at clock) = pushed_no_pings (length (answered k clock c).pending) (answered k clock c)
notice_no_pings history k c (updates_between from to) = tt
notice_no_pings history k c pong = tt
notice_no_pings history k c (end reason) = tt

act_no_pings : {F : Type 0} (schemas : WorldSchemas F) (c : Client) (p : Pushing) → Acts schemas c p → AreNoPings p.messages
act_no_pings schemas c _ (rests d q) = tt
act_no_pings schemas c _ (works d work q place rising) = pushed_no_pings (length (with_work work d).pending) (with_work work d)

abbrev NoPings : Channel → Type 0
NoPings channel = AreNoPings channel.to_room

abbrev NoneWaits : Session → Type 0
NoneWaits s = s.pings ≡ 0

abbrev Waiting : Room → Type 0
Waiting r = AtEach NoneWaits r.sessions

waits_set : (r : Room) (n : ℕ) (s t : Session) → slice_get r.sessions n ≡ Some s → t.pings ≡ s.pings → Waiting r → AtEach NoneWaits (slice_set r.sessions n t)
waits_set r n s t at same h = each_set NoneWaits r.sessions n t h (same ∙ h n s at)

given_waits : (room : Room) (n : ℕ) (s : Session) (notice : Notice) (after : Session) → Gives room n s notice after → s.pings ≡ 0 → after.pings ≡ 0
given_waits room n s _ _ (tells_end reason is) none = none
given_waits room n s _ _ (answers request reached plan is) none = none
given_waits room n s _ _ (pongs some) none = absurd (omega arith)
given_waits room n s _ _ (tells sent plan is less) none = none

pushing_pings : (w : World) (n : ℕ) (p : Pushing) → AreNoPings p.messages → AreWithoutPings w → AreWithoutPings (with_pushing n p w)
pushing_pings w n p none h = pushing_keeps AreWithoutPings w n p (record { none_sent = h.none_sent; none_waits = h.none_waits }) (λ k channel is at. record {
  none_sent = each_set NoPings w.channels k _ h.none_sent (pings_joined channel.to_room p.messages (h.none_sent k channel at) none);
  none_waits = h.none_waits;
})

module _ {F : Type 0} (schemas : WorldSchemas F) where
  pings_keep : Keeps schemas AreWithoutPings
  pings_keep = record {
    joins = λ w version made h. record { none_sent = h.none_sent; none_waits = h.none_waits };
    rests = λ w n c d made at q h. record { none_sent = h.none_sent; none_waits = h.none_waits };
    cuts = λ w n k c made at is h. record { none_sent = h.none_sent; none_waits = h.none_waits };
    acts = λ w n c p made at acts h. pushing_pings w n p (act_no_pings schemas c p acts) h;
    asks = λ w n readonly c made at off place h. record {
      none_sent = each_added NoPings w.channels _ h.none_sent (tt, tt);
      none_waits = each_added NoneWaits w.room.sessions _ h.none_waits refl;
    };
    loses = λ w k channel room made at is h. record {
      none_sent = each_set NoPings w.channels k _ h.none_sent tt;
      none_waits = leave_turns Waiting k (λ r n s phase at who here over waits. waits_set r n s _ at refl waits) (λ r n is waits. waits) w.room room k refl is
          (λ s at over waits. waits_set w.room k s _ at refl waits) h.none_waits;
    };
    handles = λ w k channel said messages replied made at first is h.
        let none : AreNoPings (said ∷ messages) = subst AreNoPings first (h.none_sent k channel at) in
        record {
          none_sent = each_set NoPings w.channels k _ h.none_sent none.1;
          none_waits = message_turns Waiting k (λ r n s phase at who here over waits. waits_set r n s _ at refl waits) (λ r n is waits. waits) schemas.room w.room k refl said
              (λ s request reached protocol versions plan at says is planned waits. waits_set w.room k s _ at refl waits)
              (λ s count at says waits. absurd (subst IsNoPing says none.0))
              (λ s sent plan push at says is taken waits. waits) replied is h.none_waits;
        };
    sends = λ w k channel given made at is h.
        let on = drain_gives schemas.room w.room k given is in
        record {
          none_sent = each_set NoPings w.channels k _ h.none_sent (h.none_sent k channel at);
          none_waits = each_set NoneWaits w.room.sessions k given.after h.none_waits (given_waits w.room k on.0 given.notice given.after on.2 (h.none_waits k on.0 on.1.at));
        };
    delivers = λ w n k c channel notice notices made at is there first h.
        let v = with_channel k (record channel { to_client = notices }) w in
        pushing_pings v n (after_notice w.room.history k c notice) (notice_no_pings w.room.history k c notice) (record {
          none_sent = each_set NoPings w.channels k (record channel { to_client = notices }) h.none_sent (h.none_sent k channel there);
          none_waits = h.none_waits;
        });
  }

  pub pings_stand : (w : World) → ReachableWorld schemas w → AreWithoutPings w
  pings_stand w made = everywhere schemas AreWithoutPings pings_keep (λ room reached none. record {
    none_sent = λ n c at. absurd (cc);
    none_waits = λ n s at. absurd (let no : None ≡ Some s = sym (ap (λ xs. slice_get xs n) none) ∙ at in cc);
  }) w made
