-- The clocks of worlds that can be reached.
use Rattle.std.proofs.Common.{◌≡◌, ℕ, ◌≤◌, ℤ, pos, negsuc, List, [], ◌∷◌, ◌++◌, length, Some, refl, sym, subst, ◌∙◌, arith}
use Rattle.room_model.specs.Schemas.{Schemas, WorldSchemas}
use Rattle.room_model.specs.Histories.{History}
use Rattle.room_model.specs.Rooms.{Session, Room, Replied, after_message, after_leave, Notice, snapshot_at, updates_between, pong, end}
use Rattle.room_model.specs.Replicas.{Client, Pushing, after_end, after_notice}
use Rattle.room_model.specs.Worlds.{Channel, World, with_channel, with_pushing}
use Rattle.sync_msgs.specs.declared.client_message.ClientMessage.{ClientMessage}
use Rattle.sync_msgs.specs.declared.end_reason.EndReason.{EndReason}
use Rattle.sync_msgs.specs.declared.end_reason.EndReason.TheVariants.{ClientTooOld, ServerTooOld, InvalidRecord, RoomFull, Slow}
use Rattle.world_laws.specs.Reachable.{ReachableWorld}
use Rattle.world_laws.specs.Clocks.{IsReached, IsWithin, AreWithin, AreClocks}
use Rattle.world_laws.proofs.EventLemmas.{Acts, rests, works, Keeps, everywhere}
use Rattle.world_laws.proofs.PushLemmas.{each_set, each_added, snapshot_same, work_same, pushing_keeps}
use Rattle.world_laws.proofs.RoomLemmas.{message_keeps, leave_keeps, Gives, tells_end, answers, pongs, tells, drain_gives}

-- a clock never falls
pub message_rises : (schemas : Schemas) (room : Room) (n : ℕ) (said : ClientMessage) (replied : Replied) → after_message schemas room n said ≡ Some replied
    → length room.history ≤ length replied.room.history
message_rises schemas room n said replied is =
    message_keeps (λ r. length room.history ≤ length r.history) (λ r n s t at on less. less) (λ r n is less. omega arith) schemas
    (λ r n s sent plan push at is taken less. omega arith) room n said replied is (omega arith)

pub leave_rises : (room after : Room) (n : ℕ) → after_leave room n ≡ Some after → length room.history ≤ length after.history
leave_rises room after n is = leave_keeps (λ r. length room.history ≤ length r.history) (λ r n s t at on less. less) (λ r n is less. omega arith) room after n is (omega arith)

reached_later : (clock later : ℕ) → clock ≤ later → (reached : ℤ) → IsReached clock reached → IsReached later reached
reached_later clock later more (pos c) h = omega arith
reached_later clock later more (negsuc n) h = h

within_later : (clock later : ℕ) → clock ≤ later → (notice : Notice) → IsWithin clock notice → IsWithin later notice
within_later clock later more (snapshot_at at) h = omega arith
within_later clock later more (updates_between from to) h = (h.0, (let less = h.1 in omega arith))
within_later clock later more pong h = tt
within_later clock later more (end reason) h = tt

all_later : (clock later : ℕ) → clock ≤ later → (notices : List Notice) → AreWithin clock notices → AreWithin later notices
all_later clock later more [] h = tt
all_later clock later more (notice ∷ notices) h = (within_later clock later more notice h.0, all_later clock later more notices h.1)

all_added : (clock : ℕ) (notices : List Notice) (notice : Notice) → AreWithin clock notices → IsWithin clock notice → AreWithin clock (notices ++ notice ∷ [])
all_added clock [] notice h new = (new, tt)
all_added clock (n ∷ notices) notice h new = (h.0, all_added clock notices notice h.1 new)

pub end_reached : (reason : EndReason) (c : Client) → (after_end reason c).reached ≡ c.reached
end_reached Slow c = refl
end_reached ClientTooOld c = refl
end_reached ServerTooOld c = refl
end_reached InvalidRecord c = refl
end_reached RoomFull c = refl

notice_reached : (history : History) (clock k : ℕ) (c : Client) (notice : Notice) → IsReached clock c.reached → IsWithin clock notice → IsReached clock (after_notice history k c notice).client.reached
notice_reached history clock k c (snapshot_at at) h told = subst (IsReached clock) (sym (snapshot_same k at c).reached) told
notice_reached history clock k c (updates_between from to) h told = told.1
notice_reached history clock k c pong h told = h
notice_reached history clock k c (end reason) h told = subst (IsReached clock) (sym (end_reached reason c)) h

given_within : (room : Room) (n : ℕ) (s : Session) (notice : Notice) (after : Session) → Gives room n s notice after → IsWithin (length room.history) notice
given_within room n s _ _ (tells_end reason is) = tt
given_within room n s _ _ (answers request reached plan is) = omega arith
given_within room n s _ _ (pongs some) = tt
given_within room n s _ _ (tells sent plan is less) = (less, omega arith)

act_reached : {F : Type 0} (schemas : WorldSchemas F) (c : Client) (p : Pushing) → Acts schemas c p → p.client.reached ≡ c.reached
act_reached schemas c _ (rests d q) = q.reached
act_reached schemas c _ (works d work q place rising) = (work_same d work).reached ∙ q.reached

-- a client's clock, and what is in flight to a session, at a room's clock
abbrev AtClock : ℕ → Client → Type 0
AtClock clock c = IsReached clock c.reached

abbrev Told : ℕ → Channel → Type 0
Told clock channel = AreWithin clock channel.to_client

pushing_clocks : (w : World) (n : ℕ) (p : Pushing) → IsReached (length w.room.history) p.client.reached → AreClocks w → AreClocks (with_pushing n p w)
pushing_clocks w n p now h =
    let clock = length w.room.history in
    let clients = each_set (AtClock clock) w.clients n p.client h.reached now in
    pushing_keeps AreClocks w n p (record { reached = clients; told = h.told })
    (λ k channel is at. record { reached = clients; told = each_set (Told clock) w.channels k _ h.told (h.told k channel at) })

-- a room whose clock went on
clocks_later : (w : World) (room : Room) → length w.room.history ≤ length room.history → AreClocks w → AreClocks (record w { room = room })
clocks_later w room more h = record {
  reached = λ n c at. reached_later (length w.room.history) (length room.history) more c.reached (h.reached n c at);
  told = λ k channel at. all_later (length w.room.history) (length room.history) more channel.to_client (h.told k channel at);
}

module _ {F : Type 0} (schemas : WorldSchemas F) where
  clocks_keep : Keeps schemas AreClocks
  clocks_keep = record {
    joins = λ w version made h. record { reached = each_added (AtClock (length w.room.history)) w.clients _ h.reached refl; told = h.told };
    rests = λ w n c d made at q h. record {
      reached = each_set (AtClock (length w.room.history)) w.clients n d h.reached (subst (IsReached (length w.room.history)) (sym q.reached) (h.reached n c at));
      told = h.told;
    };
    cuts = λ w n k c made at is h. record { reached = each_set (AtClock (length w.room.history)) w.clients n _ h.reached (h.reached n c at); told = h.told };
    acts = λ w n c p made at acts h. pushing_clocks w n p (subst (IsReached (length w.room.history)) (sym (act_reached schemas c p acts)) (h.reached n c at)) h;
    asks = λ w n readonly c made at off place h. record {
      reached = each_set (AtClock (length w.room.history)) w.clients n _ h.reached (h.reached n c at);
      told = each_added (Told (length w.room.history)) w.channels _ h.told tt;
    };
    loses = λ w k channel room made at is h.
        let now = clocks_later w room (leave_rises w.room room k is) h in
        record { reached = now.reached; told = each_set (Told (length room.history)) w.channels k _ now.told (now.told k channel at) };
    handles = λ w k channel said messages replied made at first is h.
        let now = clocks_later w replied.room (message_rises schemas.room w.room k said replied is) h in
        record { reached = now.reached; told = each_set (Told (length replied.room.history)) w.channels k _ now.told (now.told k channel at) };
    sends = λ w k channel given made at is h.
        let on = drain_gives schemas.room w.room k given is in
        record {
          reached = h.reached;
          told = each_set (Told (length w.room.history)) w.channels k _ h.told
              (all_added (length w.room.history) channel.to_client given.notice (h.told k channel at) (given_within w.room k on.0 given.notice given.after on.2));
        };
    delivers = λ w n k c channel notice notices made at is there first h.
        let clock = length w.room.history in
        let told : AreWithin clock (notice ∷ notices) = subst (AreWithin clock) first (h.told k channel there) in
        let v = with_channel k (record channel { to_client = notices }) w in
        pushing_clocks v n (after_notice w.room.history k c notice) (notice_reached w.room.history clock k c notice (h.reached n c at) told.0)
        (record { reached = h.reached; told = each_set (Told clock) w.channels k (record channel { to_client = notices }) h.told told.1 });
  }

  pub clocks_stand : (w : World) → ReachableWorld schemas w → AreClocks w
  clocks_stand w made = everywhere schemas AreClocks clocks_keep (λ room reached none. record { reached = λ n c at. absurd (cc); told = λ n c at. absurd (cc) }) w made
