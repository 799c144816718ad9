-- The diffs of what is pending, in flight and to be done again rise; so the room of a world that can be reached is one that calls make.
use Rattle.std.proofs.Common.{◌≡◌, ℕ, zero, suc, Bool, false, ◌||◌, cond, List, [], ◌∷◌, ◌++◌, length, map, drop, filter_map, Option, Some, None, sym, ap, subst}
use Rattle.std.specs.Prelude.{option_to_list}
use Rattle.rooms_val.proofs.Truths.{or_false_left}
use Rattle.rooms_val.specs.Data.{Data}
use Rattle.room_model.specs.Schemas.{Schemas, WorldSchemas, AreLawfulTogether}
use Rattle.room_model.specs.Histories.{History}
use Rattle.room_model.specs.Rooms.{Room, is_full, after_enter, enter, Notice, snapshot_at, updates_between, pong, end}
use Rattle.room_model.specs.Reachable.{IsRising, Reachable, entered, received, drained, left}
use Rattle.room_model.specs.Replicas.{Work, edit, presence, Pending, Client, Pushing, push_all, with_work, unsent, all_unsent, pending_diffs, diff_in, after_cut, after_end, after_notice, count_by_session}
use Rattle.room_model.specs.Worlds.{World, with_pushing}
use Rattle.room_model.proofs.HistoryLemmas.{Each, each-append}
use Rattle.sync_msgs.specs.declared.end_reason.EndReason.{EndReason}
use Rattle.sync_msgs.specs.declared.end_reason.EndReason.TheVariants.{ClientTooOld, ServerTooOld, InvalidRecord, RoomFull, Slow}
use Rattle.world_laws.specs.Reachable.{ReachableWorld}
use Rattle.world_laws.proofs.EventLemmas.{AreRisingRedos, Quiet, IsRisingWork, Acts, rests, works, Keeps, everywhere}
use Rattle.world_laws.proofs.PushLemmas.{AtEach, each_set, each_added, same_pushed, AreRisingItems, rising_pushed, pushing_keeps}

-- what a client would push, and do again, rises
pub record IsRisingClient (c : Client) : Type 0 where
  pub items : AreRisingItems c.pending
  pub redos : AreRisingRedos c.marks.redos

-- all that is in a world rises, and calls make its room
record AreDiffs (schemas : Schemas) (w : World) : Type 0 where
  room : Reachable schemas w.room
  clients : AtEach IsRisingClient w.clients
  channels : AtEach (λ channel. Each IsRising channel.to_room) w.channels

-- an item with another work
abbrev with_work_of : Pending → Work → Pending
with_work_of item work = record item { work = work }

rising_diffs : (items : List Pending) → AreRisingItems items → AreRisingItems (all_unsent (map edit (filter_map (λ item. diff_in item.work) items)))
rising_diffs [] h = tt
rising_diffs (item ∷ items) h = elim item.work as (λ v. IsRisingWork v → AreRisingItems (all_unsent (map edit (filter_map (λ item. diff_in item.work) (with_work_of item v ∷ items))))) [
  | edit diff ↦ λ k. (k, rising_diffs items h.1)
  | presence d ↦ λ k. rising_diffs items h.1
] h.0

each_drop : {X : Type 0} (P : X → Type 0) (k : ℕ) (xs : List X) → Each P xs → Each P (drop k xs)
each_drop P zero xs h = h
each_drop P (suc k) [] h = tt
each_drop P (suc k) (x ∷ xs) h = each_drop P k xs h.1

unsent_append : (us vs : List Work) → AreRisingItems (all_unsent us) → AreRisingItems (all_unsent vs) → AreRisingItems (all_unsent (us ++ vs))
unsent_append [] vs h k = k
unsent_append (u ∷ us) vs h k = (h.0, unsent_append us vs h.1 k)

rising_presence : (o : Option Data) → AreRisingItems (all_unsent (map presence (option_to_list o)))
rising_presence None = tt
rising_presence (Some d) = (tt, tt)

cut_rises : (c : Client) → IsRisingClient c → IsRisingClient (after_cut c)
cut_rises c h = record { items = rising_diffs c.pending h.items; redos = h.redos }

end_rises : (reason : EndReason) (c : Client) → IsRisingClient c → IsRisingClient (after_end reason c)
end_rises Slow c h = cut_rises c h
end_rises ClientTooOld c h = record { items = rising_diffs c.pending h.items; redos = h.redos }
end_rises ServerTooOld c h = record { items = rising_diffs c.pending h.items; redos = h.redos }
end_rises InvalidRecord c h = record { items = rising_diffs c.pending h.items; redos = h.redos }
end_rises RoomFull c h = record { items = rising_diffs c.pending h.items; redos = h.redos }

-- what a client pushes rises, and what it leaves does
record IsRisingPushing (p : Pushing) : Type 0 where
  client : IsRisingClient p.client
  messages : Each IsRising p.messages

all_rise : (c : Client) → IsRisingClient c → IsRisingPushing (push_all c)
all_rise c h =
    let k = length c.pending in
    let p = rising_pushed k c h.items in
    record { client = record { items = p.0; redos = subst (λ m. AreRisingRedos m.redos) (sym (same_pushed k c).marks) h.redos }; messages = p.1 }

notice_rises : (history : History) (k : ℕ) (c : Client) (notice : Notice) → IsRisingClient c → IsRisingPushing (after_notice history k c notice)
notice_rises history k c (snapshot_at clock) h = all_rise _ (record {
  items = unsent_append (map edit (pending_diffs c)) (map presence (option_to_list c.presence)) (rising_diffs c.pending h.items) (rising_presence c.presence);
  redos = h.redos;
})
notice_rises history k c (updates_between from to) h = record { client = record { items = each_drop _ (count_by_session k from to history) c.pending h.items; redos = h.redos }; messages = tt }
notice_rises history k c pong h = record { client = h; messages = tt }
notice_rises history k c (end reason) h = record { client = end_rises reason c h; messages = tt }

quiet_rises : (c d : Client) → Quiet c d → IsRisingClient c → IsRisingClient d
quiet_rises c d q h = record { items = subst AreRisingItems (sym q.pending) h.items; redos = q.redos h.redos }

module _ {F : Type 0} (schemas : WorldSchemas F) (lawful : AreLawfulTogether schemas) where
  work_rises : (c d : Client) (work : Work) → Quiet c d → IsRisingWork work → IsRisingClient c → IsRisingClient (with_work work d)
  work_rises c d work q rising h =
      let e = quiet_rises c d q h in
      record { items = each-append _ d.pending (unsent work ∷ []) e.items (rising, tt); redos = e.redos }

  act_rises : (c : Client) (p : Pushing) → Acts schemas c p → IsRisingClient c → IsRisingPushing p
  act_rises c _ (rests d q) h = record { client = quiet_rises c d q h; messages = tt }
  act_rises c _ (works d work q place rising) h = all_rise (with_work work d) (work_rises c d work q (rising lawful h.redos) h)

  pushing_rises : (w : World) (n : ℕ) (p : Pushing) → IsRisingPushing p → AreDiffs schemas.room w → AreDiffs schemas.room (with_pushing n p w)
  pushing_rises w n p rising h =
      let clients = each_set IsRisingClient w.clients n p.client h.clients rising.client in
      pushing_keeps (AreDiffs schemas.room) w n p (record { room = h.room; clients = clients; channels = h.channels }) (λ k channel is at. record {
        room = h.room;
        clients = clients;
        channels = each_set (λ channel. Each IsRising channel.to_room) w.channels k _ h.channels (each-append IsRising channel.to_room p.messages (h.channels k channel at) rising.messages);
      })

  entering : (readonly : Bool) (room : Room) → is_full room ≡ false → enter readonly room ≡ Some (after_enter readonly room)
  entering readonly room not_full = ap (λ b. cond b None (Some (after_enter readonly room))) not_full

  diffs_keep : Keeps schemas (AreDiffs schemas.room)
  diffs_keep = record {
    joins = λ w version made h. record { room = h.room; clients = each_added IsRisingClient w.clients _ h.clients (record { items = tt; redos = tt }); channels = h.channels };
    rests = λ w n c d made at q h. record { room = h.room; clients = each_set IsRisingClient w.clients n d h.clients (quiet_rises c d q (h.clients n c at)); channels = h.channels };
    cuts = λ w n k c made at is h. record { room = h.room; clients = each_set IsRisingClient w.clients n (after_cut c) h.clients (cut_rises c (h.clients n c at)); channels = h.channels };
    acts = λ w n c p made at acts h. pushing_rises w n p (act_rises c p acts (h.clients n c at)) h;
    asks = λ w n readonly c made at off place h. record {
      room = entered readonly w.room _ h.room (entering readonly w.room (or_false_left _ _ place));
      clients = each_set IsRisingClient w.clients n _ h.clients (record { items = (h.clients n c at).items; redos = (h.clients n c at).redos });
      channels = each_added (λ channel. Each IsRising channel.to_room) w.channels _ h.channels (tt, tt);
    };
    loses = λ w k channel room made at is h. record {
      room = left k w.room room h.room is;
      clients = h.clients;
      channels = each_set (λ channel. Each IsRising channel.to_room) w.channels k _ h.channels tt;
    };
    handles = λ w k channel said messages replied made at first is h.
        let rising : Each IsRising (said ∷ messages) = subst (Each IsRising) first (h.channels k channel at) in
        record {
          room = received k said w.room replied h.room rising.0 is;
          clients = h.clients;
          channels = each_set (λ channel. Each IsRising channel.to_room) w.channels k _ h.channels rising.1;
        };
    sends = λ w k channel given made at is h. record {
      room = drained k given w.room h.room is;
      clients = h.clients;
      channels = each_set (λ channel. Each IsRising channel.to_room) w.channels k _ h.channels (h.channels k channel at);
    };
    delivers = λ w n k c channel notice notices made at is there first h.
        pushing_rises _ n _ (notice_rises w.room.history k c notice (h.clients n c at)) (record {
          room = h.room;
          clients = h.clients;
          channels = each_set (λ channel. Each IsRising channel.to_room) w.channels k _ h.channels (h.channels k channel there);
        });
  }

  all_diffs : (w : World) → ReachableWorld schemas w → AreDiffs schemas.room w
  all_diffs w made = everywhere schemas (AreDiffs schemas.room) diffs_keep (λ room reached none. record { room = reached; clients = λ n c at. absurd (cc); channels = λ n c at. absurd (cc) }) w made

  pub room_reached : (w : World) → ReachableWorld schemas w → Reachable schemas.room w.room
  room_reached w made = (all_diffs w made).room
