-- Queues hold what the notices tell, whatever happens.
use Rattle.std.proofs.Common.{◌≡◌, inl, inr, ℕ, ◌+◌, ◌≤◌, ◌<◌, nat_le, nat_lt, Bool, true, false, cond, List, [], ◌∷◌, ◌++◌, length, map, drop, slice_get, Option, Some, None, Ok, Err, Result, refl, sym, ap, subst, ◌∙◌, arith}
use Rattle.std.specs.Option.{option_map_or}
use Rattle.std.proofs.lemmas.Bool.Decides.{nat_tests}
use Rattle.std.proofs.lemmas.List.{get_or-set_same, get_or-set_other, get_or_append_left, get_or-append-add, append-nil}
use Rattle.std.proofs.lemmas.Option.{slice_get_within}
use Rattle.rooms_val.specs.View.{data_of}
use Rattle.field_ops.specs.RecordOps.{RecordOps}
use Rattle.doc_model.specs.Marks as marks
use Rattle.room_model.specs.Clips.{ClipTree}
use Rattle.room_model.specs.Schemas.{WorldSchemas}
use Rattle.room_model.specs.Rooms.{Room, Notice, Given, next_for, after_drain}
use Rattle.room_model.specs.Replicas.{Client, new_client, session_of, Pushing, schema_of}
use Rattle.room_model.specs.Worlds.{Channel, World, world_over, Stepped, with_client, with_channel, with_pushing, Outcome, happens, at_client, is_at_limit, ask, connect_if_allowed, take_edit, take_clip, edit_pasted, handle_first, deliver_first, after_event}
use Rattle.room_model.specs.declared.clip_fault.ClipFault.{ClipFault}
use Rattle.room_model.specs.declared.clip_fault.PasteFault.{PasteFault}
use Rattle.room_model.specs.declared.event.Event.{Event}
use Rattle.room_model.specs.declared.event.Event.TheVariants as event
use Rattle.room_model.specs.declared.fault.StepFault.TheVariants.{Limit}
use Rattle.room_model.specs.declared.limits.TheConstants.{MOST_CLIENTS}
use Rattle.sync_msgs.specs.declared.end_reason.EndReason.{EndReason}
use Rattle.sync_msgs.specs.declared.out.Out.{Out}
use Rattle.world_laws.specs.Reachable.{ReachableWorld}
use Rattle.world_laws.specs.Sessions.{IsCurrent}
use Rattle.world_laws.specs.Told.{told}
use Rattle.world_laws.specs.Queues.{Queues, queue_at, without_first, with_out, queues_after, AreQueues}
use Rattle.world_laws.proofs.EventLemmas.{Holds, from_option, in_session}
use Rattle.world_laws.proofs.PushLemmas.{got_split, got_old, got_new, long-set, long-added, pushing_keeps}
use Rattle.world_laws.proofs.SessionLemmas.{sessions_stand}
use Rattle.world_laws.proofs.LaterLemmas.{IsLater, event_later}
use Rattle.world_laws.proofs.ToldLemmas.{sent_told, told_stays}

module _ (w : World) (queues : Queues) (long : length queues ≡ length w.channels) where
  -- what happened to a channel, and to the queue of its session
  data Happened (now : Queues) (k : ℕ) (channel : Channel) : Type 0 where
    nothing : (before : Channel) → slice_get w.channels k ≡ Some before → channel.to_client ≡ before.to_client → queue_at k now ≡ queue_at k queues → Happened now k channel
    given : (before : Channel) (notice : Notice) → slice_get w.channels k ≡ Some before → before.to_client ≡ notice ∷ channel.to_client
        → queue_at k now ≡ drop 1 (queue_at k queues) → Happened now k channel
    entered : channel.to_client ≡ [] → queue_at k now ≡ [] → Happened now k channel

  -- it is so of all channels, and there is still a queue for each
  record Go (now : Queues) (v : World) : Type 0 where
    pub as_long : length now ≡ length v.channels
    pub each : (k : ℕ) (channel : Channel) → slice_get v.channels k ≡ Some channel → Happened now k channel

  alike : (now : Queues) (k : ℕ) (channel other : Channel) → other.to_client ≡ channel.to_client → Happened now k channel → Happened now k other
  alike now k channel other same (nothing before at is queue) = nothing before at (same ∙ is) queue
  alike now k channel other same (given before notice at is queue) = given before notice at (is ∙ ap (λ ns. notice ∷ ns) (sym same)) queue
  alike now k channel other same (entered is queue) = entered (same ∙ is) queue

  stay : (v : World) → v.channels ≡ w.channels → Go queues v
  stay v same = record { as_long = long ∙ ap length (sym same); each = λ k channel at. nothing channel (sym (ap (λ cs. slice_get cs k) same) ∙ at) refl refl }

  -- a channel set in which nothing else is in flight to the client
  set_stays : (now : Queues) (v : World) (k : ℕ) (before after : Channel) → slice_get v.channels k ≡ Some before → after.to_client ≡ before.to_client → Go now v → Go now (with_channel k after v)
  set_stays now v k before after at same h = record {
    as_long = h.as_long ∙ sym (long-set v.channels k after);
    each = λ j channel there. elim (got_split v.channels k j after channel there) [
      | inl it ↦ subst (Happened now j) (sym it.1) (alike now j before after same (h.each j before (ap (slice_get v.channels) it.0 ∙ at)))
      | inr other ↦ h.each j channel other.1
    ];
  }

  pushing_stays : (now : Queues) (v : World) (n : ℕ) (p : Pushing) → Go now v → Go now (with_pushing n p v)
  pushing_stays now v n p h =
      let alone : Go now (with_client n p.client v) = record { as_long = h.as_long; each = h.each } in
      pushing_keeps (Go now) v n p alone (λ k channel is there. set_stays now (with_client n p.client v) k channel _ there refl alone)

  pushing : (n : ℕ) (p : Pushing) → Go queues (with_pushing n p w)
  pushing n p = pushing_stays queues w n p (stay w refl)

  -- a session enters
  added : (entering : Channel) → entering.to_client ≡ [] → (v : World) → v.channels ≡ w.channels ++ entering ∷ [] → Go (queues ++ [] ∷ []) v
  added entering none v is =
      let empty : List Out = [] in
      let long_after : length (w.channels ++ entering ∷ []) ≡ length (queues ++ empty ∷ []) =
      let a = long-added w.channels entering in let b = long-added queues empty in omega arith in
      record {
        as_long = sym (ap length is ∙ long_after);
        each = λ k channel there.
            let at : slice_get (w.channels ++ entering ∷ []) k ≡ Some channel = sym (ap (λ cs. slice_get cs k) is) ∙ there in
            elim (nat_lt k (length w.channels)) as (λ b. nat_lt k (length w.channels) ≡ b → Happened (queues ++ [] ∷ []) k channel) [
              | true ↦ λ less.
                  let within : k < length w.channels = grind (arith, nat_tests) in
                  nothing channel (got_old w.channels k entering channel within at) refl (get_or_append_left queues ([] ∷ []) [] k (omega arith))
              | false ↦ λ more.
                  let behind : length w.channels ≤ k = grind (arith, nat_tests) in
                  let fresh = got_new w.channels k entering channel behind at in
                  let within = slice_get_within (w.channels ++ entering ∷ []) k channel at in
                  let last : k ≡ length queues + 0 = let a = long-added w.channels entering in omega arith in
                  entered (ap (λ (x : Channel). x.to_client) fresh ∙ none) (ap (λ j. queue_at j (queues ++ [] ∷ [])) last ∙ get_or-append-add queues ([] ∷ []) 0 [])
            ] refl;
      }

  -- a client is given the first that is in flight to its session
  first_given : (k : ℕ) (channel : Channel) (notice : Notice) (notices : List Notice) → slice_get w.channels k ≡ Some channel → channel.to_client ≡ notice ∷ notices
      → Go (without_first k queues) (with_channel k (record channel { to_client = notices }) w)
  first_given k channel notice notices at first = record {
    as_long = long-set queues k (drop 1 (queue_at k queues)) ∙ long ∙ sym (long-set w.channels k (record channel { to_client = notices }));
    each = λ j other there. elim (got_split w.channels k j (record channel { to_client = notices }) other there) [
      | inl it ↦
          let within = slice_get_within w.channels k channel at in
          given channel notice (ap (slice_get w.channels) it.0 ∙ at) (first ∙ ap (λ (x : Channel). notice ∷ x.to_client) (sym it.1))
          (ap (λ i. queue_at i (without_first k queues)) it.0 ∙ get_or-set_same queues k (drop 1 (queue_at k queues)) [] (omega arith) ∙ ap (λ i. drop 1 (queue_at i queues)) (sym it.0))
      | inr away ↦ nothing other away.1 refl (get_or-set_other queues k j (drop 1 (queue_at k queues)) [] away.0)
    ];
  }

  -- event by event
  module _ {F : Type 0} (schemas : WorldSchemas F) where
    abbrev Goes : Queues → Outcome F → Type 0
    Goes now outcome = Holds (Go now) outcome

    by_client : (now : Queues) (n : ℕ) (next : Client → Outcome F) → ((c : Client) → slice_get w.clients n ≡ Some c → Goes now (next c)) → Goes now (at_client n w next)
    by_client now n next k = from_option (Go now) next (slice_get w.clients n) _ (λ none. tt) k

    with_any : {X : Type 0} (now : Queues) (next : X → Outcome F) (o : Option X) (other : Outcome F) → Goes now other → ((x : X) → Goes now (next x)) → Goes now (option_map_or next o other)
    with_any now next o other h k = from_option (Go now) next o other (λ none. h) (λ x is. k x)

    edited : (n : ℕ) (c : Client) (o : Result RecordOps F) → Goes queues (take_edit schemas n w c o)
    edited n c (Ok diff) = pushing n _
    edited n c (Err fault) = tt

    pasted : (n : ℕ) (o : Result RecordOps PasteFault) → Goes queues (edit_pasted schemas n w o)
    pasted n (Ok wanted) = by_client queues n _ (λ c there. edited n c _)
    pasted n (Err fault) = tt

    copied : (n : ℕ) (c : Client) (o : Result ClipTree ClipFault) → Goes queues (take_clip schemas n w c o)
    copied n c (Ok clip) = stay _ refl
    copied n c (Err fault) = tt

    allowed : (n : ℕ) (readonly : Bool) (c : Client) (o : Option EndReason) → Goes (queues ++ [] ∷ []) (connect_if_allowed schemas n readonly w c o)
    allowed n readonly c (Some reason) = tt
    allowed n readonly c None = elim (is_at_limit w) as (λ b. Goes (queues ++ [] ∷ []) (cond b (Err Limit) (happens [] (ask schemas n readonly w c)))) [ true ↦ tt | false ↦ added _ refl _ refl ]

    handled : (trace : Bool) (k : ℕ) → Goes queues (after_event schemas trace w (event.Handle k))
    handled trace k = in_session (Go queues) k w _ (λ s channel there at. elim channel.to_room as (λ ms. Goes queues (handle_first schemas trace k w channel ms)) [
      | [] ↦ tt
      | (said ∷ messages) ↦ set_stays queues (record w { room = _ }) k channel (record channel { to_room = messages }) at refl (stay (record w { room = _ }) refl)
    ])

    delivered : (trace : Bool) (n : ℕ) → Goes (queues_after schemas w queues (event.Deliver n)) (after_event schemas trace w (event.Deliver n))
    delivered trace n =
        let now = queues_after schemas w queues (event.Deliver n) in
        by_client now n _ (λ c there. from_option (Go now) _ (session_of c.connection) _ (λ none. tt) (λ k has. from_option (Go now) _ (slice_get w.channels k) _ (λ none. tt) (λ channel at.
        let found : without_first k queues ≡ now = sym (
        ap (λ o. option_map_or (λ (c : Client). option_map_or (λ k. without_first k queues) (session_of c.connection) queues) o queues) there
        ∙ ap (λ o. option_map_or (λ k. without_first k queues) o queues) has
        ) in
        elim channel.to_client as (λ ns. channel.to_client ≡ ns → Goes now (deliver_first n k w c channel ns)) [
          | [] ↦ λ is. tt
          | (notice ∷ notices) ↦ λ is. pushing_stays now (with_channel k (record channel { to_client = notices }) w) n _ (subst (λ q. Go q (with_channel k (record channel { to_client = notices }) w)) found (first_given k channel notice notices at is))
        ] refl)))

    -- all but what the room gives out
    goes : (trace : Bool) (e : Event) → ((k : ℕ) → e ≡ event.Send k → ⊥) → Goes (queues_after schemas w queues e) (after_event schemas trace w e)
    goes trace (event.Client version) other = elim (nat_le MOST_CLIENTS (length w.clients)) as (λ b. Goes queues (cond b (Err Limit) (happens [] (record w { clients = w.clients ++ new_client version ∷ [] })))) [ true ↦ tt | false ↦ stay _ refl ]
    goes trace (event.Connect n readonly) other = by_client (queues ++ [] ∷ []) n _ (λ c there. with_any (queues ++ [] ∷ []) _ (session_of c.connection) _ (allowed n readonly c c.refused) (λ k. tt))
    goes trace (event.Edit n wanted) other = by_client queues n _ (λ c there. edited n c _)
    goes trace (event.Presence n val) other = by_client queues n _ (λ c there. with_any queues _ ((schema_of schemas c).presence_fault (data_of val)) _ (pushing n _) (λ fault. tt))
    goes trace (event.Mark n name) other = by_client queues n _ (λ c there. stay _ refl)
    goes trace (event.Undo n) other = by_client queues n _ (λ c there. with_any queues _ (marks.undo_diff c.marks) _ (stay w refl) (λ diff. pushing n _))
    goes trace (event.Redo n) other = by_client queues n _ (λ c there. with_any queues _ (marks.redo_diff c.marks) _ (stay w refl) (λ diff. pushing n _))
    goes trace (event.Bail n name) other = by_client queues n _ (λ c there. with_any queues _ (marks.bail_diff name c.marks) _ tt (λ diff. pushing n _))
    goes trace (event.Copy n ids) other = by_client queues n _ (λ c there. copied n c _)
    goes trace (event.Paste n dx dy parent prefix) other = by_client queues n _ (λ c there. with_any queues _ c.clip _ tt (λ clip. pasted n _))
    goes trace (event.Handle k) other = handled trace k
    goes trace (event.Send k) other = absurd (other k refl)
    goes trace (event.Deliver n) other = delivered trace n
    goes trace (event.Cut n) other = by_client queues n _ (λ c there. with_any queues _ (session_of c.connection) _ tt (λ k. stay _ refl))
    goes trace (event.Lose k) other = in_session (Go queues) k w _ (λ s channel there at. set_stays queues (record w { room = _ }) k channel (record channel { to_room = [] }) at refl (stay (record w { room = _ }) refl))
    goes trace (event.Show n) other = by_client queues n _ (λ c there. stay w refl)
    goes trace event.End other = stay w refl

-- in a world that can be reached

map_added : {X Y : Type 0} (f : X → Y) (xs : List X) (x : X) → map f (xs ++ x ∷ []) ≡ map f xs ++ f x ∷ []
map_added f [] x = refl
map_added f (y ∷ xs) x = ap (λ rest. f y ∷ rest) (map_added f xs x)

module _ {F : Type 0} (schemas : WorldSchemas F) (w : World) (queues : Queues) (reached : ReachableWorld schemas w) (h : AreQueues schemas w queues) where
  -- who has a session with a channel had it before
  had : (v : World) → IsLater w v → (n k : ℕ) (d : Client) (before : Channel) → slice_get v.clients n ≡ Some d → session_of d.connection ≡ Some k → slice_get w.channels k ≡ Some before → IsCurrent w n k
  had v later n k d before at has there =
      let within = slice_get_within w.channels k before there in
      let as_many = (sessions_stand schemas w reached).channels in
      later.current n k (omega arith) (record { client = d; made = at; has = has })

  -- what happened to a channel leaves its queue with what the notices tell
  told_on : (trace : Bool) (e : Event) (made : Stepped) (now : Queues) → after_event schemas trace w e ≡ Ok made → Go w queues h.long now made.world → AreQueues schemas made.world now
  told_on trace e made now is go = record {
    long = go.as_long;
    told_are = λ n k d channel at has there.
        let v = made.world in
        let later = event_later schemas w trace e made reached is in
        elim (go.each k channel there) as (λ x. queue_at k now ≡ map (told schemas v.room d k) channel.to_client) [
          | nothing before open_at same queue ↦
              let was = had v later n k d before at has open_at in
              queue ∙ h.told_are n k was.client before was.made was.has open_at ∙ ap (map (told schemas w.room was.client k)) (sym same)
              ∙ sym (told_stays schemas trace w e made n k was.client d before channel [] channel.to_client [] reached is was.made was.has open_at (sym same) at has there (sym (append-nil channel.to_client)))
          | given before notice open_at first queue ↦
              let was = had v later n k d before at has open_at in
              queue ∙ ap (drop 1) (h.told_are n k was.client before was.made was.has open_at ∙ ap (map (told schemas w.room was.client k)) first)
              ∙ sym (told_stays schemas trace w e made n k was.client d before channel (notice ∷ []) channel.to_client [] reached is was.made was.has open_at first at has there (sym (append-nil channel.to_client)))
          | entered none queue ↦ queue ∙ ap (map (told schemas v.room d k)) (sym none)
        ];
  }

  -- what the room gives out joins a queue
  module _ (trace : Bool) (k : ℕ) (channel : Channel) (given_now : Given) (there : slice_get w.channels k ≡ Some channel) (next : next_for schemas.room w.room k ≡ Some given_now)
      (made : Stepped) (is : after_event schemas trace w (event.Send k) ≡ Ok made) where
    abbrev sent : World
    sent = with_channel k (record channel { to_client = channel.to_client ++ given_now.notice ∷ [] }) (record w { room = after_drain w.room k given_now })

    given_out : made.world ≡ sent → AreQueues schemas sent (with_out k given_now.out queues)
    given_out same =
        let more = queue_at k queues ++ given_now.out ∷ [] in
        let after : Channel = record channel { to_client = channel.to_client ++ given_now.notice ∷ [] } in
        record {
          long = long-set queues k more ∙ h.long ∙ sym (long-set w.channels k after);
          told_are = λ n j d other at has is_there.
              let stays : (before : Channel) (later : List Notice) → slice_get w.channels j ≡ Some before → other.to_client ≡ before.to_client ++ later
              → map (told schemas sent.room d j) before.to_client ≡ map (told schemas w.room d j) before.to_client =
              λ before later found parts.
              subst (λ v. slice_get v.clients n ≡ Some d → slice_get v.channels j ≡ Some other → map (told schemas v.room d j) before.to_client ≡ map (told schemas w.room d j) before.to_client) same
              (λ now_at now_there. told_stays schemas trace w (event.Send k) made n j d d before other [] before.to_client later reached is at has found refl now_at has now_there parts) at is_there in
              elim (got_split w.channels k j after other is_there) [
                | inl it ↦
                    let found : slice_get w.channels j ≡ Some channel = ap (slice_get w.channels) it.0 ∙ there in
                    let within = slice_get_within w.channels k channel there in
                    let parts : other.to_client ≡ channel.to_client ++ given_now.notice ∷ [] = ap (λ (x : Channel). x.to_client) it.1 in
                    let out = sent_told schemas w n k d channel given_now reached at (has ∙ ap Some it.0) there next in
                    let both = get_or-set_same queues k more [] (let a = h.long in omega arith) in
                    let queue : queue_at j (with_out k given_now.out queues) ≡ queue_at j queues ++ given_now.out ∷ [] =
                    ap (λ i. queue_at i (with_out k given_now.out queues)) it.0 ∙ both ∙ ap (λ i. queue_at i queues ++ given_now.out ∷ []) (sym it.0) in
                    queue
                    ∙ ap (λ q. q ++ given_now.out ∷ []) (h.told_are n j d channel at has found ∙ sym (stays channel (given_now.notice ∷ []) found parts))
                    ∙ ap (λ o. map (told schemas sent.room d j) channel.to_client ++ o ∷ []) (out ∙ ap (λ i. told schemas sent.room d i given_now.notice) (sym it.0))
                    ∙ sym (map_added (told schemas sent.room d j) channel.to_client given_now.notice)
                    ∙ ap (map (told schemas sent.room d j)) (sym parts)
                | inr away ↦
                    get_or-set_other queues k j more [] away.0
                    ∙ h.told_are n j d other at has away.1
                    ∙ sym (stays other [] away.1 (sym (append-nil other.to_client)))
              ];
        }

  sends_on : (trace : Bool) (k : ℕ) (made : Stepped) → after_event schemas trace w (event.Send k) ≡ Ok made → AreQueues schemas made.world (queues_after schemas w queues (event.Send k))
  sends_on trace k made is =
      let now = queues_after schemas w queues (event.Send k) in
      let P : World → Type 0 = λ v. made.world ≡ v → AreQueues schemas v now in
      subst (Holds P) is (in_session P k w _ (λ s channel here there. from_option P _ (next_for schemas.room w.room k) _ (λ none. tt) (λ given_now next same.
      subst (AreQueues schemas _) (sym (ap (λ o. option_map_or (λ (g : Given). with_out k g.out queues) o queues) next)) (given_out trace k channel given_now there next made is same)))) refl

  pub queues_go_on : (trace : Bool) (e : Event) (made : Stepped) → after_event schemas trace w e ≡ Ok made → AreQueues schemas made.world (queues_after schemas w queues e)
  queues_go_on trace e made is = elim e as (λ e. after_event schemas trace w e ≡ Ok made → AreQueues schemas made.world (queues_after schemas w queues e)) [
    | event.Send k ↦ λ is. sends_on trace k made is
    | other ↦ λ is. told_on trace other made _ is (subst (Holds (Go w queues h.long _)) is (goes w queues h.long schemas trace other (λ k no. absurd (cc))))
  ] is

pub queues_begin : {F : Type 0} (schemas : WorldSchemas F) (room : Room) → AreQueues schemas (world_over room) []
queues_begin schemas room = record { long = refl; told_are = λ n k c channel at. absurd (cc) }
