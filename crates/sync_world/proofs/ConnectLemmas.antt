-- A client of a world asks to be connected.
use Rattle.std.proofs.Common.{◌≡◌, ℕ, zero, suc, ◌<◌, ◌++◌, nat_le, Bool, true, false, ◌||◌, List, [], ◌∷◌, length, map, get_or, slice_get, slice_set, Option, Some, None, Ok, Err, Result, refl, sym, ap, subst, ◌∙◌}
use Rattle.std.specs.Prelude.{vec_len, filter_map, option_map}
use Rattle.std.specs.Global.{Vec}
use Rattle.std.specs.Option.{option_map_or}
use Rattle.migrate_seq.specs.Versions.{Versions}
use Rattle.room_model.specs.Schemas.{WorldSchemas, records_with}
use Rattle.room_model.specs.Histories.{History}
use Rattle.room_model.specs.Rooms.{Room, is_full}
use Rattle.room_model.specs.Replicas.{Pending, edit, presence, Client, session_of, is_open, diff_in, all_unsent, after_cut, schema_of, base_of}
use Rattle.room_model.specs.Worlds as model
use Rattle.room_model.specs.Worlds.{Channel, Outcome, ask, is_at_limit, on_connect}
use Rattle.room_model.specs.declared.connection.Connection.{Connection}
use Rattle.room_model.specs.declared.connection.Connection.TheVariants.{Off, Asking, Open}
use Rattle.room_model.specs.declared.event.Event.TheVariants as event
use Rattle.room_model.specs.declared.fault.ConnectFault.{ConnectFault}
use Rattle.room_model.specs.declared.fault.ConnectFault.TheVariants.{AlreadyOpen, Refused}
use Rattle.room_model.specs.declared.fault.StepFault.TheVariants.{Connect, Limit}
use Rattle.room_model.specs.declared.limits.TheConstants.{MOST_RECORDED}
use Rattle.room_model.specs.declared.line.OutLine.{OutLine}
use Rattle.side_effects.specs.declared.fault.EditFault.{EditFault}
use Rattle.sync_msgs.specs.declared.client_message.ClientMessage.{ClientMessage}
use Rattle.sync_msgs.specs.declared.end_reason.EndReason.{EndReason}
use Rattle.sync_client.specs.Calls.{ClientState, asking, asks, connect_answer}
use Rattle.sync_room.specs.Standing as room_of
use Rattle.sync_peer.specs.Standing as peer_of
use Rattle.sync_peer.specs.declared.peer.Peer.{Peer}
use Rattle.clip_content.specs.View.{clip_tree}
use Rattle.world_laws.specs.Pending.{IsIdleWork, AreIdle}
use Rattle.world_laws.specs.Told.{base_by, replica_of}
use Rattle.world_laws.proofs.LaterLemmas.{got_at}
use Rattle.world_laws.proofs.SessionLemmas.{sessions_stand}
use Rattle.world_laws.proofs.WaitingLemmas.{waiting_stand}
use Rattle.world_queues.specs.Queues.{to_room, to_client}
use Rattle.sync_world.specs.Sending.{sent_by}
use Rattle.sync_world.specs.States.{client_state}
use Rattle.sync_world.specs.Keeping.{AreKept}
use Rattle.sync_world.specs.Moving.{Enters}
use Rattle.sync_world.specs.Standing.{IsClient, Keeps}
use Rattle.sync_world.specs.Answers.{Answers}
use Rattle.sync_world.specs.declared.live.Live.{Live}
use Rattle.sync_world.specs.declared.live.WorldClient.{WorldClient}
use Rattle.sync_world.proofs.ListLemmas.{set_twice}
use Rattle.sync_world.proofs.WorldLemmas.{sent_added}
use Rattle.sync_world.proofs.KeepingLemmas.{kept_set}
use Rattle.sync_world.proofs.OutcomeLemmas.{is_open_already, is_refused, has_no_place, connects}
use Rattle.sync_world.proofs.PartLemmas.{happened, fits_with}
use Rattle.sync_world.proofs.EventLemmas.{IsThere, is_there, document_is, keeps_alike}
use Rattle.sync_world.proofs.EditLemmas.{still_keeps}
use Rattle.peer_schemas.proofs.ClientLemmas.{lawful}

-- who has no session is off
off_is : (x : Connection) → session_of x ≡ None → x ≡ Off
off_is Off is = refl
off_is (Asking k) is = absurd (cc)
off_is (Open k) is = absurd (cc)

-- edits that were not pushed are as a cut leaves them
idle_same : (items : List Pending) → AreIdle items → all_unsent (map edit (filter_map (λ item. diff_in item.work) items)) ≡ items
idle_same [] h = refl
idle_same (item ∷ items) h =
    elim item.work as (λ v. IsIdleWork v → all_unsent (map edit (filter_map (λ item. diff_in item.work) (record item { work = v } ∷ items))) ≡ record item { work = v } ∷ items) [
      | edit diff ↦ λ k i. record item { work = edit diff; sent_as = sym h.0.0 i } ∷ idle_same items h.1 i
      | presence d ↦ λ k. absurd k
    ] h.0.1

-- a client that asked and is cut is as before it asked
cut_same : (k : ℕ) (c : Client) → c.connection ≡ Off → AreIdle c.pending → after_cut (asking k c) ≡ c
cut_same k c off idle = λ i. record c { connection = sym off i; pending = idle_same c.pending idle i }

-- what is read at a place is what stands there
read_is : {X : Type 0} (xs : List X) (n : ℕ) (x y : X) → slice_get xs n ≡ Some y → x ≡ get_or xs n x → x ≡ y
read_is [] n x y at is = absurd (cc)
read_is (z ∷ xs) zero x y at is = let same : z ≡ y = cc in is ∙ same
read_is (z ∷ xs) (suc n) x y at is = read_is xs n x y at is

-- the answer to who connects, by its session and by why the room won't have it
abbrev answer_by : Versions → ℕ → Client → Option ℕ → Option EndReason → Result ClientMessage ConnectFault
answer_by versions k c session refused =
    option_map_or (λ fault. Err fault) (option_map_or (λ session. Some AlreadyOpen) session (option_map (λ reason. Refused reason) refused)) (Ok (asks versions k c))

-- who is answered by its request has no session and isn't refused
allowed : (versions : Versions) (k : ℕ) (c : Client) (said : ClientMessage) → connect_answer versions k c ≡ Ok said
    → (session_of c.connection ≡ None) × ((c.refused ≡ None) × (said ≡ asks versions k c))
allowed versions k c said is =
    elim (session_of c.connection) as (λ o. session_of c.connection ≡ o → answer_by versions k c o c.refused ≡ Ok said
    → (session_of c.connection ≡ None) × ((c.refused ≡ None) × (said ≡ asks versions k c))) [
      | Some s ↦ λ has e. absurd (cc)
      | None ↦ λ off e. elim c.refused as (λ o. c.refused ≡ o → answer_by versions k c None o ≡ Ok said
          → (session_of c.connection ≡ None) × ((c.refused ≡ None) × (said ≡ asks versions k c))) [
            | Some reason ↦ λ why e. absurd (cc)
            | None ↦ λ why e. (off, (why, let same : said ≡ asks versions k c = cc in same))
          ] refl e
    ] refl is

module _ (schemas : WorldSchemas EditFault) (w : model.World) (n : ℕ) (c : Client) (at : slice_get w.clients n ≡ Some c) (readonly : Bool) where
  -- whom its peer refuses the world refuses for the same
  refused_so : (versions : Versions) (k : ℕ) (fault : ConnectFault) → connect_answer versions k c ≡ Err fault → on_connect schemas n readonly w ≡ Err (Connect fault)
  refused_so versions k fault is =
      let so : ConnectFault → Outcome EditFault = λ f. Err (Connect f) in
      elim (session_of c.connection) as (λ o. session_of c.connection ≡ o → answer_by versions k c o c.refused ≡ Err fault → on_connect schemas n readonly w ≡ Err (Connect fault)) [
        | Some s ↦ λ has e. is_open_already schemas w n c at readonly s has ∙ ap so (let same : AlreadyOpen ≡ fault = cc in same)
        | None ↦ λ off e. elim c.refused as (λ o. c.refused ≡ o → answer_by versions k c None o ≡ Err fault → on_connect schemas n readonly w ≡ Err (Connect fault)) [
          | Some reason ↦ λ why e. is_refused schemas w n c at readonly off reason why ∙ ap so (let same : Refused reason ≡ fault = cc in same)
          | None ↦ λ why e. absurd (cc)
        ] refl e
      ] refl is

module _ (schemas : WorldSchemas EditFault) (history : History) (c : Client) (off : c.connection ≡ Off) where
  off_base : (replica_of schemas history c).base ≡ base_of schemas history c
  off_base = ap (base_by schemas history c) off

  -- who asks has the base that it had
  asking_kept : (k : ℕ) (one : WorldClient) (after : Peer) → option_map clip_tree one.clip ≡ c.clip → peer_of.Stands schemas (record (client_state schemas history c) { client = asking k c }) after
      → IsClient schemas history (asking k c) (record one { peer = after; session = Some k })
  asking_kept k one after clip stands = record {
    peer = subst (λ b. peer_of.Stands schemas (record { base = b; client = asking k c }) after) off_base stands;
    session = refl;
    clip = clip;
  }

module _ (schemas : WorldSchemas EditFault) (w : model.World) (live : Live) (keeps : Keeps schemas w live) (at : ℕ) (one : WorldClient) (less : at < vec_len live.clients)
    (is : one ≡ get_or live.clients.items at one) (readonly : Bool) (k : ℕ) (after : Peer) (mid : Live) (room : mid.room ≡ live.room) (queues : mid.queues ≡ live.queues)
    (set : mid.clients.items ≡ slice_set live.clients.items at (record one { peer = after })) where
  it : IsThere schemas w at one
  it = is_there schemas w live at at one keeps.fits refl less is

  pub connect_refused : (fault : ConnectFault)
      → ((schemas : WorldSchemas EditFault) (state : ClientState) → peer_of.Stands schemas state one.peer → connect_answer (schema_of schemas state.client).versions k state.client ≡ Err fault)
      → after ≡ one.peer → Answers schemas w (on_connect schemas at readonly w) (Err (Connect fault)) mid
  connect_refused fault refuses same = (
    refused_so schemas w at it.client it.made readonly (schema_of schemas it.client).versions k fault (refuses schemas (client_state schemas w.room.history it.client) it.kept.peer),
    still_keeps schemas w live keeps at one less is after mid room queues set it.client it.made (record {
      peer = subst (λ p. peer_of.Stands schemas (client_state schemas w.room.history it.client) p) (sym same) it.kept.peer;
      session = it.kept.session;
      clip = it.kept.clip;
    }),
  )

  module _ (number : k ≡ length (to_client live.queues)) (said : ClientMessage)
      (answers : (schemas : WorldSchemas EditFault) (state : ClientState) → peer_of.Stands schemas state one.peer → connect_answer (schema_of schemas state.client).versions k state.client ≡ Ok said)
      (stands : (schemas : WorldSchemas EditFault) (state : ClientState) → peer_of.Stands schemas state one.peer → peer_of.Stands schemas (record state { client = asking k state.client }) after)
      (between : Live) (clients : between.clients ≡ mid.clients) (second : WorldClient) (read : second ≡ get_or between.clients.items at second)
      (new : Live) (new_room : new.room ≡ between.room) (new_queues : new.queues ≡ between.queues) where
    -- the session that would enter is the next of the room
    next : k ≡ length w.room.sessions
    next = number ∙ keeps.given.long ∙ (sessions_stand schemas w keeps.reachable).channels

    may : (session_of it.client.connection ≡ None) × ((it.client.refused ≡ None) × (said ≡ asks (schema_of schemas it.client).versions k it.client))
    may = allowed (schema_of schemas it.client).versions k it.client said (answers schemas (client_state schemas w.room.history it.client) it.kept.peer)

    off : it.client.connection ≡ Off
    off = off_is it.client.connection may.0

    limit_is : is_at_limit w ≡ (is_full w.room || nat_le MOST_RECORDED k)
    limit_is = ap (λ n. is_full w.room || nat_le MOST_RECORDED n) (sym next)

    items : between.clients.items ≡ slice_set live.clients.items at (record one { peer = after })
    items = ap (λ (ks : Vec WorldClient). ks.items) clients ∙ set

    there : slice_get live.clients.items at ≡ Some one → slice_get between.clients.items at ≡ Some (record one { peer = after })
    there was = ap (λ xs. slice_get xs at) items ∙ got_at live.clients.items at one (record one { peer = after }) was

    -- what is set at its place then is set there at once
    set_at : slice_get live.clients.items at ≡ Some one → (f : WorldClient → WorldClient) → new.clients.items ≡ slice_set between.clients.items at (f second)
        → new.clients.items ≡ slice_set live.clients.items at (f (record one { peer = after }))
    set_at was f sets =
        sets ∙ ap (λ s. slice_set between.clients.items at (f s)) (read_is between.clients.items at second (record one { peer = after }) (there was) read)
        ∙ ap (λ xs. slice_set xs at (f (record one { peer = after }))) items ∙ set_twice live.clients.items at (record one { peer = after }) (f (record one { peer = after }))

    pub connect_done : slice_get live.clients.items at ≡ Some one → ((state : Room) → room_of.Stands state live.room → Enters k readonly said state true mid between)
        → new.clients.items ≡ slice_set between.clients.items at (record second { session = Some k }) → (lines : Vec OutLine) → lines.items ≡ []
        → Answers schemas w (on_connect schemas at readonly w) (Ok lines) new
    connect_done was enters sets lines prints =
        let c = it.client in
        let versions = (schema_of schemas c).versions in
        let e = enters w.room keeps.fits.room in
        let v = ask schemas at readonly w c in
        let request = asks versions (length w.room.sessions) c in
        let channel : Channel = record { to_room = request ∷ []; to_client = [] } in
        let kept = subst (λ n. IsClient schemas w.room.history (asking n c) (record one { peer = after; session = Some k })) next
        (asking_kept schemas w.room.history c off k one after it.kept.clip (stands schemas (client_state schemas w.room.history c) it.kept.peer)) in
        let said_is : said ≡ request = may.1.1 ∙ ap (λ n. asks versions n c) next in
        let sent : to_room new.queues ≡ sent_by v.channels =
        ap to_room new_queues ∙ e.1.sent ∙ ap (λ q. to_room q ++ (said ∷ []) ∷ []) queues ∙ ap (λ q. q ++ (said ∷ []) ∷ []) keeps.fits.sent
        ∙ ap (λ s. sent_by w.channels ++ (s ∷ []) ∷ []) said_is ∙ sym (sent_added w.channels channel) in
        happened schemas w v false (event.Connect at readonly) live new [] lines keeps
        (connects schemas w at c it.made readonly may.0 may.1.0 (limit_is ∙ e.0)) prints
        (fits_with schemas w live keeps.fits v new (subst (λ r. room_of.Stands v.room r) (sym new_room) e.1.room)
        (ap room_of.tree_of new_room ∙ e.1.schema ∙ ap room_of.tree_of room)
        (subst (λ ks. AreKept (IsClient schemas w.room.history) v.clients ks) (sym (set_at was (λ s. record s { session = Some k }) sets))
        (kept_set (IsClient schemas w.room.history) w.clients live.clients.items at (asking (length w.room.sessions) c) (record one { peer = after; session = Some k }) keeps.fits.clients kept))
        sent)
        (ap to_client new_queues ∙ e.1.given ∙ ap (λ q. to_client q ++ [] ∷ []) queues)

    pub connect_none : slice_get live.clients.items at ≡ Some one → ((state : Room) → room_of.Stands state live.room → Enters k readonly said state false mid between) → (last : Peer)
        → ((schemas : WorldSchemas EditFault) (state : ClientState) → peer_of.Stands schemas state second.peer
        → peer_of.Stands schemas (record { base = records_with schemas.room.is_document state.base; client = after_cut state.client }) last)
        → new.clients.items ≡ slice_set between.clients.items at (record second { peer = last }) → Answers schemas w (on_connect schemas at readonly w) (Err Limit) new
    connect_none was enters last lost sets =
        let c = it.client in
        let history = w.room.history in
        let e = enters w.room keeps.fits.room in
        let idle = (waiting_stand schemas (lawful schemas keeps.fits.tables) w keeps.reachable).idle at c it.made (ap is_open off) in
        let still : Live = record new { clients = live.clients } in
        let alike = keeps_alike schemas w live keeps still (subst (λ r. room_of.Stands w.room r) (sym new_room) e.1.room) (ap room_of.tree_of new_room ∙ e.1.schema ∙ ap room_of.tree_of room) refl
        (ap to_room new_queues ∙ e.1.sent ∙ ap to_room queues) (ap to_client new_queues ∙ e.1.given ∙ ap to_client queues) in
        let asked = record (client_state schemas history c) { client = asking k c } in
        let same = read_is between.clients.items at second (record one { peer = after }) (there was) read in
        let came = lost schemas asked (subst (λ (s : WorldClient). peer_of.Stands schemas asked s.peer) (sym same) (stands schemas (client_state schemas history c) it.kept.peer)) in
        let based = subst (λ b. peer_of.Stands schemas (record { base = b; client = after_cut (asking k c) }) last)
        (document_is schemas w live keeps at c it.made ∙ sym (off_base schemas history c off)) came in (
          has_no_place schemas w at c it.made readonly may.0 may.1.0 (limit_is ∙ e.0),
          still_keeps schemas w still alike at one less is last new refl refl (set_at was (λ s. record s { peer = last }) sets) c it.made (record {
            peer = subst (λ (d : Client). peer_of.Stands schemas (record { base = (replica_of schemas history c).base; client = d }) last) (cut_same k c off idle) based;
            session = it.kept.session;
            clip = it.kept.clip;
          }),
        )
