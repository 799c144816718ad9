-- What the commits of a client's current session say: at an older schema nothing was accepted.
use Rattle.std.proofs.Common.{◌≡◌, inl, inr, ℕ, true, [], ◌∷◌, length, slice_get, Some, None, Ok, refl, sym, ap, subst, ◌∙◌}
use Rattle.std.proofs.lemmas.Option.{same_Some}
use Rattle.std.proofs.lemmas.Bool.Decides.{Decides-eqb}
use Rattle.room_model.specs.Schemas.{WorldSchemas, AreLawfulTogether, Plan}
use Rattle.room_model.specs.Histories.{History, records_of, is_author}
use Rattle.room_model.specs.Accepting.{Push, is_taken}
use Rattle.room_model.specs.Acting.{document_ops, IsCommitOf, AllCommit}
use Rattle.room_model.specs.Rooms.{live, Session, Room, Replied, after_message}
use Rattle.room_model.specs.Replicas.{Client, new_client, session_of, Pushing, after_notice, plan_of}
use Rattle.room_model.specs.Worlds.{Channel, World, with_client, with_channel, with_pushing}
use Rattle.room_model.specs.declared.connection.Connection.TheVariants.{Asking}
use Rattle.room_model.specs.declared.history.Author.{Author}
use Rattle.room_model.proofs.AcceptLemmas.{is_commit}
use Rattle.room_model.proofs.ActingLemmas.{differ}
use Rattle.room_model.proofs.CallLemmas.{got-added, member_of, pushed_by}
use Rattle.room_model.proofs.EntryLemmas.{reachable_names}
use Rattle.sync_msgs.specs.declared.client_message.ClientMessage.{ClientMessage}
use Rattle.sync_msgs.specs.declared.data_event.Action.TheVariants.{Commit, Discard, Rebase}
use Rattle.world_laws.specs.Reachable.{ReachableWorld}
use Rattle.world_laws.specs.Pending.{NoneBy}
use Rattle.world_laws.specs.Requests.{IsHeard}
use Rattle.world_laws.proofs.EventLemmas.{Acts, rests, works, Keeps, everywhere}
use Rattle.world_laws.proofs.PushLemmas.{got_split, work_same, pushing_keeps}
use Rattle.world_laws.proofs.SessionLemmas.{IsLess, act_less, notice_less}
use Rattle.world_laws.proofs.DiffLemmas.{room_reached}
use Rattle.world_laws.proofs.TurnLemmas.{leave_turns, message_turns}
use Rattle.world_laws.proofs.RequestLemmas.{heard_stand}
use Rattle.world_laws.proofs.CommitLemmas.{commit_part}
use Rattle.world_laws.proofs.WaitingLemmas.{none_next}
use Rattle.world_laws.proofs.LaterLemmas.{notice_version}

module _ {F : Type 0} (schemas : WorldSchemas F) where
  none_commit : (k : ℕ) (plan : Plan) (history : History) → NoneBy k history → AllCommit schemas.room k plan history
  none_commit k plan [] h = tt
  none_commit k plan (entry ∷ history) h = (
    λ author by is. absurd (differ (sym (ap (is_author k) by ∙ (Decides-eqb author.session k).1 is) ∙ h.0)),
    none_commit k plan history h.1,
  )

  -- what the commits of a client's session say
  abbrev pub AreCommitted : World → Type 0
  AreCommitted world =
      (n k : ℕ) (c : Client) (plan : Plan) → slice_get world.clients n ≡ Some c → session_of c.connection ≡ Some k → plan_of schemas c ≡ Ok plan
      → AllCommit schemas.room k plan world.room.history

  -- a client set of the same version, whose session is what it was or none
  committed_client : (w : World) (n : ℕ) (c d : Client) → slice_get w.clients n ≡ Some c → d.version ≡ c.version → IsLess c d → AreCommitted w → AreCommitted (with_client n d w)
  committed_client w n c d at version less h m k e plan client has planned = elim (got_split w.clients n m d e client) [
    | inl same ↦
        let whose : e.version ≡ c.version = ap (λ (x : Client). x.version) same.1 ∙ version in
        h n k c plan at (less k (sym (ap (λ (x : Client). session_of x.connection) same.1) ∙ has)) (ap (λ v. schemas.room.plan_for (schemas.client v).versions) (sym whose) ∙ planned)
    | inr other ↦ h m k e plan other.1 has planned
  ]

  committed_pushing : (w : World) (n : ℕ) (p : Pushing) → AreCommitted (with_client n p.client w) → AreCommitted (with_pushing n p w)
  committed_pushing w n p alone = pushing_keeps AreCommitted w n p alone (λ k channel is there. alone)

  act_version : (c : Client) (p : Pushing) → Acts schemas c p → p.client.version ≡ c.version
  act_version c _ (rests d q) = q.version
  act_version c _ (works d work q place rising) = (work_same d work).version ∙ q.version

  module _ (lawful : AreLawfulTogether schemas) where
    -- the entry of a push says what it is to say
    entry_commits : (room : Room) (k : ℕ) (s : Session) (plan : Plan) (push : Push) → is_taken schemas.room (member_of k s plan) push ≡ true
        → (author : Author) → (pushed_by schemas.room room k s plan push).author ≡ Some author → IsCommitOf plan (document_ops schemas.room (pushed_by schemas.room room k s plan push).diff) author.action
    entry_commits room k s [] push taken author by = tt
    entry_commits room k s (place ∷ plan) push taken author by =
        let member = member_of k s (place ∷ plan) in
        let m = records_of room.history in
        let entry = pushed_by schemas.room room k s (place ∷ plan) push in
        let same = ap (λ (a : Author). a.action) (same_Some _ _ by) in
        elim author.action as (λ action. author.action ≡ action → IsCommitOf (place ∷ plan) (document_ops schemas.room entry.diff) action) [
          | Commit ↦ λ is. commit_part schemas.room lawful.room room k s (place ∷ plan) push taken (same ∙ is) ∙ elim (is_commit schemas.room member m push.diff (same ∙ is)) [
            | inl none ↦ none
            | inr all ↦ absurd (let no = all.1 in cc)
          ]
          | Discard ↦ λ is. tt
          | Rebase diff ↦ λ is. tt
        ] refl

    -- a message in a room, for the session of some client
    committed_handled : (w : World) (k : ℕ) (channel : Channel) (said : ClientMessage) (replied : Replied) → ReachableWorld schemas w
        → slice_get w.channels k ≡ Some channel → after_message schemas.room w.room k said ≡ Some replied → AreCommitted w
        → (n j : ℕ) (c : Client) (plan : Plan) → slice_get w.clients n ≡ Some c → session_of c.connection ≡ Some j → plan_of schemas c ≡ Ok plan
        → AllCommit schemas.room j plan replied.room.history
    committed_handled w k channel said replied made there is h n j c plan at has planned =
        message_turns (λ r. AllCommit schemas.room j plan r.history) k (λ r n s phase from who here over g. g) (λ r n is g. (λ author by. absurd (cc), g)) schemas.room w.room k refl said
        (λ s request reached protocol versions p from says is ok g. g)
        (λ s count from says g. g)
        (λ s sent p push from says is taken g. (
          λ author by mine.
              let k_is : k ≡ j = ap (λ (a : Author). a.session) (same_Some _ _ by) ∙ mine in
              let heard = heard_stand schemas w made n j c s channel at has (ap (slice_get w.room.sessions) (sym k_is) ∙ from) (ap (slice_get w.channels) (sym k_is) ∙ there) in
              let lives : IsHeard schemas c j (live sent p) channel.to_room = subst (λ q. IsHeard schemas c j q channel.to_room) is heard in
              let both : Ok plan ≡ Ok p = sym planned ∙ lives.1 in
              let same : p ≡ plan = cc in
              subst (λ q. IsCommitOf q (document_ops schemas.room (pushed_by schemas.room w.room k s p push).diff) author.action) same (entry_commits w.room k s p push taken author by),
          g,
        )) replied is (h n j c plan at has planned)

    committed_keep : Keeps schemas AreCommitted
    committed_keep = record {
      joins = λ w version made h n k c plan client has planned. elim (got-added w.clients n (new_client version) c client) [
        | inl same ↦ absurd (let none : None ≡ Some k = sym (ap (λ (x : Client). session_of x.connection) same) ∙ has in cc)
        | inr before ↦ h n k c plan before has planned
      ];
      rests = λ w n c d made at q h. committed_client w n c d at q.version (λ k is. sym (ap session_of q.connection) ∙ is) h;
      cuts = λ w n k c made at is h. committed_client w n c _ at refl (λ j on. absurd (cc)) h;
      acts = λ w n c p made at acts h. committed_pushing w n p (committed_client w n c p.client at (act_version c p acts) (act_less schemas c p acts) h);
      asks = λ w n readonly c made at off place h m k e plan client has planned.
          let next = length w.room.sessions in
          elim (got_split w.clients n m (record c { connection = Asking next }) e client) [
            | inl same ↦
                let it : Some next ≡ Some k = sym (ap (λ (x : Client). session_of x.connection) same.1) ∙ has in
                none_commit k plan w.room.history (subst (λ j. NoneBy j w.room.history) (same_Some _ _ it)
                (none_next schemas lawful w.room.sessions w.room.history (reachable_names schemas.room lawful.room w.room (room_reached schemas lawful w made))))
            | inr other ↦ h m k e plan other.1 has planned
          ];
      loses = λ w k channel room made at is h n j c plan client has planned.
          leave_turns (λ r. AllCommit schemas.room j plan r.history) k (λ r n s phase from who here over g. g) (λ r n is g. (λ author by. absurd (cc), g)) w.room room k refl is (λ s from over g. g)
          (h n j c plan client has planned);
      handles = λ w k channel said messages replied made at first is h. committed_handled w k channel said replied made at is h;
      sends = λ w k channel given made at is h. h;
      delivers = λ w n k c channel notice notices made at is there first h.
          let v = with_channel k (record channel { to_client = notices }) w in
          let p = after_notice w.room.history k c notice in
          committed_pushing v n p (committed_client v n c p.client at (notice_version w.room.history k c notice) (notice_less w.room.history k c notice is) h);
    }

    pub committed_stand : (w : World) → ReachableWorld schemas w → AreCommitted w
    committed_stand w made = everywhere schemas AreCommitted committed_keep (λ room reached none n k c plan at. absurd (cc)) w made
