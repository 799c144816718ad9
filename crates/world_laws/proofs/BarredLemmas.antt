-- Clients that the room wouldn't have.
use Rattle.std.proofs.Common.{◌≡◌, ◌⊎◌, inl, inr, ℕ, Bool, false, List, [], ◌∷◌, ◌++◌, length, slice_get, Some, None, refl, sym, ap, subst, ◌∙◌, arith}
use Rattle.room_model.specs.Schemas.{WorldSchemas}
use Rattle.room_model.specs.Histories.{History}
use Rattle.room_model.specs.Rooms.{asked, live, Session, Room, Notice, snapshot_at, updates_between, pong, end}
use Rattle.room_model.specs.Replicas.{Client, new_client, is_open, session_of, Pushing, after_cut, after_end, after_notice}
use Rattle.room_model.specs.Worlds.{Channel, World, with_client, with_channel, with_pushing, ask}
use Rattle.room_model.specs.declared.connection.Connection.TheVariants.{Asking}
use Rattle.room_model.proofs.CallLemmas.{got-added}
use Rattle.sync_msgs.specs.declared.end_reason.EndReason.{EndReason}
use Rattle.sync_msgs.specs.declared.end_reason.EndReason.TheVariants.{ClientTooOld, ServerTooOld, InvalidRecord, RoomFull, Slow}
use Rattle.world_laws.specs.Reachable.{ReachableWorld}
use Rattle.world_laws.specs.Sessions.{AreSessions}
use Rattle.world_laws.specs.Requests.{HasNoData, IsFit, IsHeard, HasReachedFit, AreBarred}
use Rattle.world_laws.proofs.EventLemmas.{Acts, rests, works, Keeps, everywhere}
use Rattle.world_laws.proofs.PushLemmas.{each_set, each_added, got_split, got_old, got_new, snapshot_same, work_same, pushing_keeps}
use Rattle.world_laws.proofs.RoomLemmas.{Gives, tells_end, answers, pongs, tells, drain_gives}
use Rattle.world_laws.proofs.SessionLemmas.{sessions_stand, IsLess, notice_less, act_less}
use Rattle.world_laws.proofs.RequestLemmas.{heard_stand}
use Rattle.world_laws.proofs.LaterLemmas.{notice_version}

end_data : (notices : List Notice) (reason : EndReason) → HasNoData notices → HasNoData (notices ++ end reason ∷ [])
end_data [] reason h = tt
end_data (snapshot_at clock ∷ notices) reason h = absurd h
end_data (updates_between from to ∷ notices) reason h = absurd h
end_data (pong ∷ notices) reason h = end_data notices reason h
end_data (end r ∷ notices) reason h = end_data notices reason h

pong_data : (notices : List Notice) → HasNoData notices → HasNoData (notices ++ pong ∷ [])
pong_data [] h = tt
pong_data (snapshot_at clock ∷ notices) h = absurd h
pong_data (updates_between from to ∷ notices) h = absurd h
pong_data (pong ∷ notices) h = pong_data notices h
pong_data (end r ∷ notices) h = pong_data notices h

data_later : (notice : Notice) (notices : List Notice) → HasNoData (notice ∷ notices) → HasNoData notices
data_later (snapshot_at clock) notices h = absurd h
data_later (updates_between from to) notices h = absurd h
data_later pong notices h = h
data_later (end r) notices h = h

module _ {F : Type 0} (schemas : WorldSchemas F) where
  -- what may be in flight to a client
  abbrev IsTold : Client → List Notice → Type 0
  IsTold c notices = IsFit schemas c ⊎ HasNoData notices

  fit_later : (c d : Client) → d.version ≡ c.version → IsFit schemas c → IsFit schemas d
  fit_later c d version h = (h.0, ap (λ v. schemas.room.plan_for (schemas.client v).versions) version ∙ h.1)

  told_later : (c d : Client) (notices : List Notice) → d.version ≡ c.version → IsTold c notices → IsTold d notices
  told_later c d notices version h = elim h [ inl fit ↦ inl (fit_later c d version fit) | inr none ↦ inr none ]

  reached_same : (c d : Client) → d.version ≡ c.version → d.connection ≡ c.connection → d.reached ≡ c.reached → HasReachedFit schemas c → HasReachedFit schemas d
  reached_same c d version connection reached h = elim h [
    | inl fit ↦ inl (fit_later c d version fit)
    | inr none ↦ inr (reached ∙ none.0, ap is_open connection ∙ none.1)
  ]

  reached_off : (c d : Client) → d.version ≡ c.version → d.reached ≡ c.reached → is_open d.connection ≡ false → HasReachedFit schemas c → HasReachedFit schemas d
  reached_off c d version reached off h = elim h [ inl fit ↦ inl (fit_later c d version fit) | inr none ↦ inr (reached ∙ none.0, off) ]

  end_fit : (reason : EndReason) (c : Client) → HasReachedFit schemas c → HasReachedFit schemas (after_end reason c)
  end_fit Slow c h = reached_off c (after_end Slow c) refl refl refl h
  end_fit ClientTooOld c h = reached_off c (after_end ClientTooOld c) refl refl refl h
  end_fit ServerTooOld c h = reached_off c (after_end ServerTooOld c) refl refl refl h
  end_fit InvalidRecord c h = reached_off c (after_end InvalidRecord c) refl refl refl h
  end_fit RoomFull c h = reached_off c (after_end RoomFull c) refl refl refl h

  told_fit : (c : Client) (notices : List Notice) → (HasNoData notices → ⊥) → IsTold c notices → IsFit schemas c
  told_fit c notices some h = elim h [ inl fit ↦ fit | inr none ↦ absurd (some none) ]

  notice_fit : (history : History) (k : ℕ) (c : Client) (notice : Notice) (notices : List Notice) → HasReachedFit schemas c → IsTold c (notice ∷ notices)
      → HasReachedFit schemas (after_notice history k c notice).client
  notice_fit history k c (snapshot_at clock) notices h told = inl (fit_later c (after_notice history k c (snapshot_at clock)).client (snapshot_same k clock c).version (told_fit c (snapshot_at clock ∷ notices) (λ no. no) told))
  notice_fit history k c (updates_between from to) notices h told = inl (fit_later c (after_notice history k c (updates_between from to)).client refl (told_fit c (updates_between from to ∷ notices) (λ no. no) told))
  notice_fit history k c pong notices h told = h
  notice_fit history k c (end reason) notices h told = end_fit reason c h

  given_told : (room : Room) (n : ℕ) (s : Session) (notice : Notice) (after : Session) (c : Client) (k : ℕ) (ms : _) (notices : List Notice) → Gives room n s notice after
      → IsHeard schemas c k s.phase ms → IsTold c notices → IsTold c (notices ++ notice ∷ [])
  given_told room n s _ _ c k ms notices (tells_end reason is) heard h = elim h [ inl fit ↦ inl fit | inr none ↦ inr (end_data notices reason none) ]
  given_told room n s _ _ c k ms notices (answers request reached plan is) heard h =
      let e : IsHeard schemas c k (asked request reached plan) ms = subst (λ p. IsHeard schemas c k p ms) is heard in inl (plan, e.4)
  given_told room n s _ _ c k ms notices (pongs some) heard h = elim h [ inl fit ↦ inl fit | inr none ↦ inr (pong_data notices none) ]
  given_told room n s _ _ c k ms notices (tells sent plan is less) heard h =
      let e : IsHeard schemas c k (live sent plan) ms = subst (λ p. IsHeard schemas c k p ms) is heard in inl (plan, e.1)

  act_fit : (c : Client) (p : Pushing) → Acts schemas c p → (p.client.version ≡ c.version) × (p.client.connection ≡ c.connection) × (p.client.reached ≡ c.reached)
  act_fit c _ (rests d q) = (q.version, q.connection, q.reached)
  act_fit c _ (works d work q place rising) = let same = work_same d work in (same.version ∙ q.version, same.connection ∙ q.connection, same.reached ∙ q.reached)

  -- all channels of a world

  abbrev AreTold : World → Type 0
  AreTold w =
      (n k : ℕ) (c : Client) (ch : Channel) → slice_get w.clients n ≡ Some c → session_of c.connection ≡ Some k → slice_get w.channels k ≡ Some ch → IsTold c ch.to_client

  told_channel : (w : World) (n : ℕ) (before after : Channel) → slice_get w.channels n ≡ Some before → after.to_client ≡ before.to_client → AreTold w → AreTold (with_channel n after w)
  told_channel w n before after at same h m k c ch client has channel = elim (got_split w.channels n k after ch channel) [
    | inl it ↦ subst (IsTold c) (sym (ap (λ (x : Channel). x.to_client) it.1 ∙ same)) (h m k c before client has (ap (slice_get w.channels) it.0 ∙ at))
    | inr other ↦ h m k c ch client has other.1
  ]

  told_client : (w : World) (n : ℕ) (c d : Client) → slice_get w.clients n ≡ Some c → d.version ≡ c.version → IsLess c d → AreTold w → AreTold (with_client n d w)
  told_client w n c d at version less h m k e ch client has channel = elim (got_split w.clients n m d e client) [
    | inl same ↦
        let is : session_of d.connection ≡ Some k = sym (ap (λ (x : Client). session_of x.connection) same.1) ∙ has in
        subst (λ (x : Client). IsTold x ch.to_client) (sym same.1) (told_later c d ch.to_client version (h n k c ch at (less k is) channel))
    | inr other ↦ h m k e ch other.1 has channel
  ]

  barred_pushing : (w : World) (n : ℕ) (p : Pushing) → AreBarred schemas (with_client n p.client w) → AreBarred schemas (with_pushing n p w)
  barred_pushing w n p alone = pushing_keeps (AreBarred schemas) w n p alone (λ k channel is at. record {
    reached = alone.reached;
    told = told_channel (with_client n p.client w) k channel _ at refl alone.told;
  })

  told_given : (w : World) (n : ℕ) (s : Session) (channel : Channel) (notice : Notice) (after : Session) → ReachableWorld schemas w → slice_get w.room.sessions n ≡ Some s
      → slice_get w.channels n ≡ Some channel → Gives w.room n s notice after → AreTold w → AreTold (with_channel n (record channel { to_client = channel.to_client ++ notice ∷ [] }) w)
  told_given w n s channel notice after made at there gives h m k c ch client has to =
      elim (got_split w.channels n k (record channel { to_client = channel.to_client ++ notice ∷ [] }) ch to) [
        | inl it ↦
            let here = ap (slice_get w.channels) it.0 ∙ there in
            let heard = heard_stand schemas w made m k c s channel client has (ap (slice_get w.room.sessions) it.0 ∙ at) here in
            subst (λ (x : Channel). IsTold c x.to_client) (sym it.1) (given_told w.room n s notice after c k channel.to_room channel.to_client gives heard (h m k c channel client has here))
        | inr other ↦ h m k c ch client has other.1
      ]

  told_tail : (w : World) (n : ℕ) (channel : Channel) (notice : Notice) (notices : List Notice) → slice_get w.channels n ≡ Some channel → channel.to_client ≡ notice ∷ notices
      → AreTold w → AreTold (with_channel n (record channel { to_client = notices }) w)
  told_tail w n channel notice notices there first h m k c ch client has to = elim (got_split w.channels n k (record channel { to_client = notices }) ch to) [
    | inl it ↦
        let before : IsTold c (notice ∷ notices) = subst (IsTold c) first (h m k c channel client has (ap (slice_get w.channels) it.0 ∙ there)) in
        subst (λ (x : Channel). IsTold c x.to_client) (sym it.1) (elim before [ inl fit ↦ inl fit | inr none ↦ inr (data_later notice notices none) ])
    | inr other ↦ h m k c ch client has other.1
  ]

  told_asks : (w : World) (n : ℕ) (readonly : Bool) (c : Client) → AreSessions w → AreTold w → AreTold (ask schemas n readonly w c)
  told_asks w n readonly c stands h m k e ch client has channel =
      let next = length w.room.sessions in
      let long = stands.channels in
      elim (got_split w.clients n m (record c { connection = Asking next }) e client) [
        | inl same ↦
            let now : Some next ≡ Some k = sym (ap (λ (x : Client). session_of x.connection) same.1) ∙ has in
            let it : next ≡ k = cc in
            let only = got_new w.channels k _ ch (omega arith) channel in
            subst (λ (x : Channel). IsTold e x.to_client) (sym only) (inr tt)
        | inr other ↦
            let less = stands.entered m k (record { client = e; made = other.1; has = has }) in
            h m k e ch other.1 has (got_old w.channels k _ ch (omega arith) channel)
      ]

  barred_keep : Keeps schemas (AreBarred schemas)
  barred_keep = record {
    joins = λ w version made h. record {
      reached = each_added (HasReachedFit schemas) w.clients _ h.reached (inr (refl, refl));
      told = λ m k c ch client has channel. elim (got-added w.clients m (new_client version) c client) [
        | inl same ↦ absurd (let none : None ≡ Some k = sym (ap (λ (x : Client). session_of x.connection) same) ∙ has in cc)
        | inr before ↦ h.told m k c ch before has channel
      ];
    };
    rests = λ w n c d made at q h. record {
      reached = each_set (HasReachedFit schemas) w.clients n d h.reached (reached_same c d q.version q.connection q.reached (h.reached n c at));
      told = told_client w n c d at q.version (λ k is. sym (ap session_of q.connection) ∙ is) h.told;
    };
    cuts = λ w n k c made at is h. record {
      reached = each_set (HasReachedFit schemas) w.clients n (after_cut c) h.reached (reached_off c (after_cut c) refl refl refl (h.reached n c at));
      told = told_client w n c (after_cut c) at refl (λ j none. absurd (cc)) h.told;
    };
    acts = λ w n c p made at acts h.
        let same = act_fit c p acts in
        barred_pushing w n p (record {
          reached = each_set (HasReachedFit schemas) w.clients n p.client h.reached (reached_same c p.client same.0 same.1 same.2 (h.reached n c at));
          told = told_client w n c p.client at same.0 (act_less schemas c p acts) h.told;
        });
    asks = λ w n readonly c made at off place h. record {
      reached = each_set (HasReachedFit schemas) w.clients n _ h.reached (reached_off c (record c { connection = Asking (length w.room.sessions) }) refl refl refl (h.reached n c at));
      told = told_asks w n readonly c (sessions_stand schemas w made) h.told;
    };
    loses = λ w k channel room made at is h. record { reached = h.reached; told = told_channel w k channel (record channel { to_room = [] }) at refl h.told };
    handles = λ w k channel said messages replied made at first is h.
        record { reached = h.reached; told = told_channel w k channel (record channel { to_room = messages }) at refl h.told };
    sends = λ w k channel given made at is h.
        let on = drain_gives schemas.room w.room k given is in
        record { reached = h.reached; told = told_given w k on.0 channel given.notice given.after made on.1.at at on.2 h.told };
    delivers = λ w n k c channel notice notices made at is there first h.
        let v = with_channel k (record channel { to_client = notices }) w in
        let after = after_notice w.room.history k c notice in
        let told : IsTold c (notice ∷ notices) = subst (IsTold c) first (h.told n k c channel at is there) in
        barred_pushing v n after (record {
          reached = each_set (HasReachedFit schemas) w.clients n after.client h.reached (notice_fit w.room.history k c notice notices (h.reached n c at) told);
          told = told_client v n c after.client at (notice_version w.room.history k c notice) (notice_less w.room.history k c notice is) (told_tail w k channel notice notices there first h.told);
        });
  }

  pub barred_stand : (w : World) → ReachableWorld schemas w → AreBarred schemas w
  barred_stand w made = everywhere schemas (AreBarred schemas) barred_keep (λ room reached none. record { reached = λ n c at. absurd (cc); told = λ m k c ch client has channel. absurd (cc) }) w made
