-- The sessions of worlds that can be reached.
use Rattle.std.proofs.Common.{◌≡◌, ◌⊎◌, inl, inr, ℕ, suc, ◌≤◌, Bool, List, [], ◌∷◌, ◌++◌, length, slice_get, slice_set, Some, None, refl, sym, ap, subst, ◌∙◌, arith}
use Rattle.room_model.specs.Schemas.{Schemas, WorldSchemas}
use Rattle.room_model.specs.Histories.{History}
use Rattle.room_model.specs.Rooms.{Room, Replied, after_message, after_leave, Notice, snapshot_at, updates_between, pong, end}
use Rattle.room_model.specs.Replicas.{Client, new_client, session_of, Pushing, push_all, with_work, after_cut, after_end, after_notice}
use Rattle.room_model.specs.Worlds.{Channel, World, with_client, with_channel, with_pushing, ask}
use Rattle.room_model.specs.declared.connection.Connection.TheVariants.{Asking}
use Rattle.room_model.proofs.CallLemmas.{got-set, got-added}
use Rattle.sync_msgs.specs.declared.client_message.ClientMessage.{ClientMessage}
use Rattle.sync_msgs.specs.declared.end_reason.EndReason.{EndReason}
use Rattle.sync_msgs.specs.declared.end_reason.EndReason.TheVariants.{ClientTooOld, ServerTooOld, InvalidRecord, RoomFull, Slow}
use Rattle.world_laws.specs.Reachable.{ReachableWorld}
use Rattle.world_laws.specs.Sessions.{IsCurrent, AreSessions}
use Rattle.world_laws.proofs.EventLemmas.{Acts, rests, works, Keeps, everywhere}
use Rattle.world_laws.proofs.PushLemmas.{long-set, long-added, snapshot_same, work_same, pushing_keeps}
use Rattle.world_laws.proofs.RoomLemmas.{message_keeps, leave_keeps}

-- a message and a leave change the number of no sessions
pub message_long : (schemas : Schemas) (room : Room) (n : ℕ) (said : ClientMessage) (replied : Replied) → after_message schemas room n said ≡ Some replied
    → length replied.room.sessions ≡ length room.sessions
message_long schemas room n said replied is =
    message_keeps (λ r. length r.sessions ≡ length room.sessions) (λ r n s t at on same. long-set r.sessions n t ∙ same) (λ r n is same. same) schemas
    (λ r n s sent plan push at is taken same. same) room n said replied is refl

pub leave_long : (room after : Room) (n : ℕ) → after_leave room n ≡ Some after → length after.sessions ≡ length room.sessions
leave_long room after n is = leave_keeps (λ r. length r.sessions ≡ length room.sessions) (λ r n s t at on same. long-set r.sessions n t ∙ same) (λ r n is same. same) room after n is refl

-- the current session is what it was, or none
abbrev pub IsLess : Client → Client → Type 0
IsLess before after = (k : ℕ) → session_of after.connection ≡ Some k → session_of before.connection ≡ Some k

-- a world whose clients have no other current sessions
sessions_kept : (w v : World) → length v.channels ≡ length v.room.sessions → length w.room.sessions ≤ length v.room.sessions
    → ((n k : ℕ) → IsCurrent v n k → IsCurrent w n k) → AreSessions w → AreSessions v
sessions_kept w v long more fewer h = record {
  channels = long;
  entered = λ n k on. let less = h.entered n k (fewer n k on) in omega arith;
  apart = λ n m k on other. h.apart n m k (fewer n k on) (fewer m k other);
}

-- a client set, whose current session is what it was or none
pub client_kept : (w v : World) (n : ℕ) (c d : Client) → slice_get w.clients n ≡ Some c → v.clients ≡ slice_set w.clients n d → IsLess c d → (m k : ℕ) → IsCurrent v m k → IsCurrent w m k
client_kept w v n c d at set less m k on =
    elim (got-set w.clients n m d on.client (sym (ap (λ cs. slice_get cs m) set) ∙ on.made)) [
      | inl same ↦ record {
        client = c;
        made = ap (slice_get w.clients) same.0 ∙ at;
        has = less k (sym (ap (λ (x : Client). session_of x.connection) same.1) ∙ on.has);
      }
      | inr before ↦ record { client = on.client; made = before; has = on.has }
    ]

pub end_less : (reason : EndReason) (c : Client) → IsLess c (after_end reason c)
end_less Slow c k is = absurd (cc)
end_less ClientTooOld c k is = absurd (cc)
end_less ServerTooOld c k is = absurd (cc)
end_less InvalidRecord c k is = absurd (cc)
end_less RoomFull c k is = absurd (cc)

same_less : (c d : Client) → d.connection ≡ c.connection → IsLess c d
same_less c d same k is = sym (ap session_of same) ∙ is

pub notice_less : (history : History) (k : ℕ) (c : Client) (notice : Notice) → session_of c.connection ≡ Some k → IsLess c (after_notice history k c notice).client
notice_less history k c (snapshot_at clock) has j is =
    has ∙ sym (ap session_of (snapshot_same k clock c).connection) ∙ is
notice_less history k c (updates_between from to) has j is = is
notice_less history k c pong has j is = is
notice_less history k c (end reason) has j is = end_less reason c j is

pub act_less : {F : Type 0} (schemas : WorldSchemas F) (c : Client) (p : Pushing) → Acts schemas c p → IsLess c p.client
act_less schemas c _ (rests d q) = same_less c d q.connection
act_less schemas c _ (works d work q place rising) = same_less c (push_all (with_work work d)).client ((work_same d work).connection ∙ q.connection)

-- a client pushes, whose current session is what it was or none
pushing_sessions : (w : World) (n : ℕ) (c : Client) (p : Pushing) → slice_get w.clients n ≡ Some c → IsLess c p.client → AreSessions w → AreSessions (with_pushing n p w)
pushing_sessions w n c p at less h =
    pushing_keeps AreSessions w n p
    (sessions_kept w _ h.channels (omega arith) (client_kept w _ n c p.client at refl less) h)
    (λ k channel is there. sessions_kept w _ (long-set w.channels k _ ∙ h.channels) (omega arith) (client_kept w _ n c p.client at refl less) h)

-- a client that joins has no session
pub joined : (cs : List Client) (version m : ℕ) (c : Client) (k : ℕ) → slice_get (cs ++ new_client version ∷ []) m ≡ Some c → session_of c.connection ≡ Some k → slice_get cs m ≡ Some c
joined cs version m c k is has = elim (got-added cs m (new_client version) c is) [
  | inl same ↦ absurd (let none : None ≡ Some k = sym (ap (λ (x : Client). session_of x.connection) same) ∙ has in cc)
  | inr before ↦ before
]

module _ {F : Type 0} (schemas : WorldSchemas F) where
  -- a client that asks has the session that enters, and the others have what they had
  module _ (w : World) (n : ℕ) (readonly : Bool) (c : Client) (h : AreSessions w) where
    abbrev next : ℕ
    next = length w.room.sessions

    IsAsking : ℕ → ℕ → Type 0
    IsAsking m k = (m ≡ n) × (k ≡ next)

    who_asks : (m k : ℕ) → IsCurrent (ask schemas n readonly w c) m k → IsAsking m k ⊎ IsCurrent w m k
    unfolding IsAsking
    who_asks m k on =
        elim (got-set w.clients n m (record c { connection = Asking next }) on.client on.made) [
          | inl same ↦ (let has : Some next ≡ Some k = sym (ap (λ (x : Client). session_of x.connection) same.1) ∙ on.has in let it : k ≡ next = cc in inl (same.0, it))
          | inr before ↦ inr (record { client = on.client; made = before; has = on.has })
        ]

    not_next : (m : ℕ) → IsCurrent w m next → ⊥
    not_next m on = let less = h.entered m next on in absurd (omega arith)

    asked_sessions : AreSessions (ask schemas n readonly w c)
    unfolding IsAsking
    asked_sessions = record {
      channels = long-added w.channels _ ∙ ap suc h.channels ∙ sym (long-added w.room.sessions _);
      entered = λ m k on. let long : length (ask schemas n readonly w c).room.sessions ≡ suc next = long-added w.room.sessions _ in
          elim (who_asks m k on) [ inl asking ↦ (let e = asking.1 in omega arith) | inr before ↦ (let less = h.entered m k before in omega arith) ];
      apart = λ m o k on other. elim (who_asks m k on) [
        | inl asking ↦ elim (who_asks o k other) [
          | inl too ↦ asking.0 ∙ sym too.0
          | inr before ↦ absurd (not_next o (subst (IsCurrent w o) asking.1 before))
        ]
        | inr before ↦ elim (who_asks o k other) [
          | inl asking ↦ absurd (not_next m (subst (IsCurrent w m) asking.1 before))
          | inr too ↦ h.apart m o k before too
        ]
      ];
    }

  sessions_keep : Keeps schemas AreSessions
  sessions_keep = record {
    joins = λ w version made h. sessions_kept w _ h.channels (omega arith) (λ m k on. record { client = on.client; made = joined w.clients version m on.client k on.made on.has; has = on.has }) h;
    rests = λ w n c d made at q h. sessions_kept w _ h.channels (omega arith) (client_kept w _ n c d at refl (same_less c d q.connection)) h;
    cuts = λ w n k c made at is h. sessions_kept w _ h.channels (omega arith) (client_kept w _ n c (after_cut c) at refl (λ j none. absurd (cc))) h;
    acts = λ w n c p made at acts h. pushing_sessions w n c p at (act_less schemas c p acts) h;
    asks = λ w n readonly c made at off place h. asked_sessions w n readonly c h;
    loses = λ w k channel room made at is h.
        let long = leave_long w.room room k is in
        sessions_kept w _ (long-set w.channels k _ ∙ h.channels ∙ sym long) (omega arith) (λ m j on. record { client = on.client; made = on.made; has = on.has }) h;
    handles = λ w k channel said messages replied made at first is h.
        let long = message_long schemas.room w.room k said replied is in
        sessions_kept w _ (long-set w.channels k _ ∙ h.channels ∙ sym long) (omega arith) (λ m j on. record { client = on.client; made = on.made; has = on.has }) h;
    sends = λ w k channel given made at is h.
        let long = long-set w.room.sessions k given.after in
        sessions_kept w _ (long-set w.channels k _ ∙ h.channels ∙ sym long) (omega arith) (λ m j on. record { client = on.client; made = on.made; has = on.has }) h;
    delivers = λ w n k c channel notice notices made at is there first h.
        let v = with_channel k (record channel { to_client = notices }) w in
        let before : AreSessions v = sessions_kept w v (long-set w.channels k _ ∙ h.channels) (omega arith) (λ m j on. record { client = on.client; made = on.made; has = on.has }) h in
        pushing_sessions v n c _ at (notice_less w.room.history k c notice is) before;
  }

  pub sessions_stand : (w : World) → ReachableWorld schemas w → AreSessions w
  sessions_stand w made = everywhere schemas AreSessions sessions_keep (λ room reached none. record {
    channels = sym (ap length none);
    entered = λ n k on. let no = on.made in absurd (cc);
    apart = λ n m k on other. let no = on.made in absurd (cc);
  }) w made

-- the sessions of a world stand with a client set, and with a channel
pub sessions_client : (w : World) (n : ℕ) (c d : Client) → slice_get w.clients n ≡ Some c → IsLess c d → AreSessions w → AreSessions (with_client n d w)
sessions_client w n c d at less h = sessions_kept w (with_client n d w) h.channels (omega arith) (client_kept w (with_client n d w) n c d at refl less) h

pub sessions_channel : (w : World) (k : ℕ) (channel : Channel) → AreSessions w → AreSessions (with_channel k channel w)
sessions_channel w k channel h =
    sessions_kept w (with_channel k channel w) (long-set w.channels k channel ∙ h.channels) (omega arith) (λ m j on. record { client = on.client; made = on.made; has = on.has }) h
