-- What stays of a world in each later one: the history up to a clock, whether a session is read-only, and what a client is.
use Rattle.std.proofs.Common.{◌≡◌, inl, inr, ℕ, zero, suc, ◌<◌, ◌≤◌, nat_lt, pos, negsuc, Bool, false, cond, List, [], ◌∷◌, ◌++◌, length, slice_get, slice_set, Some, Ok, refl, sym, ap, subst, ◌∙◌, arith}
use Rattle.std.proofs.lemmas.Bool.Decides.{nat_tests}
use Rattle.rooms_val.specs.Data.{Pairs}
use Rattle.doc_model.specs.Documents.{replay}
use Rattle.room_model.specs.Schemas.{WorldSchemas, records_with, doc}
use Rattle.room_model.specs.Bases.{is_told}
use Rattle.room_model.specs.Messages.{others_of}
use Rattle.room_model.specs.declared.connection.Connection.{Connection}
use Rattle.world_laws.specs.Told.{base_by, HasSame}
use Rattle.room_model.specs.Histories.{History, records_of, oldest, up_to}
use Rattle.room_model.specs.Rooms.{new, Session, Room, Notice, snapshot_at, updates_between, pong, end, Replied, with_session, after_message, after_leave}
use Rattle.room_model.specs.Replicas.{Client, schema_of, plan_of, seen_by, pending_diffs, others_by, session_of, Pushing, after_end, after_notice}
use Rattle.room_model.specs.Worlds.{World, with_client, with_channel, with_pushing, after_event, Stepped}
use Rattle.room_model.specs.declared.connection.Connection.TheVariants.{Off, Asking, Open}
use Rattle.room_model.specs.declared.event.Event.{Event}
use Rattle.room_model.specs.declared.history.Entry.{Entry}
use Rattle.room_model.proofs.CallLemmas.{got-set}
use Rattle.room_model.proofs.ClosingLemmas.{by_number}
use Rattle.room_model.proofs.ClientLemmas.{end_version}
use Rattle.sync_msgs.specs.declared.client_message.ClientMessage.{ClientMessage}
use Rattle.sync_msgs.specs.declared.end_reason.EndReason.{EndReason}
use Rattle.sync_msgs.specs.declared.end_reason.EndReason.TheVariants.{ClientTooOld, ServerTooOld, InvalidRecord, RoomFull, Slow}
use Rattle.world_laws.specs.Reachable.{ReachableWorld}
use Rattle.world_laws.specs.Sessions.{IsCurrent}
use Rattle.world_laws.specs.Channels.{IsDue}
use Rattle.world_laws.proofs.EventLemmas.{Acts, rests, works, Keeps, Holds, event_keeps}
use Rattle.world_laws.proofs.PushLemmas.{long-set, long-added, snapshot_same, work_same, pushing_keeps}
use Rattle.world_laws.proofs.SessionLemmas.{IsLess, act_less, notice_less, client_kept, joined}
use Rattle.world_laws.proofs.RoomLemmas.{message_keeps, leave_keeps, Gives, tells_end, answers, pongs, tells, drain_gives}
use Rattle.world_laws.specs.Clocks.{IsReached}
use Rattle.world_laws.proofs.ClockLemmas.{clocks_stand}
use Rattle.world_laws.proofs.DueLemmas.{next_due}

module _ {X : Type 0} where
  pub got_at : (xs : List X) (n : ℕ) (x y : X) → slice_get xs n ≡ Some x → slice_get (slice_set xs n y) n ≡ Some y
  got_at [] n x y at = absurd (cc)
  got_at (z ∷ xs) zero x y at = refl
  got_at (z ∷ xs) (suc n) x y at = got_at xs n x y at

  pub got_else : (xs : List X) (n k : ℕ) (y : X) → (k ≡ n → ⊥) → slice_get (slice_set xs n y) k ≡ slice_get xs k
  got_else [] n k y apart = refl
  got_else (z ∷ xs) zero zero y apart = absurd (apart refl)
  got_else (z ∷ xs) zero (suc k) y apart = refl
  got_else (z ∷ xs) (suc n) zero y apart = refl
  got_else (z ∷ xs) (suc n) (suc k) y apart = got_else xs n k y (λ is. apart (ap suc is))

  pub got_still : (xs : List X) (k : ℕ) (x y : X) → slice_get xs k ≡ Some x → slice_get (xs ++ y ∷ []) k ≡ Some x
  got_still [] k x y at = absurd (cc)
  got_still (z ∷ xs) zero x y at = at
  got_still (z ∷ xs) (suc k) x y at = got_still xs k x y at

  -- each of a list has its like in another one
  abbrev pub HasLikes : (X → X → Type 0) → List X → List X → Type 0
  HasLikes R xs ys = (k : ℕ) (x : X) → slice_get xs k ≡ Some x → (y : X) × (slice_get ys k ≡ Some y) × R x y

  -- so it has after one is set that is like what it was
  likes_set : (R : X → X → Type 0) (xs ys : List X) (n : ℕ) (y z : X) → slice_get ys n ≡ Some y → ((x : X) → R x y → R x z) → HasLikes R xs ys → HasLikes R xs (slice_set ys n z)
  likes_set R xs ys n y z at goes h k x is =
      let before = h k x is in
      by_number (λ b. (y : X) × (slice_get (slice_set ys n z) k ≡ Some y) × R x y) k n
      (λ same. let it : Some before.0 ≡ Some y = sym before.1 ∙ ap (slice_get ys) same ∙ at in let was : before.0 ≡ y = cc in
      (z, ap (slice_get (slice_set ys n z)) same ∙ got_at ys n y z at, goes x (subst (R x) was before.2)))
      (λ apart. (before.0, got_else ys n k z apart ∙ before.1, before.2))

  likes_added : (R : X → X → Type 0) (xs ys : List X) (z : X) → HasLikes R xs ys → HasLikes R xs (ys ++ z ∷ [])
  likes_added R xs ys z h k x is = let before = h k x is in (before.0, got_still ys k before.0 z before.1, before.2)

-- a history that grew to another one
pub record IsGrown (before after : History) : Type 0 where
  pub longer : length before ≤ length after
  pub same : (clock : ℕ) → clock ≤ length before → oldest clock after ≡ oldest clock before

pub grown_none : (history : History) → IsGrown history history
grown_none history = record { longer = omega arith; same = λ clock less. refl }

pub grown_entry : (before after : History) (entry : Entry) → IsGrown before after → IsGrown before (entry ∷ after)
grown_entry before after entry h = let more = h.longer in record {
  longer = omega arith;
  same = λ clock less.
      let not_last : nat_lt (length after) clock ≡ false = grind (arith, nat_tests) in
      ap (λ b. cond b (entry ∷ after) (oldest clock after)) not_last ∙ h.same clock less;
}

-- one session is as read-only as another
abbrev pub IsLikeSession : Session → Session → Type 0
IsLikeSession s t = t.readonly ≡ s.readonly

-- a client is at a session's number what another is: of the same version, and at the same clock if it asks there
pub record IsLikeClient (entered : ℕ) (c d : Client) : Type 0 where
  pub version : d.version ≡ c.version
  pub asks : (k : ℕ) → k < entered → d.connection ≡ Asking k → d.reached ≡ c.reached

-- a room after another
pub record IsLaterRoom (before after : Room) : Type 0 where
  pub first : after.first ≡ before.first
  pub grown : IsGrown before.history after.history
  pub entered : length before.sessions ≤ length after.sessions
  pub sessions : HasLikes IsLikeSession before.sessions after.sessions

-- a world after another
pub record IsLater (before after : World) : Type 0 where
  pub room : IsLaterRoom before.room after.room
  pub clients : HasLikes (IsLikeClient (length before.room.sessions)) before.clients after.clients
  -- who has a session that had entered before had it then
  pub current : (n k : ℕ) → k < length before.room.sessions → IsCurrent after n k → IsCurrent before n k

later_set : (w r : Room) (n : ℕ) (s t : Session) → slice_get r.sessions n ≡ Some s → t.readonly ≡ s.readonly → IsLaterRoom w r → IsLaterRoom w (with_session n t r)
later_set w r n s t at same h = record {
  first = h.first;
  grown = h.grown;
  entered = (let more = h.entered in let long = long-set r.sessions n t in omega arith);
  sessions = likes_set IsLikeSession w.sessions r.sessions n s t at (λ u like. same ∙ like) h.sessions;
}

later_entry : (w r : Room) (entry : Entry) → IsLaterRoom w r → IsLaterRoom w (record r { history = entry ∷ r.history })
later_entry w r entry h = record { first = h.first; grown = grown_entry w.history r.history entry h.grown; entered = h.entered; sessions = h.sessions }

pub notice_version : (history : History) (k : ℕ) (c : Client) (notice : Notice) → (after_notice history k c notice).client.version ≡ c.version
notice_version history k c (snapshot_at clock) = (snapshot_same k clock c).version
notice_version history k c (updates_between from to) = refl
notice_version history k c pong = refl
notice_version history k c (end reason) = end_version reason c

module _ {F : Type 0} (schemas : WorldSchemas F) (w : World) where
  later_message : (r : Room) (n : ℕ) (said : ClientMessage) (replied : Replied) → after_message schemas.room r n said ≡ Some replied → IsLaterRoom w.room r → IsLaterRoom w.room replied.room
  later_message r n said replied is h =
      message_keeps (IsLaterRoom w.room) (λ r n s t at on h. later_set w.room r n s t at on.same h) (λ r n is h. later_entry w.room r _ h) schemas.room
      (λ r n s sent plan push at is taken h. later_entry w.room r _ h) r n said replied is h

  later_leave : (r after : Room) (n : ℕ) → after_leave r n ≡ Some after → IsLaterRoom w.room r → IsLaterRoom w.room after
  later_leave r after n is h = leave_keeps (IsLaterRoom w.room) (λ r n s t at on h. later_set w.room r n s t at on.same h) (λ r n is h. later_entry w.room r _ h) r after n is h

  -- a world with the same clients
  same_clients : (v u : World) → u.clients ≡ v.clients → IsLaterRoom w.room u.room → IsLater w v → IsLater w u
  same_clients v u same room h = record {
    room = room;
    clients = subst (HasLikes (IsLikeClient (length w.room.sessions)) w.clients) (sym same) h.clients;
    current = λ n k within is. h.current n k within (record { client = is.client; made = sym (ap (λ cs. slice_get cs n) same) ∙ is.made; has = is.has });
  }

  -- how a client goes on: it may ask where it did, and has then reached what it had
  abbrev Goes_on : Client → Client → Type 0
  Goes_on c d = (d.version ≡ c.version) × ((k : ℕ) → d.connection ≡ Asking k → (c.connection ≡ Asking k) × (d.reached ≡ c.reached))

  later_client : (v : World) (n : ℕ) (c d : Client) → slice_get v.clients n ≡ Some c → Goes_on c d → IsLess c d → IsLater w v → IsLater w (with_client n d v)
  later_client v n c d at on less h = record {
    room = h.room;
    current = λ m k within is. h.current m k within (client_kept v (with_client n d v) n c d at refl less m k is);
    clients = likes_set (IsLikeClient (length w.room.sessions)) w.clients v.clients n c d at (λ x like. record {
      version = on.0 ∙ like.version;
      asks = λ k less is. let before = on.1 k is in before.1 ∙ like.asks k less before.0;
    }) h.clients;
  }

  later_pushing : (v : World) (n : ℕ) (c : Client) (p : Pushing) → slice_get v.clients n ≡ Some c → Goes_on c p.client → IsLess c p.client → IsLater w v → IsLater w (with_pushing n p v)
  later_pushing v n c p at on less h =
      let now = later_client v n c p.client at on less h in
      pushing_keeps (IsLater w) v n p now (λ k channel is there. same_clients (with_client n p.client v) _ refl now.room now)

  acts_on : (c : Client) (p : Pushing) → Acts schemas c p → Goes_on c p.client
  acts_on c _ (rests d q) = (q.version, λ k is. (sym q.connection ∙ is, q.reached))
  acts_on c _ (works d work q place rising) =
      let same = work_same d work in (same.version ∙ q.version, λ k is. (sym (same.connection ∙ q.connection) ∙ is, same.reached ∙ q.reached))

  end_on : (reason : EndReason) (c : Client) → Goes_on c (after_end reason c)
  end_on Slow c = (refl, λ k is. absurd (cc))
  end_on ClientTooOld c = (refl, λ k is. absurd (cc))
  end_on ServerTooOld c = (refl, λ k is. absurd (cc))
  end_on InvalidRecord c = (refl, λ k is. absurd (cc))
  end_on RoomFull c = (refl, λ k is. absurd (cc))

  notice_on : (history : History) (k : ℕ) (c : Client) (notice : Notice) → IsDue c k notice → Goes_on c (after_notice history k c notice).client
  notice_on history k c (snapshot_at clock) due = let same = snapshot_same k clock c in (same.version, λ j is. absurd (let no : Open k ≡ Asking j = sym same.connection ∙ is in cc))
  notice_on history k c (updates_between from to) due = (refl, λ j is. absurd (let no : Open k ≡ Asking j = sym due.0 ∙ is in cc))
  notice_on history k c pong due = (refl, λ j is. (is, refl))
  notice_on history k c (end reason) due = end_on reason c

  given_like : (room : Room) (n : ℕ) (s : Session) (notice : Notice) (after : Session) → Gives room n s notice after → after.readonly ≡ s.readonly
  given_like room n s _ _ (tells_end reason is) = refl
  given_like room n s _ _ (answers request reached plan is) = refl
  given_like room n s _ _ (pongs some) = refl
  given_like room n s _ _ (tells sent plan is less) = refl

  later_keep : Keeps schemas (IsLater w)
  later_keep = record {
    joins = λ v version made h. record {
      room = h.room;
      clients = likes_added (IsLikeClient (length w.room.sessions)) w.clients v.clients _ h.clients;
      current = λ n k within is. h.current n k within (record { client = is.client; made = joined v.clients version n is.client k is.made is.has; has = is.has });
    };
    rests = λ v n c d made at q h. later_client v n c d at (q.version, λ k is. (sym q.connection ∙ is, q.reached)) (λ k is. sym (ap session_of q.connection) ∙ is) h;
    cuts = λ v n k c made at is h. later_client v n c _ at (refl, λ k is. absurd (cc)) (λ k is. absurd (cc)) h;
    acts = λ v n c p made at acts h. later_pushing v n c p at (acts_on c p acts) (act_less schemas c p acts) h;
    asks = λ v n readonly c made at off place h.
        let next = length v.room.sessions in
        let more = h.room.entered in
        let entering : Session = record { readonly = readonly; pings = 0; phase = new } in
        let asking : Client = record c { connection = Asking next } in
        let long = long-added v.room.sessions entering in
        record {
          room = record { first = h.room.first; grown = h.room.grown; entered = omega arith; sessions = likes_added IsLikeSession w.room.sessions v.room.sessions _ h.room.sessions };
          clients = likes_set (IsLikeClient (length w.room.sessions)) w.clients v.clients n c asking at (λ x like. record {
            version = like.version;
            asks = λ k less is. absurd (let it : next ≡ k = cc in omega arith);
          }) h.clients;
          current = λ m k within is. elim (got-set v.clients n m asking is.client is.made) [
            | inl same ↦ absurd (let it : Some next ≡ Some k = sym (ap (λ (x : Client). session_of x.connection) same.1) ∙ is.has in let this : next ≡ k = cc in omega arith)
            | inr before ↦ h.current m k within (record { client = is.client; made = before; has = is.has })
          ];
        };
    loses = λ v k channel room made at is h. same_clients v _ refl (later_leave v.room room k is h.room) h;
    handles = λ v k channel said messages replied made at first is h. same_clients v _ refl (later_message v.room k said replied is h.room) h;
    sends = λ v k channel given made at is h.
        let on = drain_gives schemas.room v.room k given is in
        same_clients v _ refl (later_set w.room v.room k on.0 given.after on.1.at (given_like v.room k on.0 given.notice given.after on.2) h.room) h;
    delivers = λ v n k c channel notice notices made at is there first h.
        let u = with_channel k (record channel { to_client = notices }) v in
        later_pushing u n c (after_notice v.room.history k c notice) at (notice_on v.room.history k c notice (next_due schemas v n k c channel notice notices made at is there first))
        (notice_less v.room.history k c notice is) (same_clients v u refl h.room h);
  }

  later_itself : IsLater w w
  later_itself = record {
    room = record { first = refl; grown = grown_none w.room.history; entered = omega arith; sessions = λ k s at. (s, at, refl) };
    clients = λ n c at. (c, at, record { version = refl; asks = λ k less is. refl });
    current = λ n k within is. is;
  }

  -- what an event makes of a world is later
  pub event_later : (trace : Bool) (event : Event) (made : Stepped) → ReachableWorld schemas w → after_event schemas trace w event ≡ Ok made → IsLater w made.world
  event_later trace event made reached is = subst (Holds (IsLater w)) is (event_keeps schemas (IsLater w) later_keep w reached later_itself trace event)

  -- and what a clock that was reached has of the history stays
  pub reached_stays : (trace : Bool) (event : Event) (made : Stepped) (n : ℕ) (c : Client) → ReachableWorld schemas w → after_event schemas trace w event ≡ Ok made
      → slice_get w.clients n ≡ Some c → up_to c.reached made.world.room.history ≡ up_to c.reached w.room.history
  reached_stays trace event made n c reached is at =
      let grown = (event_later trace event made reached is).room.grown in
      elim c.reached as (λ r. IsReached (length w.room.history) r → up_to r made.world.room.history ≡ up_to r w.room.history) [
        | pos clock ↦ λ less. grown.same clock less
        | negsuc k ↦ λ none. refl
      ] ((clocks_stand schemas w reached).reached n c at)

  -- and so does what is seen of it
  module _ (trace : Bool) (event : Event) (made : Stepped) (n : ℕ) (c : Client) (reached : ReachableWorld schemas w) (is : after_event schemas trace w event ≡ Ok made)
      (at : slice_get w.clients n ≡ Some c) where
    abbrev seen : (Pairs → Pairs) → History → Pairs
    seen part h = seen_by schemas (plan_of schemas c) (part (records_of (up_to c.reached h)))

    seen_stays : (part : Pairs → Pairs) → seen part made.world.room.history ≡ seen part w.room.history
    seen_stays part = ap (λ h. seen_by schemas (plan_of schemas c) (part (records_of h))) (reached_stays trace event made n c reached is at)

    base_stays : (x : Connection) → base_by schemas made.world.room.history c x ≡ base_by schemas w.room.history c x
    base_stays Off = seen_stays (doc schemas.room)
    base_stays (Asking k) = seen_stays (doc schemas.room)
    base_stays (Open k) = seen_stays (records_with (is_told schemas.room k))

    others_by_stay : (x : Connection) → others_by schemas made.world.room.history c x ≡ others_by schemas w.room.history c x
    others_by_stay Off = refl
    others_by_stay (Asking k) = refl
    others_by_stay (Open k) = seen_stays (others_of schemas.room k)

    pub has_same : HasSame schemas w made.world c
    has_same = record {
      history = reached_stays trace event made n c reached is at;
      replica = let base = base_stays c.connection in λ i. record { base = base i; pending = c.pending };
      shown = ap (λ base. replay (schema_of schemas c).admits base (pending_diffs c)) (seen_stays (doc schemas.room));
      others_are = others_by_stay c.connection;
    }
