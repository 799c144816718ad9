-- What a client that pushes changes of itself, and of a world.
use Rattle.std.proofs.Common.{◌≡◌, ◌⊎◌, inl, inr, ℕ, zero, suc, nat_lt, true, false, ◌&&◌, cond, List, [], ◌∷◌, ◌++◌, length, slice_get, slice_set, Some, None, option_map, ◌<◌, ◌≤◌, refl, sym, ap, subst, ◌∙◌, arith}
use Rattle.std.specs.Prelude.{is_none, find, map, pos, option_to_list}
use Rattle.std.specs.Option.{option_map_or}
use Rattle.room_model.specs.Rooms.{session_at}
use Rattle.room_model.specs.Reachable.{IsRising}
use Rattle.room_model.specs.Replicas.{Work, edit, presence, Pending, Client, is_open, session_of, push_of, Pushing, push_none, first_unsent, send_first, push_one, next_push, push_times, push_all, with_work, all_unsent, pending_diffs, after_snapshot}
use Rattle.room_model.specs.declared.connection.Connection.TheVariants.{Open}
use Rattle.room_model.specs.Worlds.{Channel, World, with_client, with_channel, with_messages, with_pushing}
use Rattle.room_model.specs.declared.limits.TheConstants.{MOST_PUSHES}
use Rattle.room_model.proofs.CallLemmas.{got-set, got-added}
use Rattle.room_model.proofs.HistoryLemmas.{Each, each-append}
use Rattle.world_laws.proofs.EventLemmas.{IsRisingWork}

module _ {X : Type 0} where
  -- something holds of each item of a list, by its number
  abbrev pub AtEach : (X → Type 0) → List X → Type 0
  AtEach P xs = (n : ℕ) (x : X) → slice_get xs n ≡ Some x → P x

  pub each_set : (P : X → Type 0) (xs : List X) (n : ℕ) (y : X) → AtEach P xs → P y → AtEach P (slice_set xs n y)
  each_set P xs n y h new k x is = elim (got-set xs n k y x is) [ inl same ↦ subst P (sym same.1) new | inr before ↦ h k x before ]

  pub each_added : (P : X → Type 0) (xs : List X) (y : X) → AtEach P xs → P y → AtEach P (xs ++ y ∷ [])
  each_added P xs y h new k x is = elim (got-added xs k y x is) [ inl same ↦ subst P (sym same) new | inr before ↦ h k x before ]

  pub long-set : (xs : List X) (n : ℕ) (y : X) → length (slice_set xs n y) ≡ length xs
  long-set [] n y = refl
  long-set (x ∷ xs) zero y = refl
  long-set (x ∷ xs) (suc n) y = ap suc (long-set xs n y)

  pub long-added : (xs : List X) (y : X) → length (xs ++ y ∷ []) ≡ suc (length xs)
  long-added [] y = refl
  long-added (x ∷ xs) y = ap suc (long-added xs y)

module _ {X : Type 0} where
  -- after one of a list is set, each is that one, or is another and was there
  pub got_split : (xs : List X) (n k : ℕ) (y z : X) → slice_get (slice_set xs n y) k ≡ Some z → ((k ≡ n) × (z ≡ y)) ⊎ ((k ≡ n → ⊥) × (slice_get xs k ≡ Some z))
  got_split [] n k y z is = absurd (cc)
  got_split (x ∷ xs) zero zero y z is = let same : y ≡ z = cc in inl (refl, sym same)
  got_split (x ∷ xs) zero (suc k) y z is = inr (λ e. absurd (omega arith), is)
  got_split (x ∷ xs) (suc n) zero y z is = inr (λ e. absurd (omega arith), is)
  got_split (x ∷ xs) (suc n) (suc k) y z is = elim (got_split xs n k y z is) [
    | inl same ↦ inl (ap suc same.0, same.1)
    | inr before ↦ inr (λ e. before.0 (omega arith), before.1)
  ]

  -- what stands where something was before one was added, was there
  pub got_old : (xs : List X) (k : ℕ) (y z : X) → k < length xs → slice_get (xs ++ y ∷ []) k ≡ Some z → slice_get xs k ≡ Some z
  got_old [] k y z less is = absurd (omega arith)
  got_old (x ∷ xs) zero y z less is = is
  got_old (x ∷ xs) (suc k) y z less is = got_old xs k y z (omega arith) is

  -- what stands behind all that was there is what was added
  pub got_new : (xs : List X) (k : ℕ) (y z : X) → length xs ≤ k → slice_get (xs ++ y ∷ []) k ≡ Some z → z ≡ y
  got_new [] zero y z less is = let same : y ≡ z = cc in sym same
  got_new [] (suc k) y z less is = absurd (cc)
  got_new (x ∷ xs) zero y z less is = absurd (omega arith)
  got_new (x ∷ xs) (suc k) y z less is = got_new xs k y z (omega arith) is

-- what a client that pushes leaves of itself
pub record IsSame (before after : Client) : Type 0 where
  pub version : after.version ≡ before.version
  pub connection : after.connection ≡ before.connection
  pub reached : after.reached ≡ before.reached
  pub presence : after.presence ≡ before.presence
  pub refused : after.refused ≡ before.refused
  pub marks : after.marks ≡ before.marks
  pub clip : after.clip ≡ before.clip

pub next_same : (c : Client) (p : Pushing) → next_push c ≡ Some p → (work : Work) × (first_unsent c.pending ≡ Some work) × (p ≡ push_one c work)
next_same c p is =
    elim (is_open c.connection && nat_lt c.pushes MOST_PUSHES) as (λ b. cond b (option_map (push_one c) (first_unsent c.pending)) None ≡ Some p → (work : Work) × (first_unsent c.pending ≡ Some work) × (p ≡ push_one c work)) [
      | true ↦ elim (first_unsent c.pending) as (λ o. option_map (push_one c) o ≡ Some p → (work : Work) × (o ≡ Some work) × (p ≡ push_one c work)) [
        | None ↦ λ same. absurd (cc)
        | Some work ↦ λ same. let it : push_one c work ≡ p = cc in (work, refl, sym it)
      ]
      | false ↦ λ same. absurd (cc)
    ] is

pub same_once : (c : Client) (work : Work) → IsSame c (push_one c work).client
same_once c work = record { version = refl; connection = refl; reached = refl; presence = refl; refused = refl; marks = refl; clip = refl }

pub same_pushed : (k : ℕ) (c : Client) → IsSame c (push_times k c).client
same_pushed zero c = record { version = refl; connection = refl; reached = refl; presence = refl; refused = refl; marks = refl; clip = refl }
same_pushed (suc k) c =
    elim (next_push c) as (λ o. next_push c ≡ o → IsSame c (option_map_or (λ one. let more = push_times k one.client in record more { messages = one.messages ++ more.messages }) o (push_none c)).client) [
      | None ↦ λ is. record { version = refl; connection = refl; reached = refl; presence = refl; refused = refl; marks = refl; clip = refl }
      | Some p ↦ λ is.
          let h = next_same c p is in
          let one = subst (λ (q : Pushing). IsSame c q.client) (sym h.2) (same_once c h.0) in
          let later = same_pushed k p.client in
          record {
            version = later.version ∙ one.version;
            connection = later.connection ∙ one.connection;
            reached = later.reached ∙ one.reached;
            presence = later.presence ∙ one.presence;
            refused = later.refused ∙ one.refused;
            marks = later.marks ∙ one.marks;
            clip = later.clip ∙ one.clip;
          }
    ] refl

-- a client that was answered, before it pushes
abbrev pub answered : ℕ → ℕ → Client → Client
answered session clock c = record c {
  connection = Open session;
  reached = pos clock;
  pending = all_unsent (map edit (pending_diffs c) ++ map presence (option_to_list c.presence));
}

pub snapshot_same : (session clock : ℕ) (c : Client) → IsSame (answered session clock c) (after_snapshot session clock c).client
snapshot_same session clock c = same_pushed (length (answered session clock c).pending) (answered session clock c)

pub work_same : (c : Client) (work : Work) → IsSame (with_work work c) (push_all (with_work work c)).client
work_same c work = same_pushed (length (with_work work c).pending) (with_work work c)

-- the works that are pending rise
abbrev pub AreRisingItems : List Pending → Type 0
AreRisingItems items = Each (λ item. IsRisingWork item.work) items

rising_first : (items : List Pending) (work : Work) → AreRisingItems items → first_unsent items ≡ Some work → IsRisingWork work
rising_first [] work h is = absurd (cc)
rising_first (item ∷ items) work h is =
    elim (is_none item.sent_as) as (λ b. option_map (λ (item : Pending). item.work) (cond b (Some item) (find (λ item. is_none item.sent_as) items)) ≡ Some work → IsRisingWork work) [
      | true ↦ λ same. let it : item.work ≡ work = cc in subst IsRisingWork it h.0
      | false ↦ λ same. rising_first items work h.1 same
    ] is

rising_sent : (k : ℕ) (items : List Pending) → AreRisingItems items → AreRisingItems (send_first k items)
rising_sent k [] h = tt
rising_sent k (item ∷ items) h =
    elim (is_none item.sent_as) as (λ b. AreRisingItems (cond b (record item { sent_as = Some k } ∷ items) (item ∷ send_first k items))) [ true ↦ h | false ↦ (h.0, rising_sent k items h.1) ]

rising_push : (k : ℕ) (work : Work) → IsRisingWork work → IsRising (push_of k work)
rising_push k (edit diff) h = h
rising_push k (presence d) h = tt

-- what is pushed of works that rise does, and what stays pending
pub rising_pushed : (k : ℕ) (c : Client) → AreRisingItems c.pending → AreRisingItems (push_times k c).client.pending × Each IsRising (push_times k c).messages
rising_pushed zero c h = (h, tt)
rising_pushed (suc k) c h =
    let Rising : Pushing → Type 0 = λ p. AreRisingItems p.client.pending × Each IsRising p.messages in
    elim (next_push c) as (λ o. next_push c ≡ o → Rising (option_map_or (λ one. let more = push_times k one.client in record more { messages = one.messages ++ more.messages }) o (push_none c))) [
      | None ↦ λ is. (h, tt)
      | Some p ↦ λ is.
          let on = next_same c p is in
          let first = rising_first c.pending on.0 h on.1 in
          let one : Rising p = subst Rising (sym on.2) (rising_sent (suc c.pushes) c.pending h, (rising_push (suc c.pushes) on.0 first, tt)) in
          let later = rising_pushed k p.client one.0 in
          (later.0, each-append IsRising p.messages (push_times k p.client).messages one.1 later.1)
    ] refl

-- what holds of a world with a client set, and with messages in the channel of its session, holds of it once the client pushed
pub pushing_keeps : (P : World → Type 0) (w : World) (n : ℕ) (p : Pushing) → P (with_client n p.client w)
    → ((k : ℕ) (channel : Channel) → session_of p.client.connection ≡ Some k → slice_get w.channels k ≡ Some channel
    → P (with_channel k (record channel { to_room = channel.to_room ++ p.messages }) (with_client n p.client w))) → P (with_pushing n p w)
pushing_keeps P w n p alone h =
    let after = with_client n p.client w in
    elim (session_of p.client.connection) as (λ o. session_of p.client.connection ≡ o → P (option_map_or (λ k. with_messages k p.messages after) o after)) [
      | None ↦ λ is. alone
      | Some k ↦ λ is. elim (option_map_or (λ s. true) (session_at k w.room) false) as (λ b. P (cond b (option_map_or (λ channel. with_channel k (record channel { to_room = channel.to_room ++ p.messages }) after) (slice_get w.channels k) after) after)) [
        | true ↦ elim (slice_get w.channels k) as (λ o. slice_get w.channels k ≡ o → P (option_map_or (λ channel. with_channel k (record channel { to_room = channel.to_room ++ p.messages }) after) o after)) [
          | None ↦ λ none. alone
          | Some channel ↦ λ at. h k channel is at
        ] refl
        | false ↦ alone
      ]
    ] refl

-- why what a client pushes goes nowhere
pub data IsLost (w : World) (p : Pushing) : Type 0 where
  off : session_of p.client.connection ≡ None → IsLost w p
  away : (k : ℕ) → session_of p.client.connection ≡ Some k → option_map_or (λ s. true) (session_at k w.room) false ≡ false → IsLost w p
  nowhere : (k : ℕ) → session_of p.client.connection ≡ Some k → slice_get w.channels k ≡ None → IsLost w p

-- the same, where it is said why nothing comes into a channel
pub pushing_split : (P : World → Type 0) (w : World) (n : ℕ) (p : Pushing) → (IsLost w p → P (with_client n p.client w))
    → ((k : ℕ) (channel : Channel) → session_of p.client.connection ≡ Some k → slice_get w.channels k ≡ Some channel
    → P (with_channel k (record channel { to_room = channel.to_room ++ p.messages }) (with_client n p.client w))) → P (with_pushing n p w)
pushing_split P w n p alone h =
    let after = with_client n p.client w in
    elim (session_of p.client.connection) as (λ o. session_of p.client.connection ≡ o → P (option_map_or (λ k. with_messages k p.messages after) o after)) [
      | None ↦ λ is. alone (off is)
      | Some k ↦ λ is. elim (option_map_or (λ s. true) (session_at k w.room) false) as (λ b. option_map_or (λ s. true) (session_at k w.room) false ≡ b
          → P (cond b (option_map_or (λ channel. with_channel k (record channel { to_room = channel.to_room ++ p.messages }) after) (slice_get w.channels k) after) after)) [
            | true ↦ λ there. elim (slice_get w.channels k) as (λ o. slice_get w.channels k ≡ o → P (option_map_or (λ channel. with_channel k (record channel { to_room = channel.to_room ++ p.messages }) after) o after)) [
              | None ↦ λ none. alone (nowhere k is none)
              | Some channel ↦ λ at. h k channel is at
            ] refl
            | false ↦ λ left. alone (away k is left)
          ] refl
    ] refl
