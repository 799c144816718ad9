-- What events change of a world of the definitions.
use Rattle.std.proofs.Common.{◌≡◌, ℕ, zero, suc, ◌<◌, ◌++◌, List, [], ◌∷◌, length, get_or, slice_get, slice_set, Some, None, Ok, Err, Result, refl, sym, ap, ◌∙◌, arith}
use Rattle.std.specs.Prelude.{option_and_then}
use Rattle.std.proofs.lemmas.Option.{slice_get_within}
use Rattle.room_model.specs.Schemas.{WorldSchemas, Plan, doc, records_with}
use Rattle.room_model.specs.Histories.{History, records_of, up_to}
use Rattle.room_model.specs.Bases.{is_told}
use Rattle.room_model.specs.Rooms.{Session, Room, session_at, unless_left}
use Rattle.room_model.specs.Replicas.{Client, new_client, seen_by}
use Rattle.room_model.specs.Worlds.{Channel, World}
use Rattle.room_model.specs.declared.connection.Connection.{Connection}
use Rattle.room_model.specs.declared.connection.Connection.TheVariants.{Off, Asking, Open}
use Rattle.sync_msgs.specs.declared.client_message.ClientMessage.{ClientMessage}
use Rattle.sync_msgs.specs.declared.end_reason.EndReason.{EndReason}
use Rattle.world_laws.specs.Reachable.{ReachableWorld}
use Rattle.world_laws.specs.Told.{base_by, replica_of}
use Rattle.world_laws.proofs.SessionLemmas.{sessions_stand}
use Rattle.sync_world.specs.Sending.{sent_in, sent_by}
use Rattle.sync_world.proofs.ListLemmas.{got_some}

module _ {F : Type 0} (schemas : WorldSchemas F) where
  -- nothing is seen of nothing
  nothing_seen : (plan : Result Plan EndReason) → seen_by schemas plan [] ≡ []
  nothing_seen (Ok plan) = refl
  nothing_seen (Err reason) = refl

  -- the base of a client that did nothing is empty
  pub new_base : (history : History) (version : ℕ) → (replica_of schemas history (new_client version)).base ≡ []
  new_base history version = nothing_seen (schemas.room.plan_for (schemas.client version).versions)

  module _ (history : History) (c d : Client) (version : d.version ≡ c.version) (reached : d.reached ≡ c.reached) where
    alike_by : (k : Connection) → base_by schemas history d k ≡ base_by schemas history c k
    alike_by Off = λ i. seen_by schemas (schemas.room.plan_for (schemas.client (version i)).versions) (doc schemas.room (records_of (up_to (reached i) history)))
    alike_by (Asking k) = λ i. seen_by schemas (schemas.room.plan_for (schemas.client (version i)).versions) (doc schemas.room (records_of (up_to (reached i) history)))
    alike_by (Open k) = λ i. seen_by schemas (schemas.room.plan_for (schemas.client (version i)).versions) (records_with (is_told schemas.room k) (records_of (up_to (reached i) history)))

    -- clients of one version that have reached one clock on one session have one base
    pub base_alike : d.connection ≡ c.connection → (replica_of schemas history d).base ≡ (replica_of schemas history c).base
    base_alike connection = alike_by d.connection ∙ ap (λ k. base_by schemas history c k) connection

  -- a session that is in the room has entered
  pub here_within : (room : Room) (k : ℕ) (s : Session) → session_at k room ≡ Some s → k < length room.sessions
  here_within room k s is =
      elim (slice_get room.sessions k) as (λ o. slice_get room.sessions k ≡ o → option_and_then unless_left o ≡ Some s → k < length room.sessions) [
        | None ↦ λ none there. absurd (cc)
        | Some t ↦ λ at there. slice_get_within room.sessions k t at
      ] refl is

  -- and has a channel
  pub has_channel : (w : World) (k : ℕ) (s : Session) → ReachableWorld schemas w → session_at k w.room ≡ Some s → (channel : Channel) × (slice_get w.channels k ≡ Some channel)
  has_channel w k s reached is =
      let within = here_within w.room k s is in
      let stand = sessions_stand schemas w reached in
      got_some w.channels k (omega (arith, stand.channels))

-- what the session of a channel sent stands at its place
pub sent_at : (channels : List Channel) (k : ℕ) (channel : Channel) → slice_get channels k ≡ Some channel → get_or (sent_by channels) k [] ≡ channel.to_room
sent_at [] k channel at = absurd (cc)
sent_at (c ∷ channels) zero channel at = let same : c ≡ channel = cc in ap sent_in same
sent_at (c ∷ channels) (suc k) channel at = sent_at channels k channel at

pub sent_none : (channels : List Channel) (k : ℕ) → slice_get channels k ≡ None → get_or (sent_by channels) k [] ≡ []
sent_none [] k at = refl
sent_none (c ∷ channels) zero at = absurd (cc)
sent_none (c ∷ channels) (suc k) at = sent_none channels k at

-- nothing is set where there is no channel
pub sent_past : (channels : List Channel) (k : ℕ) (messages : List ClientMessage) → slice_get channels k ≡ None → slice_set (sent_by channels) k messages ≡ sent_by channels
sent_past [] k messages at = refl
sent_past (c ∷ channels) zero messages at = absurd (cc)
sent_past (c ∷ channels) (suc k) messages at = ap (λ q. c.to_room ∷ q) (sent_past channels k messages at)

-- a channel in which what its session sent was set
pub sent_set : (channels : List Channel) (k : ℕ) (channel : Channel) → sent_by (slice_set channels k channel) ≡ slice_set (sent_by channels) k channel.to_room
sent_set [] k channel = refl
sent_set (c ∷ channels) zero channel = refl
sent_set (c ∷ channels) (suc k) channel = ap (λ q. c.to_room ∷ q) (sent_set channels k channel)

-- a channel in which something else was set
pub sent_still : (channels : List Channel) (k : ℕ) (before after : Channel) → slice_get channels k ≡ Some before → after.to_room ≡ before.to_room
    → sent_by (slice_set channels k after) ≡ sent_by channels
sent_still [] k before after at same = refl
sent_still (c ∷ channels) zero before after at same = let it : c ≡ before = cc in ap (λ q. q ∷ sent_by channels) (same ∙ ap sent_in (sym it))
sent_still (c ∷ channels) (suc k) before after at same = ap (λ q. c.to_room ∷ q) (sent_still channels k before after at same)

pub sent_added : (channels : List Channel) (channel : Channel) → sent_by (channels ++ channel ∷ []) ≡ sent_by channels ++ channel.to_room ∷ []
sent_added [] channel = refl
sent_added (c ∷ channels) channel = ap (λ q. c.to_room ∷ q) (sent_added channels channel)
