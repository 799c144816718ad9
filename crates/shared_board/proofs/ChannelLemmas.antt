-- The channels of a world: how many an event leaves, and that nothing moves in one that isn't there.
use Rattle.std.proofs.Common.{◌≡◌, ℕ, suc, ◌<◌, ◌≤◌, nat_le, cond, Bool, true, false, [], ◌∷◌, ◌++◌, length, drop, slice_get, Option, Some, None, Ok, Err, refl, sym, subst, ◌∙◌, arith}
use Rattle.std.specs.Option.{option_map_or}
use Rattle.std.proofs.lemmas.Bool.Decides.{nat_tests}
use Rattle.room_model.specs.Schemas.{WorldSchemas}
use Rattle.room_model.specs.Rooms.{Session, session_at, is_full, Given, next_for}
use Rattle.room_model.specs.Replicas.{Client, session_of}
use Rattle.room_model.specs.Worlds.{Channel, World, Outcome, Stepped, happens, at_channel, at_session, is_at_limit, ask, connect_if_allowed, on_connect, after_event}
use Rattle.room_model.specs.declared.event.Event.{Event}
use Rattle.room_model.specs.declared.event.Event.TheVariants as event
use Rattle.room_model.specs.declared.fault.StepFault.TheVariants.{NoSuchSession, Limit}
use Rattle.room_model.specs.declared.limits.TheConstants.{MOST_RECORDED}
use Rattle.side_effects.specs.declared.fault.EditFault.{EditFault}
use Rattle.sync_msgs.specs.declared.end_reason.EndReason.{EndReason}
use Rattle.world_laws.specs.Queues.{Queues, queue_at, without_first, with_out, queues_after}
use Rattle.world_laws.specs.Reachable.{ReachableWorld}
use Rattle.world_laws.proofs.EventLemmas.{Holds, from_option}
use Rattle.world_laws.proofs.PushLemmas.{long-set, long-added}
use Rattle.world_laws.proofs.QueueLemmas.{queues_go_on}
use Rattle.world_laws.proofs.SessionLemmas.{sessions_stand}
use Rattle.rooms_val.proofs.Truths.{or_false_right}
use Rattle.world_queues.specs.Queues.{to_client}
use Rattle.sync_world.specs.Standing as world_of
use Rattle.sync_world.specs.declared.world.World as code_of
use Rattle.sync_world.proofs.ListLemmas.{got_none}
use Rattle.shared_board.specs.Apart.{IsApart}
use Rattle.shared_board.specs.Moving.{IsRefused}

module _ (schemas : WorldSchemas EditFault) (w : World) where
  -- an event by which nobody connects leaves as many queues
  queues_long : (queues : Queues) (e : Event) → IsApart e → length (queues_after schemas w queues e) ≡ length queues
  queues_long queues (event.Connect n readonly) apart = absurd apart
  queues_long queues (event.Send k) apart = elim (next_for schemas.room w.room k) as (λ o. length (option_map_or (λ (given : Given). with_out k given.out queues) o queues) ≡ length queues) [
    | None ↦ refl
    | Some given ↦ long-set queues k (queue_at k queues ++ given.out ∷ [])
  ]
  queues_long queues (event.Deliver n) apart = elim (slice_get w.clients n) as (λ o. length (option_map_or (λ (client : Client). option_map_or (λ k. without_first k queues) (session_of client.connection) queues) o queues) ≡ length queues) [
    | None ↦ refl
    | Some client ↦ elim (session_of client.connection) as (λ o. length (option_map_or (λ k. without_first k queues) o queues) ≡ length queues) [
      | None ↦ refl
      | Some k ↦ long-set queues k (drop 1 (queue_at k queues))
    ]
  ]
  queues_long queues other apart = refl

  -- and as many channels
  pub channels_stay : (code : code_of.World) → world_of.Stands schemas w code → (e : Event) → IsApart e → (made : Stepped) → after_event schemas false w e ≡ Ok made
      → length made.world.channels ≡ length w.channels
  channels_stay code stands e apart made is =
      let queues = to_client code.live.queues in
      let after = queues_go_on schemas w queues stands.keeps.reachable stands.keeps.given false e made is in
      sym after.long ∙ queues_long queues e apart ∙ stands.keeps.given.long

  module _ (reached : ReachableWorld schemas w) where
    -- there are fewer channels than a recording has place for
    below_limit : is_at_limit w ≡ false → length w.channels < MOST_RECORDED
    below_limit is =
        let few : nat_le MOST_RECORDED (length w.room.sessions) ≡ false = or_false_right (is_full w.room) (nat_le MOST_RECORDED (length w.room.sessions)) is in
        let same : length w.channels ≡ length w.room.sessions = (sessions_stand schemas w reached).channels in
        let less : length w.room.sessions < MOST_RECORDED = grind (arith, nat_tests) in
        omega (arith, same, less)

    -- a world has one channel more, and there was place for it
    abbrev Adds : World → Type 0
    Adds v = (length v.channels ≡ suc (length w.channels)) × (length w.channels < MOST_RECORDED)

    allowed : (n : ℕ) (readonly : Bool) (c : Client) (reason : Option EndReason) → Holds {F = EditFault} Adds (connect_if_allowed schemas n readonly w c reason)
    allowed n readonly c (Some reason) = tt
    allowed n readonly c None = elim (is_at_limit w) as (λ b. is_at_limit w ≡ b → Holds {F = EditFault} Adds (cond b (Err Limit) (happens [] (ask schemas n readonly w c)))) [
      | true ↦ λ is. tt
      | false ↦ λ is. (long-added w.channels _, below_limit is)
    ] refl

    connects : (n : ℕ) (readonly : Bool) → Holds {F = EditFault} Adds (on_connect schemas n readonly w)
    connects n readonly = from_option Adds _ (slice_get w.clients n) _ (λ none. tt) (λ c at. from_option Adds _ (session_of c.connection) _ (λ off. allowed n readonly c c.refused) (λ k is. tt))

    -- so has the world that a connect makes
    pub connect_adds : (n : ℕ) (readonly : Bool) (made : Stepped) → after_event schemas false w (event.Connect n readonly) ≡ Ok made
        → (length made.world.channels ≡ suc (length w.channels)) × (length w.channels < MOST_RECORDED)
    connect_adds n readonly made is = subst (Holds {F = EditFault} Adds) is (connects n readonly)

  module _ (k : ℕ) (past : length w.channels ≤ k) where
    past_session : (next : Channel → Outcome EditFault) → IsRefused (at_session k w next)
    past_session next = elim (session_at k w.room) as (λ o. IsRefused (option_map_or (λ (s : Session). at_channel k w next) o (Err NoSuchSession))) [
      | None ↦ (NoSuchSession, refl)
      | Some s ↦ subst (λ o. IsRefused (option_map_or next o (Err NoSuchSession))) (sym (got_none w.channels k past)) (NoSuchSession, refl)
    ]

    -- from the number of the channels on nothing is in flight to the room, and nothing is given out
    pub past_handle : IsRefused (after_event schemas false w (event.Handle k))
    past_handle = past_session _

    pub past_send : IsRefused (after_event schemas false w (event.Send k))
    past_send = past_session _
