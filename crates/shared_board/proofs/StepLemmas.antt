-- A board stands for the world that an event makes.
use Rattle.std.proofs.Common.{◌≡◌, ℕ, suc, ◌<◌, ◌≤◌, nat_le, true, false, cond, Bool, [], ◌∷◌, ◌++◌, length, Ok, Err, sym, ap, subst, ◌∙◌, arith}
use Rattle.std.specs.Prelude.{vec_len}
use Rattle.std.proofs.lemmas.Bool.Decides.{nat_tests}
use Rattle.room_model.specs.Schemas.{WorldSchemas}
use Rattle.room_model.specs.Replicas.{new_client}
use Rattle.room_model.specs.Worlds as model
use Rattle.room_model.specs.Worlds.{Stepped, after_event, happens}
use Rattle.room_model.specs.declared.event.Event.{Event}
use Rattle.room_model.specs.declared.event.Event.TheVariants as event
use Rattle.room_model.specs.declared.fault.StepFault.TheVariants as step_fault
use Rattle.room_model.specs.declared.limits.TheConstants.{MOST_CLIENTS, MOST_RECORDED}
use Rattle.side_effects.specs.declared.fault.EditFault.{EditFault}
use Rattle.sync_world.specs.Standing as world_of
use Rattle.sync_world.specs.declared.world.World.{World}
use Rattle.shared_board.specs.Apart.{IsApart}
use Rattle.shared_board.specs.Standing.{Stands}
use Rattle.shared_board.specs.declared.board.Board.{Board}
use Rattle.shared_board.proofs.ChannelLemmas.{channels_stay, connect_adds}

module _ (schemas : WorldSchemas EditFault) (state : model.World) (board : Board) (stands : Stands schemas state board) where
  -- of an event by which nobody connects
  pub stands_after : (e : Event) (made : Stepped) (code : World) → IsApart e → after_event schemas false state e ≡ Ok made → world_of.Stands schemas made.world code
      → Stands schemas made.world (record board { world = code })
  stands_after e made code apart is after = record {
    world = after;
    entered = stands.entered ∙ sym (channels_stay schemas state board.world stands.world e apart made is);
  }

  -- and of a connect, which is counted
  pub stands_connected : (n : ℕ) (readonly : Bool) (made : Stepped) (code : World) (entered : ℕ) → after_event schemas false state (event.Connect n readonly) ≡ Ok made
      → world_of.Stands schemas made.world code → (board.entered < MOST_RECORDED → entered ≡ suc board.entered)
      → Stands schemas made.world (record board { world = code; entered = entered })
  stands_connected n readonly made code entered is after counts =
      let adds = connect_adds schemas state stands.world.keeps.reachable n readonly made is in
      record {
        world = after;
        entered = counts (subst (λ m. m < MOST_RECORDED) (sym stands.entered) adds.1) ∙ ap suc stands.entered ∙ sym adds.0;
      }

  -- there are as many clients as are kept
  pub many_clients : vec_len board.world.live.clients ≡ length state.clients
  many_clients =
      let is = board.world.live.clients.ok.0 in
      let long = stands.world.keeps.fits.clients.long in
      omega arith

  -- where there is no place for a further client none joins
  pub join_full : (version : ℕ) → MOST_CLIENTS ≤ vec_len board.world.live.clients → after_event schemas false state (event.Client version) ≡ Err step_fault.Limit
  join_full version full =
      let long : MOST_CLIENTS ≤ length state.clients = subst (λ n. MOST_CLIENTS ≤ n) many_clients full in
      let is : nat_le MOST_CLIENTS (length state.clients) ≡ true = grind (arith, nat_tests) in
      ap (λ b. cond b (Err step_fault.Limit) (happens {F = EditFault} [] (record state { clients = state.clients ++ new_client version ∷ [] }))) is
