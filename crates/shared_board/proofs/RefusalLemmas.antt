-- A refusal but for want of memory leaves a board as it was.
use Rattle.std.proofs.Common.{◌≡◌, ◌≢◌, Err, refl, ap, ◌∙◌}
use Rattle.room_model.specs.Schemas.{WorldSchemas}
use Rattle.room_model.specs.Worlds as model
use Rattle.room_model.specs.Worlds.{Outcome}
use Rattle.room_model.specs.declared.fault.StepFault.{StepFault}
use Rattle.room_model.specs.declared.fault.StepFault.TheVariants as step_fault
use Rattle.side_effects.specs.declared.fault.EditFault.{EditFault}
use Rattle.sync_world.specs.Answers.{Faults}
use Rattle.sync_world.specs.Standing as world_of
use Rattle.sync_world.specs.declared.world.World.{World}
use Rattle.shared_board.specs.Calls.{IsRefusal}
use Rattle.shared_board.specs.Faults.{fault_of}
use Rattle.shared_board.specs.Standing.{Stands}
use Rattle.shared_board.specs.declared.board.Board.{Board}
use Rattle.shared_board.specs.declared.fault.BoardFault.{BoardFault}
use Rattle.shared_board.specs.declared.fault.BoardFault.TheVariants as board_fault

module _ (schemas : WorldSchemas EditFault) (state : model.World) (outcome : Outcome EditFault) where
  -- so it does a world
  pub world_stays : (cause : StepFault EditFault) (code : World) → cause ≢ step_fault.OutOfMemory → Faults schemas state outcome cause code
      → (outcome ≡ Err cause) × world_of.Stands schemas state code
  world_stays step_fault.NoSuchClient code other faults = faults
  world_stays step_fault.NoSuchSession code other faults = faults
  world_stays step_fault.NothingThere code other faults = faults
  world_stays (step_fault.Edit fault) code other faults = faults
  world_stays (step_fault.Connect fault) code other faults = faults
  world_stays step_fault.NoMark code other faults = faults
  world_stays step_fault.Limit code other faults = faults
  world_stays (step_fault.Clip fault) code other faults = faults
  world_stays step_fault.NoClip code other faults = faults
  world_stays (step_fault.Paste fault) code other faults = faults
  world_stays step_fault.OutOfMemory code other faults = absurd (other refl)

  -- and the board's fault is that for the cause
  pub refused : (cause : StepFault EditFault) (fault : BoardFault) (board : Board) (code : World) → fault ≡ fault_of cause → fault ≢ board_fault.OutOfMemory
      → Stands schemas state board → Faults schemas state outcome cause code
      → IsRefusal fault outcome × Stands schemas state (record board { world = code })
  refused cause fault board code same other stands faults =
      let stays = world_stays cause code (λ is. other (same ∙ ap fault_of is)) faults in
      ((cause, stays.0, same), record { world = stays.1; entered = stands.entered })
