-- What is answered to an edit by a text.
use Rattle.std.proofs.Common.{◌≡◌, ◌≢◌, ℕ, Option, Some, None, Result, Ok, Err, sym, subst}
use Rattle.std.specs.Option.{ok_or}
use Rattle.field_ops.specs.RecordOps.{RecordOps}
use Rattle.room_model.specs.Schemas.{WorldSchemas}
use Rattle.room_model.specs.Worlds as model
use Rattle.room_model.specs.declared.event.Event.TheVariants as event
use Rattle.side_effects.specs.declared.fault.EditFault.{EditFault}
use Rattle.shared_board.specs.Calls.{Happens, Edits}
use Rattle.shared_board.specs.Standing.{Stands}
use Rattle.shared_board.specs.declared.board.Board.{Board}
use Rattle.shared_board.specs.declared.fault.BoardFault.{BoardFault}
use Rattle.shared_board.specs.declared.fault.BoardFault.TheVariants.{NotAnEdit, OutOfMemory}

module _ (schemas : WorldSchemas EditFault) (state : model.World) (n : ℕ) (board : Board) where
  -- what was read is the edit
  pub edits : (o : Option RecordOps) (diff : RecordOps) (answer : Result (Unit {0}) BoardFault) → ok_or o NotAnEdit ≡ Ok diff → Happens schemas state (event.Edit n diff) answer board
      → Edits schemas state n o answer board
  edits None diff answer is happens = absurd (cc)
  edits (Some d) diff answer is happens = let same : d ≡ diff = cc in subst (λ e. Happens schemas state (event.Edit n e) answer board) (sym same) happens

  -- where nothing was read, there is none
  pub unread : (o : Option RecordOps) (fault : BoardFault) → (fault ≢ OutOfMemory → ok_or o NotAnEdit ≡ Err fault) → Stands schemas state board → Edits schemas state n o (Err fault) board
  unread None fault is stands = λ other. let same : fault ≡ NotAnEdit = let h = is other in cc in (same, stands)
  unread (Some d) fault is stands = λ other. absurd (let h = is other in cc)
