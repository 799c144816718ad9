-- What a call of a board makes of the world for which the board stands.
use Rattle.std.specs.Prelude.{◌≡◌, ◌≢◌, ℕ, List, [], ◌∷◌, length, Bool, false, Option, None, Some, slice_get, Result, Ok, Err}
use Rattle.std.specs.Global.{Vec}
use Rattle.rooms_val.specs.declared.val.Val.{Val}
use Rattle.field_ops.specs.RecordOps.{RecordOps}
use Rattle.room_model.specs.Schemas.{WorldSchemas}
use Rattle.room_model.specs.Replicas.{Client}
use Rattle.room_model.specs.Worlds as model
use Rattle.room_model.specs.Worlds.{Outcome, Stepped, map_val, shown_in, after_event}
use Rattle.room_model.specs.declared.event.Event.{Event}
use Rattle.room_model.specs.declared.event.Event.TheVariants as event
use Rattle.room_model.specs.declared.fault.StepFault.{StepFault}
use Rattle.room_model.specs.declared.line.OutLine.{OutLine}
use Rattle.room_model.specs.declared.line.OutLine.TheVariants as line
use Rattle.side_effects.specs.declared.fault.EditFault.{EditFault}
use Rattle.shared_board.specs.declared.board.Board.{Board}
use Rattle.shared_board.specs.declared.board.ClientId.{ClientId}
use Rattle.shared_board.specs.declared.fault.BoardFault.{BoardFault}
use Rattle.shared_board.specs.declared.fault.BoardFault.TheVariants.{NotAnEdit, NoSuchClient, OutOfMemory}
use Rattle.shared_board.specs.Faults.{fault_of}
use Rattle.shared_board.specs.Standing.{Stands}

-- the definitions refuse an event, and this is the fault for the cause
abbrev pub IsRefusal : BoardFault → Outcome EditFault → Type 0
IsRefusal fault outcome = (why : StepFault EditFault) × (outcome ≡ Err why) × (fault ≡ fault_of why)

-- an event happens: the board stands for the world that the event makes, and the answer is one to what the event prints. Or the event is
-- refused for its fault, and the board stands for the world as it was. Where memory ran out nothing is said
abbrev pub Answers : {T : Type 0} → (T → List OutLine → Type 0) → WorldSchemas EditFault → model.World → Event → Result T BoardFault → Board → Type 0
Answers Is schemas state e (Ok answer) board = (made : Stepped) × (after_event schemas false state e ≡ Ok made) × Is answer made.lines × Stands schemas made.world board
Answers Is schemas state e (Err fault) board = fault ≢ OutOfMemory → IsRefusal fault (after_event schemas false state e) × Stands schemas state board

-- the same where the call returns nothing else
abbrev pub Happens : WorldSchemas EditFault → model.World → Event → Result (Unit {0}) BoardFault → Board → Type 0
Happens schemas state e answer board = Answers {T = Unit {0}} (λ done lines. Unit {0}) schemas state e answer board

-- the lines are those that are printed
abbrev pub AreLines : Vec OutLine → List OutLine → Type 0
AreLines lines printed = lines.items ≡ printed

-- a client that joins is named by the next number
abbrev pub IsNext : model.World → ClientId → List OutLine → Type 0
IsNext state client printed = client.number ≡ length state.clients

-- whether a line says that something was taken back, or done again
abbrev pub is_done : OutLine → Bool
is_done (line.Undo client done) = done
is_done (line.Redo client done) = done
is_done other = false

-- whether the first line does
abbrev pub done_in : List OutLine → Bool
done_in [] = false
done_in (l ∷ lines) = is_done l

-- the answer says so
abbrev pub IsDone : Bool → List OutLine → Type 0
IsDone done printed = done ≡ done_in printed

-- the same where the answer says whether something was done
abbrev pub HappensIf : WorldSchemas EditFault → model.World → Event → Result Bool BoardFault → Board → Type 0
HappensIf schemas state e answer board = Answers IsDone schemas state e answer board

-- an edit by a diff happens; where there is no diff, it is refused, and the board stands for the world as it was
abbrev pub Edits : WorldSchemas EditFault → model.World → ℕ → Option RecordOps → Result (Unit {0}) BoardFault → Board → Type 0
Edits schemas state number (Some diff) answer board = Happens schemas state (event.Edit number diff) answer board
Edits schemas state number None (Ok answer) board = ⊥
Edits schemas state number None (Err fault) board = fault ≢ OutOfMemory → (fault ≡ NotAnEdit) × Stands schemas state board

-- the answer is one of a client; or there is no client of the number
abbrev pub Tells : {T : Type 0} → (Client → T → Type 0) → model.World → ℕ → Result T BoardFault → Type 0
Tells Is state number (Ok answer) = (one : Client) × (slice_get state.clients number ≡ Some one) × Is one answer
Tells Is state number (Err fault) = fault ≢ OutOfMemory → (fault ≡ NoSuchClient) × (slice_get state.clients number ≡ None)

-- a value is what a client shows
abbrev pub IsShown : WorldSchemas EditFault → model.World → Client → Val → Type 0
IsShown schemas state one val = val ≡ map_val (shown_in schemas state one)

-- so much is pending
abbrev pub IsOwed : Client → ℕ → Type 0
IsOwed one owed = owed ≡ length one.pending
