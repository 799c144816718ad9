-- The fault of a board by which an event is refused.
use Rattle.room_model.specs.declared.fault.StepFault.{StepFault}
use Rattle.room_model.specs.declared.fault.StepFault.TheVariants as step_fault
use Rattle.side_effects.specs.declared.fault.EditFault.{EditFault}
use Rattle.shared_board.specs.declared.fault.BoardFault.{BoardFault}
use Rattle.shared_board.specs.declared.fault.BoardFault.TheVariants as board_fault

-- each cause has its fault
abbrev pub fault_of : StepFault EditFault → BoardFault
fault_of step_fault.NoSuchClient = board_fault.NoSuchClient
fault_of step_fault.NoSuchSession = board_fault.NotConnected
fault_of step_fault.NothingThere = board_fault.NothingThere
fault_of (step_fault.Edit fault) = board_fault.Edit fault
fault_of (step_fault.Connect fault) = board_fault.Connect fault
fault_of step_fault.NoMark = board_fault.NoMark
fault_of step_fault.Limit = board_fault.Limit
fault_of (step_fault.Clip fault) = board_fault.Clip fault
fault_of step_fault.NoClip = board_fault.NoClip
fault_of (step_fault.Paste fault) = board_fault.Paste fault
fault_of step_fault.OutOfMemory = board_fault.OutOfMemory
