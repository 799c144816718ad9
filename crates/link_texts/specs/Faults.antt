-- Why a text isn't taken, where a piece or a message isn't.
use Rattle.link_texts.specs.declared.fault.Unheard.{Unheard}
use Rattle.link_texts.specs.declared.fault.Unheard.TheVariants.{Refused, OutOfMemory}
use Rattle.link_texts.specs.declared.fault.WireFault.TheVariants.{Piece, Message}
use Rattle.wire_msgs.specs.declared.fault.MsgFault.{MsgFault}
use Rattle.wire_msgs.specs.declared.fault.MsgFault.TheVariants as msg_fault
use Rattle.wire_text.specs.declared.fault.PieceFault.{PieceFault}
use Rattle.wire_text.specs.declared.fault.PieceFault.TheVariants as piece_fault

-- a piece that isn't taken is refused, unless memory was
abbrev pub fault_of_piece : PieceFault → Unheard
fault_of_piece piece_fault.OutOfMemory = OutOfMemory
fault_of_piece fault = Refused (Piece fault)

-- the same of a message
abbrev pub fault_of_message : MsgFault → Unheard
fault_of_message msg_fault.OutOfMemory = OutOfMemory
fault_of_message fault = Refused (Message fault)
