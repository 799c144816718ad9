-- The fault of a message whose value or a field of it is refused.
use Rattle.rooms_val.specs.declared.fault.ValFault.{ValFault}
use Rattle.rooms_val.specs.declared.fault.ValFault.TheVariants as val_fault
use Rattle.rooms_val.specs.declared.fault.OpFault.{OpFault}
use Rattle.rooms_val.specs.declared.fault.OpFault.TheVariants as op_fault
use Rattle.wire_msgs.specs.declared.fault.MsgFault.{MsgFault}
use Rattle.wire_msgs.specs.declared.fault.MsgFault.TheVariants as msg_fault

-- the fault of a message that is no value
abbrev pub fault_of_val : ValFault → MsgFault
fault_of_val val_fault.OutOfMemory = msg_fault.OutOfMemory
fault_of_val val_fault.BadJson = msg_fault.Val val_fault.BadJson
fault_of_val val_fault.NotWhole = msg_fault.Val val_fault.NotWhole
fault_of_val val_fault.OutOfRange = msg_fault.Val val_fault.OutOfRange
fault_of_val val_fault.TooDeep = msg_fault.Val val_fault.TooDeep

-- the fault of a message of which a field isn't read
abbrev pub fault_of_op : OpFault → MsgFault
fault_of_op op_fault.WrongKind = msg_fault.WrongKind
fault_of_op op_fault.OutOfMemory = msg_fault.OutOfMemory
