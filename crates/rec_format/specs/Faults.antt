-- The fault of a line where its value or a field of it is refused.
use Rattle.rooms_val.specs.declared.fault.ValFault.{ValFault}
use Rattle.rooms_val.specs.declared.fault.ValFault.TheVariants as val_fault
use Rattle.rooms_val.specs.declared.fault.OpFault.{OpFault}
use Rattle.rooms_val.specs.declared.fault.OpFault.TheVariants as op_fault
use Rattle.rec_format.specs.declared.fault.LineFault.{LineFault}
use Rattle.rec_format.specs.declared.fault.LineFault.TheVariants as line_fault

-- the fault of a line that is no value
abbrev pub fault_of_val : ValFault → LineFault
fault_of_val val_fault.OutOfMemory = line_fault.OutOfMemory
fault_of_val val_fault.BadJson = line_fault.Val val_fault.BadJson
fault_of_val val_fault.NotWhole = line_fault.Val val_fault.NotWhole
fault_of_val val_fault.OutOfRange = line_fault.Val val_fault.OutOfRange
fault_of_val val_fault.TooDeep = line_fault.Val val_fault.TooDeep

-- the fault of a line of which a field isn't read
abbrev pub fault_of_op : OpFault → LineFault
fault_of_op op_fault.WrongKind = line_fault.Field
fault_of_op op_fault.OutOfMemory = line_fault.OutOfMemory
