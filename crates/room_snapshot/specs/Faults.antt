-- The fault of a line whose value or a field of it is refused.
use Rattle.rooms_val.specs.declared.fault.ValFault.{ValFault}
use Rattle.rooms_val.specs.declared.fault.ValFault.TheVariants as val_fault
use Rattle.rooms_val.specs.declared.fault.OpFault.{OpFault}
use Rattle.rooms_val.specs.declared.fault.OpFault.TheVariants as op_fault
use Rattle.room_snapshot.specs.declared.fault.SnapFault.{SnapFault}
use Rattle.room_snapshot.specs.declared.fault.SnapFault.TheVariants as snap_fault

-- the fault of a line that is no value
abbrev pub fault_of_val : ValFault → SnapFault
fault_of_val val_fault.OutOfMemory = snap_fault.OutOfMemory
fault_of_val val_fault.BadJson = snap_fault.Val val_fault.BadJson
fault_of_val val_fault.NotWhole = snap_fault.Val val_fault.NotWhole
fault_of_val val_fault.OutOfRange = snap_fault.Val val_fault.OutOfRange
fault_of_val val_fault.TooDeep = snap_fault.Val val_fault.TooDeep

-- the fault of a line of which a part isn't read
abbrev pub fault_of_op : OpFault → SnapFault
fault_of_op op_fault.WrongKind = snap_fault.Shape
fault_of_op op_fault.OutOfMemory = snap_fault.OutOfMemory
