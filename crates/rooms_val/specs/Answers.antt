-- Results that may be out of memory, which no clause ties to a cause.
use Rattle.std.specs.Prelude.{◌≡◌, Result, Ok, Err}
use Rattle.rooms_val.specs.declared.fault.OpFault.{OpFault}
use Rattle.rooms_val.specs.declared.fault.OpFault.TheVariants as op_fault

-- the answer is the defined one, seen by view, unless memory ran out
abbrev pub Gives : {T D E : Type 0} → E → (T → D) → Result T E → Result D E → Type 0
Gives memory view (Ok x) defined = defined ≡ Ok (view x)
Gives memory view (Err e) defined = ¬ (e ≡ memory) → defined ≡ Err e

-- what is read is refused by this fault, for a cause that holds: it stands for nothing, or memory was refused
abbrev pub Refuses : Type 0 → OpFault → Type 0
Refuses nothing op_fault.WrongKind = nothing
Refuses nothing op_fault.OutOfMemory = Unit {0}
