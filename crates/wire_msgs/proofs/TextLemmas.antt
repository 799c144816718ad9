-- What a text that is read as a value is refused for, and how deep it may be.
use Rattle.std.proofs.Common.{◌≡◌, ℕ, nat_le, true, Result, Ok, Err, IfErr, refl, ap, ◌∙◌}
use Rattle.rooms_val.specs.Data.{Data, depth}
use Rattle.rooms_val.specs.declared.fault.ValFault.{ValFault}
use Rattle.wire_msgs.specs.Readings.{no_deeper, RefusesText, RefusesClientVal, RefusesServerVal}
use Rattle.wire_msgs.specs.declared.fault.MsgFault.{MsgFault}
use Rattle.wire_msgs.specs.declared.fault.MsgFault.TheVariants as fault

-- a value that isn't too deep is what the text is read as
pub shallow_read : (levels : ℕ) (read : Result Data ValFault) (d : Data) → read ≡ Ok d → nat_le (depth d) levels ≡ true → no_deeper levels read ≡ Ok d
shallow_read levels read d is within = ap (no_deeper levels) is ∙ rw within refl

-- what refuses the value refuses the text
pub client_text : {T : Type 0} (r : Result T MsgFault) (read : Result Data ValFault) (d : Data) → read ≡ Ok d → IfErr r (RefusesClientVal d) → IfErr r (RefusesText RefusesClientVal read)
client_text (Ok x) read d is why = tt
client_text (Err (fault.Val f)) read d is why = absurd why
client_text (Err fault.UnknownType) read d is why = (d, is, why)
client_text (Err fault.MissingField) read d is why = (d, is, why)
client_text (Err fault.ExtraField) read d is why = (d, is, why)
client_text (Err fault.WrongKind) read d is why = (d, is, why)
client_text (Err fault.OutOfMemory) read d is why = tt

pub server_text : {T : Type 0} (r : Result T MsgFault) (read : Result Data ValFault) (d : Data) → read ≡ Ok d → IfErr r (RefusesServerVal d) → IfErr r (RefusesText RefusesServerVal read)
server_text (Ok x) read d is why = tt
server_text (Err (fault.Val f)) read d is why = absurd why
server_text (Err fault.UnknownType) read d is why = (d, is, why)
server_text (Err fault.MissingField) read d is why = (d, is, why)
server_text (Err fault.ExtraField) read d is why = (d, is, why)
server_text (Err fault.WrongKind) read d is why = (d, is, why)
server_text (Err fault.OutOfMemory) read d is why = tt
