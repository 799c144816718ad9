-- What `?` passes on of a refusal.
use Rattle.std.proofs.Common.{◌≡◌, Result, Ok, Err, IfErr, IsErrAnd, subst, sym}
use Rattle.rooms_val.specs.declared.fault.OpFault.{OpFault}
use Rattle.rooms_val.specs.declared.fault.OpFault.TheVariants as op_fault
use Rattle.rooms_val.specs.Answers.{Refuses}
use Rattle.rec_format.specs.Faults.{fault_of_op}
use Rattle.rec_format.specs.Rows.{RefusesRow}
use Rattle.rec_format.specs.declared.fault.LineFault.{LineFault}
use Rattle.rec_format.specs.declared.fault.LineFault.TheVariants.{LineTooLong, Val, NoHeader, UnknownEvent, Field, OutOfMemory}

-- where a field is ill-formed, the row is refused for what the field shows
pub ill_formed : {T P : Type 0} (r : Result T LineFault) → IsErrAnd r (λ e. e ≡ Field) → P → IfErr r (RefusesRow P)
ill_formed (Ok x) is p = tt
ill_formed {P} (Err e) is p = subst (RefusesRow P) (sym is) p

-- what refuses a part refuses the whole
pub refuses_more : {P Q : Type 0} (e : LineFault) → (P → Q) → RefusesRow P e → RefusesRow Q e
refuses_more LineTooLong so p = p
refuses_more (Val f) so p = p
refuses_more NoHeader so p = p
refuses_more UnknownEvent so p = p
refuses_more Field so p = so p
refuses_more OutOfMemory so p = p

pub passed_on : {T P Q : Type 0} (r : Result T LineFault) (e : LineFault) → IsErrAnd r (λ f. f ≡ e) → (P → Q) → RefusesRow P e → IfErr r (RefusesRow Q)
passed_on (Ok x) e is so p = tt
passed_on {Q} (Err f) e is so p = subst (RefusesRow Q) (sym is) (refuses_more e so p)

-- what refuses the value of a field refuses the row
pub of_value : {T P Q : Type 0} (r : Result T LineFault) (e : OpFault) → IsErrAnd r (λ f. f ≡ fault_of_op e) → (P → Q) → Refuses P e → IfErr r (RefusesRow Q)
of_value (Ok x) e is so p = tt
of_value {Q} (Err f) op_fault.WrongKind is so p = subst (RefusesRow Q) (sym is) (so p)
of_value {Q} (Err f) op_fault.OutOfMemory is so p = subst (RefusesRow Q) (sym is) p
