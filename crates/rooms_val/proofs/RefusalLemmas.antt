-- What `?` passes on of a refusal.
use Rattle.std.proofs.Common.{◌≡◌, Result, Ok, Err, IfErr, IsErrAnd, subst, sym}
use Rattle.rooms_val.specs.declared.fault.OpFault.{OpFault}
use Rattle.rooms_val.specs.declared.fault.OpFault.TheVariants.{WrongKind, OutOfMemory}
use Rattle.rooms_val.specs.Answers.{Refuses}

for_cause : {P : Type 0} (e : OpFault) → P → Refuses P e
for_cause WrongKind p = p
for_cause OutOfMemory p = tt

-- where a value stands for nothing, each fault refuses it for a cause
pub refused_for : {T P : Type 0} (r : Result T OpFault) → P → IfErr r (Refuses P)
refused_for (Ok x) p = tt
refused_for (Err e) p = for_cause e p

-- what refuses a part refuses the whole
pub refuses_more : {P Q : Type 0} (e : OpFault) → (P → Q) → Refuses P e → Refuses Q e
refuses_more WrongKind so p = so p
refuses_more OutOfMemory so p = p

pub passed_on : {T P Q : Type 0} (r : Result T OpFault) (e : OpFault) → IsErrAnd r (λ f. f ≡ e) → (P → Q) → Refuses P e → IfErr r (Refuses Q)
passed_on (Ok x) e is so p = tt
passed_on {Q} (Err f) e is so p = subst (Refuses Q) (sym is) (refuses_more e so p)

-- the same of an answer that is handed on as it is
pub handed_on : {T P Q : Type 0} (r : Result T OpFault) → (P → Q) → IfErr r (Refuses P) → IfErr r (Refuses Q)
handed_on (Ok x) so p = tt
handed_on (Err e) so p = refuses_more e so p
