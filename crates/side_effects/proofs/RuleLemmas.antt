-- Rules asked of one operation after another.
use Rattle.std.proofs.Common.{◌≡◌, ℕ, List, ◌∷◌, Option, Some, None, Result, Ok, Err, refl, sym, ap, ◌∙◌}
use Rattle.std.specs.Option.{option_map_or}
use Rattle.field_ops.specs.RecordOps.{RecordOpTree, RecordOps}
use Rattle.side_effects.specs.Completed.{first_refusal, refusal}
use Rattle.side_effects.specs.declared.fault.EditFault.{EditFault}
use Rattle.side_effects.specs.declared.fault.EditFault.TheVariants.{OutOfMemory}

fault_of : (o : Option EditFault) (e : EditFault) → refusal o ≡ Err e → o ≡ Some e
fault_of None e is = absurd (let no : ◌≡◌ {A = Result (Unit {0}) EditFault} (Ok tt) (Err e) = is in (cc))
fault_of (Some f) e is = let same : ◌≡◌ {A = Result (Unit {0}) EditFault} (Err f) (Err e) = is in cc

-- the first operation that is left is refused, and so is the diff
pub refused_at : (rule : List ℕ → RecordOpTree → Option EditFault) (all left : RecordOps) (c : List ℕ × RecordOpTree) (rest : RecordOps) (e : EditFault) → left ≡ c ∷ rest
    → first_refusal rule left ≡ first_refusal rule all → (¬ (e ≡ OutOfMemory) → refusal (rule c.0 c.1) ≡ Err e) → ¬ (e ≡ OutOfMemory) → refusal (first_refusal rule all) ≡ Err e
refused_at rule all left c rest e is same given other =
    ap refusal (sym same ∙ ap (first_refusal rule) is ∙ ap (λ o. option_map_or (λ f. Some f) o (first_refusal rule rest)) (fault_of (rule c.0 c.1) e (given other)))

none_of : (o : Option EditFault) → refusal o ≡ Ok tt → o ≡ None
none_of None is = refl
none_of (Some f) is = absurd (let no : ◌≡◌ {A = Result (Unit {0}) EditFault} (Err f) (Ok tt) = is in (cc))

-- the first operation that is left passes, and those after it decide
pub passed_at : (rule : List ℕ → RecordOpTree → Option EditFault) (all left : RecordOps) (c : List ℕ × RecordOpTree) (rest : RecordOps) → left ≡ c ∷ rest
    → first_refusal rule left ≡ first_refusal rule all → refusal (rule c.0 c.1) ≡ Ok tt → first_refusal rule rest ≡ first_refusal rule all
passed_at rule all left c rest is same given =
    ap (λ o. option_map_or (λ f. Some f) o (first_refusal rule rest)) (sym (none_of (rule c.0 c.1) given)) ∙ ap (first_refusal rule) (sym is) ∙ same
