-- The diff for which a value stands, by the function that reads it.
use Rattle.std.proofs.Common.{◌≡◌, ℕ, List, Result, Err, refl, sym, ◌∙◌}
use Rattle.std.specs.Option.{ok_or}
use Rattle.rooms_val.specs.Data.{Data}
use Rattle.rooms_val.specs.declared.fault.OpFault.{OpFault}
use Rattle.rooms_val.specs.declared.fault.OpFault.TheVariants.{WrongKind, OutOfMemory}
use Rattle.field_ops.specs.RecordOps.{RecordOps, IsSoundDiff}
use Rattle.field_ops.specs.WireRecordOps.{diff_data}
use Rattle.field_ops.specs.Readings.{diff_of_data}
use Rattle.field_ops.proofs.ReadingLemmas.{diff_found}

not_memory : WrongKind ≡ OutOfMemory → ⊥
not_memory is = cc

pub diff_isnt : (d : Data) (fault : OpFault) → fault ≡ WrongKind → (¬ (fault ≡ OutOfMemory) → ok_or (diff_of_data d) WrongKind ≡ Err fault) → (diff : RecordOps) → IsSoundDiff diff → d ≡ diff_data diff → ⊥
diff_isnt d fault wrong refused diff sound same =
    let no = refused (λ memory. not_memory (sym wrong ∙ memory)) in
    let yes = diff_found d diff same sound in
    absurd (cc)
