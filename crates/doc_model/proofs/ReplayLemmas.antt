-- That a further diff is replayed last.
use Rattle.std.proofs.Common.{◌≡◌, ℕ, List, [], ◌∷◌, ◌++◌, Bool, refl}
use Rattle.rooms_val.specs.Data.{Data, Pairs}
use Rattle.field_ops.specs.RecordOps.{RecordOps}
use Rattle.doc_model.specs.Documents.{step, replay}

-- a further diff is replayed last
pub replay-push : (admits : List ℕ → Data → Bool) (document : Pairs) (diffs : List RecordOps) (diff : RecordOps) → replay admits document (diffs ++ diff ∷ []) ≡ step admits (replay admits document diffs) diff
replay-push admits document [] diff = refl
replay-push admits document (first ∷ diffs) diff = replay-push admits (step admits document first) diffs diff
