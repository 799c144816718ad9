-- What the end of a made recording says of its status.
use Rattle.std.proofs.Common.{◌≡◌, Err, refl, inl, inr}
use Rattle.replay_job.specs.Endings.{status_code}
use Rattle.make_job.specs.Outcomes.{IsMakeStatus}
use Rattle.replay_job.specs.declared.play.Stop.{Stop}
use Rattle.replay_job.specs.declared.play.Stop.TheVariants.{SourceFailed, SinkFailed, OutOfMemory}

pub make_stopped : (s : Stop) → (s ≡ SourceFailed → ⊥) → IsMakeStatus (status_code (Err s))
make_stopped SourceFailed sink = absurd (sink refl)
make_stopped SinkFailed sink = inr (inl refl)
make_stopped OutOfMemory sink = inr (inr refl)
