use Rattle.field_ops.proofs.ComposeLemmas.{sound_raw}
use Rattle.field_ops.proofs.laws.raw_is_sound.Goals as goal

pub returns : goal.returns
returns c = sound_raw
