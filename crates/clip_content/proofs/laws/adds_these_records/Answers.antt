use Rattle.clip_content.proofs.AddLemmas.{adds}
use Rattle.clip_content.proofs.laws.adds_these_records.Goals as goal

pub returns : goal.returns
returns c = adds
