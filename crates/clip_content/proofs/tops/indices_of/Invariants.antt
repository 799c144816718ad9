use Rattle.std.proofs.Common.{◌≡◌, drop}
use Rattle.index_keys.specs.Answers.{texts}
use Rattle.clip_content.specs.Pasted.{indices_of}
use Rattle.clip_content.proofs.StandLemmas.{indices_on}
use Rattle.clip_content.proofs.tops.indices_of.Given as goal

abbrev pub invariant-ids : goal.invariant-ids
invariant-ids l =
    (indices_on l.indices (drop l.id-index l.ids) (texts (drop l.place l.keys)) ≡ indices_of l.ids (texts l.keys)) × (l.place ≡ l.id-index)
