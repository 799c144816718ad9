use Rattle.std.proofs.Common.{◌≡◌, drop}
use Rattle.clip_content.specs.Copied.{first_missing}
use Rattle.clip_content.proofs.copying.first_missing.Given as goal

abbrev pub invariant-ids : goal.invariant-ids
invariant-ids l = first_missing l.records (drop l.id-index l.ids) ≡ first_missing l.records l.ids
