use Rattle.std.proofs.Common.{drop}
use Rattle.clip_content.proofs.KeptLemmas.{IsAgain}
use Rattle.clip_content.proofs.copying.first_again.Given as goal

abbrev pub invariant-ids : goal.invariant-ids
invariant-ids l = IsAgain l.ids (drop l.id-index l.ids) l.before
