use Rattle.side_effects.proofs.GoesLemmas.{removed_goes, hung_goes, goes_within}
use Rattle.side_effects.proofs.laws.takes_the_least_set.Goals as goal

pub returns : goal.returns
returns c = λ m diff. record {
  closed = record { ends = removed_goes m diff; below = hung_goes m diff };
  least = goes_within m diff;
}
