use Rattle.std.proofs.Common.{◌≡◌}
use Rattle.signal_core.specs.Due.{AreFreshIn}
use Rattle.signal_core.proofs.NewsLemmas.{IsRound}
use Rattle.signal_core.proofs.news.find_news.Given as goal

abbrev pub invariant-watches : goal.invariant-watches
invariant-watches g l = record {
  round : IsRound g.R.Rules.meaning g.R.Key.Ord.cmp l.fn.values l.watches l.values l.news l.slot-index;
  free : AreFreshIn l.watches l.fn.values → l.steps ≡ l.fn.steps;
}
