use Rattle.signal_core.proofs.NewsLemmas.{IsTelling}
use Rattle.signal_core.proofs.news.tell_all.Given as goal

abbrev pub invariant-news : goal.invariant-news
invariant-news g l = IsTelling l.fn.watches l.fn.news.items l.watches l.news.items

abbrev pub decreases-news : goal.decreases-news
decreases-news g l = goal.left-news g l
