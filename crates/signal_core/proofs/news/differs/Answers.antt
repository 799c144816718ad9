use Rattle.signal_core.proofs.GotLemmas.{got_one}
use Rattle.signal_core.proofs.news.differs.Goals as goal

pub returns-in_err-value-clause-got : goal.returns-in_err-value-clause-got
returns-in_err-value-clause-got g c = got_one (g.R.Rules.meaning c.args.values.now.rules) g.R.Key.Ord.cmp g.met.R.Rules.same_keys c.args.values.now c.get.follows.lender-at-none c.get.follows.holds-at-none.0

pub returns-clause-got : goal.returns-clause-got
returns-clause-got g c = got_one (g.R.Rules.meaning c.args.values.now.rules) g.R.Key.Ord.cmp g.met.R.Rules.same_keys c.args.values.now c.get.follows.lender-at-none c.get.follows.holds-at-none.0
