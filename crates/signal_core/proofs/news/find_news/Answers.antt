use Rattle.std.proofs.Common.{None, refl, sym, ◌∙◌}
use Rattle.signal_core.proofs.GotLemmas.{got_then}
use Rattle.signal_core.proofs.NewsLemmas.{at_any, round_none, round_more, round_news, round_fresh, round_free}
use Rattle.signal_core.proofs.news.find_news.Goals as goal

pub watches-init : goal.watches-init
watches-init g c = record {
  round = round_none g.R.Rules.meaning g.R.Key.Ord.cmp c.args.values.now c.args.watches.now (record { due = c.new.result; told = c.new-2.result }) c.new-2.ensures.items c.new.ensures.items;
  free = λ h. refl;
}

pub returns-in_err-add_news-clause-got : goal.returns-in_err-add_news-clause-got
returns-in_err-add_news-clause-got g c = got_then g.R.Rules.meaning g.R.Key.Ord.cmp c.args.values.now c.watches.values c.add_news.new.values c.watches.invariant.round.got c.add_news.ensures.got

pub returns-in_err-add_news-clause-free : goal.returns-in_err-add_news-clause-free
returns-in_err-add_news-clause-free g c = λ h. c.add_news.ensures.free (round_free g.R.Rules.meaning g.R.Key.Ord.cmp c.args.values.now c.args.watches.now c.watches.values c.watches.news c.watches.slot-index c.slot-item.result (at_any c.args.watches.now c.watches.slot-index None c.slot-item.result c.watches-test.true ∙ sym c.slot-item.is) c.watches.invariant.round h) ∙ c.watches.invariant.free h

pub watches-preserved : goal.watches-preserved
watches-preserved g c = record {
  round = round_more g.R.Rules.meaning g.R.Key.Ord.cmp c.args.values.now c.args.watches.now c.watches.values c.add_news.new.values c.watches.news c.add_news.new.news c.watches.slot-index c.slot-item.result (at_any c.args.watches.now c.watches.slot-index None c.slot-item.result c.watches-test.true ∙ sym c.slot-item.is) c.watches.invariant.round c.add_news.ensures.got c.in_ok-add_news.ensures.ok c.in_ok-add_news.ensures.fresh;
  free = λ h. c.add_news.ensures.free (round_free g.R.Rules.meaning g.R.Key.Ord.cmp c.args.values.now c.args.watches.now c.watches.values c.watches.news c.watches.slot-index c.slot-item.result (at_any c.args.watches.now c.watches.slot-index None c.slot-item.result c.watches-test.true ∙ sym c.slot-item.is) c.watches.invariant.round h) ∙ c.watches.invariant.free h;
}

pub returns-clause-news : goal.returns-clause-news
returns-clause-news g c = round_news g.R.Rules.meaning g.R.Key.Ord.cmp c.args.values.now c.args.watches.now c.watches.values c.watches.news c.watches.slot-index c.watches-test.false c.watches.invariant.round

pub returns-clause-fresh : goal.returns-clause-fresh
returns-clause-fresh g c = round_fresh g.R.Rules.meaning g.R.Key.Ord.cmp c.args.values.now c.args.watches.now c.watches.values c.watches.news c.watches.slot-index c.watches-test.false c.watches.invariant.round
