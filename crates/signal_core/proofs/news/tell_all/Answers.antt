use Rattle.std.proofs.Common.{arith}
use Rattle.signal_core.proofs.NewsLemmas.{telling_more}
use Rattle.signal_core.proofs.news.tell_all.Goals as goal

pub news-preserved : goal.news-preserved
news-preserved g c =
    telling_more c.args.watches.now c.args.news.items c.news.watches c.news.news.items c.pop.new.self.items c.in-Some.told c.len.result c.index-watches-len.result c.tell.new.slot c.requires c.news.invariant
    c.in-Some.ensures.items (omega (arith, c.len.ensures, c.pop.new.self.ok.0)) c.tell.ensures
