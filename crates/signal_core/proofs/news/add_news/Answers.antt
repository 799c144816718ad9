use Rattle.std.proofs.Common.{◌≡◌, ℕ, ◌∷◌, [], ◌++◌, length, Option, Some, sym, ◌∙◌, ap, subst, arith}
use Rattle.signal_values.specs.Seen.{value_in}
use Rattle.signal_core.specs.declared.watch.Watch.{Watch}
use Rattle.signal_core.specs.declared.watch.WatchId.{WatchId}
use Rattle.signal_core.specs.Gots.{AreGot}
use Rattle.signal_core.specs.News.{IsNews}
use Rattle.signal_core.proofs.GotLemmas.{got_none, got_more, got_value}
use Rattle.signal_core.proofs.NewsLemmas.{news_some}
use Rattle.signal_core.proofs.news.add_news.Goals as goal

pub returns-in_err-push-clause-got : goal.returns-in_err-push-clause-got
returns-in_err-push-clause-got g c = got_none (g.R.Rules.meaning c.args.values.now.rules) g.R.Key.Ord.cmp c.args.values.now

pub returns-in_default-clause-got : goal.returns-in_default-clause-got
returns-in_default-clause-got g c = got_none (g.R.Rules.meaning c.args.values.now.rules) g.R.Key.Ord.cmp c.args.values.now

pub returns-in_err-value-clause-got : goal.returns-in_err-value-clause-got
returns-in_err-value-clause-got g c = got_more g.R.Rules.meaning g.R.Key.Ord.cmp g.met.R.Rules.same_keys c.args.values.now c.differs.new.values c.copied.new.self c.differs.ensures.got c.copied.ensures.got

pub returns-in_err-told-clause-got : goal.returns-in_err-told-clause-got
returns-in_err-told-clause-got g c = got_more g.R.Rules.meaning g.R.Key.Ord.cmp g.met.R.Rules.same_keys c.args.values.now c.copied.new.self c.copied-2.new.self (got_more g.R.Rules.meaning g.R.Key.Ord.cmp g.met.R.Rules.same_keys c.args.values.now c.differs.new.values c.copied.new.self c.differs.ensures.got c.copied.ensures.got) c.copied-2.ensures.got

pub returns-in_err-push-3-clause-got : goal.returns-in_err-push-3-clause-got
returns-in_err-push-3-clause-got g c = got_more g.R.Rules.meaning g.R.Key.Ord.cmp g.met.R.Rules.same_keys c.args.values.now c.copied.new.self c.copied-2.new.self (got_more g.R.Rules.meaning g.R.Key.Ord.cmp g.met.R.Rules.same_keys c.args.values.now c.differs.new.values c.copied.new.self c.differs.ensures.got c.copied.ensures.got) c.copied-2.ensures.got

pub returns-in_err-push-4-clause-got : goal.returns-in_err-push-4-clause-got
returns-in_err-push-4-clause-got g c = got_more g.R.Rules.meaning g.R.Key.Ord.cmp g.met.R.Rules.same_keys c.args.values.now c.copied.new.self c.copied-2.new.self (got_more g.R.Rules.meaning g.R.Key.Ord.cmp g.met.R.Rules.same_keys c.args.values.now c.differs.new.values c.copied.new.self c.differs.ensures.got c.copied.ensures.got) c.copied-2.ensures.got

pub returns-clause-got : goal.returns-clause-got
returns-clause-got g c = got_more g.R.Rules.meaning g.R.Key.Ord.cmp g.met.R.Rules.same_keys c.args.values.now c.copied.new.self c.copied-2.new.self (got_more g.R.Rules.meaning g.R.Key.Ord.cmp g.met.R.Rules.same_keys c.args.values.now c.differs.new.values c.copied.new.self c.differs.ensures.got c.copied.ensures.got) c.copied-2.ensures.got

pub returns-clause-ok : goal.returns-clause-ok
returns-clause-ok g c =
    let m = g.R.Rules.meaning c.args.values.now.rules in
    let cmp = g.R.Key.Ord.cmp in
    let key = c.in-Some.watch.key in
    let got : AreGot m cmp c.args.values.now c.copied.new.self = (got_more g.R.Rules.meaning g.R.Key.Ord.cmp g.met.R.Rules.same_keys c.args.values.now c.differs.new.values c.copied.new.self c.differs.ensures.got c.copied.ensures.got) in
    let told_is : c.in_ok-told.told ≡ value_in m cmp c.args.values.now key = c.in_ok-told.ensures.value ∙ got_value g.R.Rules.meaning cmp c.args.values.now c.copied.new.self key got in
    let value_is : c.in_ok-value.value ≡ value_in m cmp c.args.values.now key = c.in_ok-value.ensures.value ∙ got_value g.R.Rules.meaning cmp c.args.values.now c.differs.new.values key c.differs.ensures.got in
    let place : c.len-number.result ≡ length c.args.news.now.told.items = omega (arith, c.len-number.ensures, c.args.news.now.told.ok.0) in
    record {
      news = Some c.in_ok-told.told;
      is = subst (λ (s : Option (Watch g.row.R-Key.Denot g.row.R-Value.Denot)). IsNews m cmp c.args.values.now s (Some c.in_ok-told.told)) (sym c.in-Some.is)
          (news_some m cmp c.args.values.now c.in-Some.watch c.in_ok-told.told told_is (c.in_ok-differs.ensures.differs c.if-not-branch.false));
      told = c.in_ok-push-4.ensures.items;
      due = c.in_ok-push-3.ensures.items ∙ ap (λ (d : WatchId × g.row.R-Value.Denot). c.args.news.now.due.items ++ d ∷ [])
          (ap (λ (n : ℕ). (record { number = n }, c.in_ok-value.value)) place ∙ ap (λ (x : g.row.R-Value.Denot). (record { number = length c.args.news.now.told.items }, x)) (value_is ∙ sym told_is));
    }
