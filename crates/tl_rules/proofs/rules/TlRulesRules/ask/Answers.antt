use Rattle.std.proofs.Common.{◌≡◌, sym, subst, IfOk}
use Rattle.tl_rules.specs.declared.key.TlKey.{TlKey}
use Rattle.tl_rules.specs.Meaning.{tl_asks}
use Rattle.tl_rules.proofs.rules.TlRulesRules.ask.Goals as goal

pub returns-in-Bound-clause-answer : goal.returns-in-Bound-clause-answer
unfolding tl_asks
returns-in-Bound-clause-answer g c = subst (λ (k : TlKey). IfOk c.ask_bound.result (λ a. a ≡ tl_asks k c.args.got.now)) (sym c.in-Bound.is) c.ask_bound.ensures

pub returns-in-Tree-clause-answer : goal.returns-in-Tree-clause-answer
unfolding tl_asks
returns-in-Tree-clause-answer g c = subst (λ (k : TlKey). IfOk c.ask_tree.result (λ a. a ≡ tl_asks k c.args.got.now)) (sym c.in-Tree.is) c.ask_tree.ensures

pub returns-in-Count-clause-answer : goal.returns-in-Count-clause-answer
unfolding tl_asks
returns-in-Count-clause-answer g c = subst (λ (k : TlKey). IfOk c.ask_count.result (λ a. a ≡ tl_asks k c.args.got.now)) (sym c.in-Count.is) c.ask_count.ensures

pub returns-in-Box-clause-answer : goal.returns-in-Box-clause-answer
unfolding tl_asks
returns-in-Box-clause-answer g c = subst (λ (k : TlKey). IfOk c.ask_box.result (λ a. a ≡ tl_asks k c.args.got.now)) (sym c.in-Box.is) c.ask_box.ensures
