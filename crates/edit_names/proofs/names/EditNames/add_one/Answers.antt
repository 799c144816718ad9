use Rattle.std.proofs.Common.{ap, ◌∙◌, arith}
use Rattle.edit_names.specs.Names.{count_at}
use Rattle.edit_names.proofs.NamesLemmas.{on_ok, raised}
use Rattle.edit_names.proofs.names.EditNames.add_one.Goals as goal

pub returns-then-count-eq0-clause-ok : goal.returns-then-count-eq0-clause-ok
returns-then-count-eq0-clause-ok c = on_ok c.begin.result (λ is q.
    let none = c.count-count.ensures.count in
    let zero = c.if-count-eq0.true in
    ap (λ s. count_at s q) is ∙ raised c.args.self.now c.args.id.now q 1 (grind arith)) c.begin.ensures.ok

pub returns-clause-ok : goal.returns-clause-ok
returns-clause-ok c = λ q.
    ap (λ s. count_at s q) c.put.ensures ∙ raised c.args.self.now c.args.id.now q _ (let was = c.count-count.ensures.count in omega (arith, was))
