use Rattle.std.proofs.Common.{ap, ◌∙◌, arith}
use Rattle.edit_names.specs.Names.{count_at}
use Rattle.edit_names.proofs.NamesLemmas.{lowered, settled}
use Rattle.edit_names.proofs.names.EditNames.remove_one.Goals as goal

pub returns-then-count-gt1 : goal.returns-then-count-gt1
returns-then-count-gt1 c = λ q.
    ap (λ s. count_at s q) c.put.ensures ∙ lowered c.args.self.now c.args.id.now q _ (let was = c.count-count.ensures.count in omega (arith, was))

pub returns-else-count-gt1 : goal.returns-else-count-gt1
returns-else-count-gt1 c = λ q.
    ap (λ s. count_at s q) c.forget.ensures ∙ settled c.args.self.now c.args.id.now q (let was = c.count-count.ensures.count in let few = c.if-count-gt1.false in omega (arith, was, few))
