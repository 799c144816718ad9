use Rattle.std.proofs.lemmas.Result.{IfOk-weaker}
use Rattle.link_texts.proofs.JoinLemmas.{read_again}
use Rattle.rooms_val.specs.View.{data_of}
use Rattle.link_texts.proofs.join.Join.print.Goals as goal

pub returns-clause-reads_back : goal.returns-clause-reads_back
returns-clause-reads_back c =
    IfOk-weaker c.print.result _ _ (λ text reads. read_again c.args.self.now (data_of c.in_ok-val.field-0) text.items c.val.ensures.small c.in_ok-val.ensures.value reads) c.print.ensures.reads_back
