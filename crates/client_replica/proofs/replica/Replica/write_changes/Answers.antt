use Rattle.std.proofs.Common.{map, drop, ap, ◌∙◌}
use Rattle.schema_core.specs.SchemaOf.{schema_tree}
use Rattle.client_replica.specs.Works.{work_of, diffs_in}
use Rattle.client_replica.specs.Stashes.{written_over}
use Rattle.client_replica.proofs.TakenLemmas.{written_shown}
use Rattle.client_replica.proofs.replica.Replica.write_changes.Goals as goal

pub returns-in-Ok-clause-ok : goal.returns-in-Ok-clause-ok
returns-in-Ok-clause-ok g c = λ base rising rises are names same.
    let r = c.args.self.now in
    let shown = c.in_ok-shown.shown in
    c.commit.ensures.records ∙ c.in-Ok.ensures.ok ∙ ap (written_over shown) c.in_ok-begin.ensures.records
    ∙ written_shown (schema_tree r.schema) (g.D.DocStore.records r.store) base (diffs_in (map work_of (drop c.args.from r.works.items))) c.args.changes.now shown rises rising c.tell_rising.ensures (c.in_ok-shown.ensures.at base are names) same
