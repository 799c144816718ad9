use Rattle.std.proofs.Common.{map, drop, sym, ◌∙◌}
use Rattle.schema_core.specs.Admits.{is_admitted}
use Rattle.schema_core.specs.SchemaOf.{schema_tree}
use Rattle.client_replica.specs.Works.{work_of, diffs_in}
use Rattle.client_replica.proofs.OwnLemmas.{unnamed}
use Rattle.client_replica.proofs.NewBaseLemmas.{if_ok}
use Rattle.client_replica.proofs.stash.Stash.replayed_at.Goals as goal

pub returns-then-has : goal.returns-then-has
returns-then-has c = if_ok c.replay_at.result (λ after told base is names. told base is) c.replay_at.ensures

pub returns-else-has : goal.returns-else-has
returns-else-has c =
    if_ok c.copy_slot.result (λ after told base is names.
    let left = diffs_in (map work_of (drop c.args.from c.args.works.now.items)) in
    unnamed (is_admitted (schema_tree c.args.schema.now)) base left c.args.id.now (names c.args.id.now (sym c.has.ensures ∙ c.if-has.false)) ∙ is ∙ sym told) c.copy_slot.ensures
