use Rattle.std.proofs.Common.{sym, ap, ◌∙◌}
use Rattle.migrate_seq.specs.Order.{picked, is_free}
use Rattle.migrate_seq.specs.Plans.{follows}
use Rattle.migrate_seq.proofs.order.take_free.Goals as goal

pub returns-in-None-clause-picked : goal.returns-in-None-clause-picked
returns-in-None-clause-picked c =
    sym (c.in-None.ensures.picked (record { sequence = 0; migration = 0 }))
    ∙ ap (λ l. picked (is_free (follows c.args.sequences.now) l) l) c.deref.ensures.value
