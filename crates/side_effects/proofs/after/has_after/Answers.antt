use Rattle.std.proofs.Common.{sym, ap, ◌∙◌}
use Rattle.std.specs.Prelude.{is_some}
use Rattle.field_ops.specs.ViewRecordOps.{change_of}
use Rattle.side_effects.proofs.AfterLemmas.{after_op, after_none, there_data}
use Rattle.side_effects.proofs.after.has_after.Goals as goal

pub returns-in-Some : goal.returns-in-Some
returns-in-Some g c =
    c.leaves_record.ensures ∙ sym (ap is_some (after_op (g.D.DocStore.records c.args.store.now) c.args.diff.now c.args.id.now (change_of c.in-Some.op.now) c.tell_rising.ensures c.in-Some.ensures))

pub returns-in-None : goal.returns-in-None
returns-in-None g c =
    c.is_some.ensures ∙ there_data c.get-in-None.result ∙ ap is_some (c.get-in-None.ensures.found ∙ sym (after_none (g.D.DocStore.records c.args.store.now) c.args.diff.now c.args.id.now c.tell_rising.ensures c.in-None.ensures))
