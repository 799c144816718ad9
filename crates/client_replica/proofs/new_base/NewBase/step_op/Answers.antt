use Rattle.std.proofs.Common.{◌≡◌, ◌≤◌, ◌+◌, length, true, Some, sym, ap, subst, ◌∙◌}
use Rattle.field_ops.specs.ViewRecordOps.{change_of}
use Rattle.schema_core.specs.Admits.{is_document, is_of_document}
use Rattle.schema_core.specs.SchemaOf.{schema_tree}
use Rattle.client_replica.specs.NewBases.{HasIdsOf}
use Rattle.client_replica.proofs.NewBaseLemmas.{laid_put, few_put, more_put}
use Rattle.rooms_val.proofs.Truths.{on_ok_with}
use Rattle.client_replica.proofs.new_base.NewBase.step_op.Goals as goal

pub returns-in-Some-Document-clause-document : goal.returns-in-Some-Document-clause-document
returns-in-Some-Document-clause-document g c =
    let s = schema_tree c.args.schema.now in
    let id = c.args.id.now in
    let scope = sym c.scope_of.ensures ∙ c.in-Some-Document.is ∙ ap Some c.in-Some-Document.field-0-is in
    let document : is_document s id ≡ true = ap (is_document s) (sym c.as_str.ensures.bytes) ∙ ap is_of_document scope in
    on_ok_with c.step.result (λ is. laid_put s (g.D.DocStore.records c.args.store.now) c.args.stash.now c.args.self.now.changes c.step.new.self id (change_of c.args.op.now) document is) c.step.ensures

pub returns-in-Some-Document-clause-more : goal.returns-in-Some-Document-clause-more
returns-in-Some-Document-clause-more g c =
    let old = c.args.self.now.changes in
    on_ok_with c.step.result (λ is. subst (HasIdsOf old) (sym is) (more_put old c.args.id.now _)) c.step.ensures

pub returns-in-Some-Document-clause-few : goal.returns-in-Some-Document-clause-few
returns-in-Some-Document-clause-few g c =
    let old = c.args.self.now.changes in
    on_ok_with c.step.result (λ is. let few = few_put old c.args.id.now _ c.tell_rising.ensures in subst (λ n. length n ≤ length old + 1) (sym is) few) c.step.ensures
