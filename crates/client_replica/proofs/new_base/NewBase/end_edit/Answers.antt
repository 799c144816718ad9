use Rattle.std.proofs.Common.{sym, subst}
use Rattle.std.specs.Prelude.{OnOk}
use Rattle.schema_core.specs.SchemaOf.{schema_tree}
use Rattle.room_model.specs.Taking.{result_diff}
use Rattle.client_replica.specs.NewBases.{AreStepped}
use Rattle.client_replica.proofs.new_base.NewBase.end_edit.Goals as goal

pub returns-in-Commit-clause-document : goal.returns-in-Commit-clause-document
returns-in-Commit-clause-document g c =
    subst (λ a. OnOk c.step_for.result (AreStepped (schema_tree c.args.schema.now) (result_diff c.args.edit.now a) (g.D.DocStore.records c.args.store.now) c.args.stash.now c.args.self.now.changes c.step_for.new.self.changes))
    (sym c.in-Commit.is) c.step_for.ensures.document

pub returns-in-Rebase-clause-document : goal.returns-in-Rebase-clause-document
returns-in-Rebase-clause-document g c =
    subst (λ a. OnOk c.step_for-in-Rebase.result (AreStepped (schema_tree c.args.schema.now) (result_diff c.args.edit.now a) (g.D.DocStore.records c.args.store.now) c.args.stash.now c.args.self.now.changes c.step_for-in-Rebase.new.self.changes))
    (sym c.in-Rebase.is) c.step_for-in-Rebase.ensures.document
