use Rattle.std.proofs.Common.{◌≡◌, [], Some, option_map, sym, ap, subst, ◌∙◌}
use Rattle.std.specs.Prelude.{OnOk}
use Rattle.std.specs.Option.{option_copied}
use Rattle.schema_core.specs.SchemaOf.{schema_tree}
use Rattle.room_model.specs.Taking.{result_diff}
use Rattle.client_replica.specs.Works.{work_of, pushed_diff, event_diff}
use Rattle.client_replica.specs.NewBases.{AreStepped}
use Rattle.client_replica.proofs.new_base.NewBase.take_event.Goals as goal

pub returns-in-Patch-clause-document : goal.returns-in-Patch-clause-document
returns-in-Patch-clause-document g c =
    subst (λ e. OnOk c.step.result (AreStepped (schema_tree c.args.schema.now) (event_diff (option_map work_of (option_copied c.args.first)) e) (g.D.DocStore.records c.args.store.now) c.args.stash.now c.args.self.now.changes c.step.new.self.changes))
    (sym c.in-Patch.is) c.step.ensures.document

pub returns-in-Edit-clause-document : goal.returns-in-Edit-clause-document
returns-in-Edit-clause-document g c =
    let action = c.in-PushResult.action in
    let is : event_diff (option_map work_of (option_copied c.args.first)) c.args.event.now ≡ result_diff c.in-Edit.diff action =
    ap (event_diff (option_map work_of (option_copied c.args.first))) c.in-PushResult.is ∙ ap (λ o. result_diff (pushed_diff (option_map work_of (option_copied o))) action) c.in-Some.is
    ∙ ap (λ w. result_diff (pushed_diff (Some (work_of w))) action) c.in-Edit.is in
    subst (λ d. OnOk c.end_edit.result (AreStepped (schema_tree c.args.schema.now) d (g.D.DocStore.records c.args.store.now) c.args.stash.now c.args.self.now.changes c.end_edit.new.self.changes)) (sym is) c.end_edit.ensures.document

pub returns-in-Presence-clause-document : goal.returns-in-Presence-clause-document
returns-in-Presence-clause-document g c =
    let action = c.in-PushResult.action in
    let is : event_diff (option_map work_of (option_copied c.args.first)) c.args.event.now ≡ result_diff [] action =
    ap (event_diff (option_map work_of (option_copied c.args.first))) c.in-PushResult.is ∙ ap (λ o. result_diff (pushed_diff (option_map work_of (option_copied o))) action) c.in-Some.is
    ∙ ap (λ w. result_diff (pushed_diff (Some (work_of w))) action) c.in-Presence.is in
    subst (λ d. OnOk c.end_other.result (AreStepped (schema_tree c.args.schema.now) d (g.D.DocStore.records c.args.store.now) c.args.stash.now c.args.self.now.changes c.end_other.new.self.changes)) (sym is) c.end_other.ensures.document

pub returns-in-None-clause-document : goal.returns-in-None-clause-document
returns-in-None-clause-document g c =
    let action = c.in-PushResult.action in
    let is : event_diff (option_map work_of (option_copied c.args.first)) c.args.event.now ≡ result_diff [] action =
    ap (event_diff (option_map work_of (option_copied c.args.first))) c.in-PushResult.is ∙ ap (λ o. result_diff (pushed_diff (option_map work_of (option_copied o))) action) c.in-None.is in
    subst (λ d. OnOk c.end_other-in-None.result (AreStepped (schema_tree c.args.schema.now) d (g.D.DocStore.records c.args.store.now) c.args.stash.now c.args.self.now.changes c.end_other-in-None.new.self.changes)) (sym is) c.end_other-in-None.ensures.document
