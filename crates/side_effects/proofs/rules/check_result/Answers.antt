use Rattle.std.proofs.Common.{sym, ap, subst, ◌∙◌}
use Rattle.std.specs.Prelude.{option_map, option_and_then}
use Rattle.rooms_val.specs.Answers.{Gives}
use Rattle.rooms_val.specs.Maps.{value_at}
use Rattle.field_ops.specs.Patched.{raw}
use Rattle.field_ops.specs.View.{maybe_data}
use Rattle.field_ops.specs.ViewRecordOps.{change_of}
use Rattle.schema_core.specs.Admits.{first_fault}
use Rattle.schema_core.specs.SchemaOf.{schema_tree}
use Rattle.side_effects.specs.Completed.{refusal}
use Rattle.side_effects.specs.declared.fault.EditFault.TheVariants as edit_fault
use Rattle.side_effects.proofs.AfterLemmas.{copied_data}
use Rattle.side_effects.proofs.rules.check_result.Goals as goal

pub returns-in-Some : goal.returns-in-Some
returns-in-Some g c =
    let id = c.args.id.now in
    subst (λ left. Gives edit_fault.OutOfMemory (λ _. tt) c.check_admitted-in-Some.result
    (refusal (option_and_then (λ d. option_map (λ fault. edit_fault.Invalid id fault) (first_fault (schema_tree c.args.schema.now) id d)) left)))
    (ap maybe_data (sym c.in-Some.is) ∙ c.in_ok-left-in-Patch.ensures ∙ ap (raw (change_of c.args.op.now)) (copied_data c.get.result ∙ c.get.ensures.found ∙ ap (value_at (g.D.DocStore.records c.args.store.now)) c.as_str.ensures.bytes))
    c.check_admitted-in-Some.ensures
