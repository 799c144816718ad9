use Rattle.std.proofs.Common.{option_map, sym, ap, ◌∙◌}
use Rattle.std.specs.Option.{option_copied}
use Rattle.field_ops.specs.View.{maybe_data}
use Rattle.field_ops.specs.ViewRecordOps.{change_of}
use Rattle.field_ops.specs.Patched.{raw}
use Rattle.schema_core.specs.Admits.{is_admitted}
use Rattle.schema_core.specs.SchemaOf.{schema_tree}
use Rattle.doc_model.specs.Documents.{acts_on}
use Rattle.client_replica.proofs.OwnLemmas.{left_after}
use Rattle.client_replica.proofs.stepping.record_left.Goals as goal

pub returns-in-Some : goal.returns-in-Some
returns-in-Some c =
    let op = change_of c.args.op.now in
    let before = maybe_data (option_copied c.args.before) in
    left_after (acts_on (is_admitted (schema_tree c.args.schema.now)) c.args.id.now op before) (maybe_data c.in-Some.after) (raw op before) before
    (sym (ap (option_map maybe_data) c.in-Some.is) ∙ c.in_ok-left.ensures)
