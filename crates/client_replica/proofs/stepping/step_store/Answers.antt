use Rattle.std.proofs.Common.{sym, ◌∙◌}
use Rattle.field_ops.specs.View.{maybe_data}
use Rattle.field_ops.specs.ViewRecordOps.{change_of}
use Rattle.std.specs.Option.{option_copied}
use Rattle.schema_core.specs.Admits.{is_admitted}
use Rattle.schema_core.specs.SchemaOf.{schema_tree}
use Rattle.doc_store.proofs.Trees.{data_of-copied}
use Rattle.client_replica.proofs.PartLemmas.{stepped}
use Rattle.client_replica.proofs.stepping.step_store.Goals as goal

pub returns-in_ok-write-clause-ok : goal.returns-in_ok-write-clause-ok
returns-in_ok-write-clause-ok g c =
    stepped (is_admitted (schema_tree c.args.schema.now)) (g.D.DocStore.records c.args.store.now) (g.D.DocStore.records c.write.new.self) c.args.id.now
    c.as_str.result.now c.as_str-2.result.now c.as_str-in-Some.result.now (change_of c.args.op.now) c.in_ok-left.left c.in-Some.after (maybe_data (option_copied c.get.result))
    c.as_str.ensures.bytes c.as_str-2.ensures.bytes c.as_str-in-Some.ensures.bytes (sym (data_of-copied c.get.result) ∙ c.get.ensures.found) c.in_ok-left.ensures c.in-Some.is c.in_ok-write.ensures.ok
