use Rattle.std.proofs.Common.{◌+◌, drop, sym, ap, ◌∙◌, arith}
use Rattle.field_ops.specs.ViewRecordOps.{change_of, changes_view}
use Rattle.rooms_val.proofs.ListLemmas.{one_off}
use Rattle.schema_core.specs.Admits.{is_admitted, is_document}
use Rattle.schema_core.specs.SchemaOf.{schema_tree}
use Rattle.doc_model.specs.Documents.{step}
use Rattle.client_replica.specs.Parts.{ops_with}
use Rattle.room_schemas.specs.Decided.{is_presence}
use Rattle.client_replica.proofs.PartLemmas.{step-first}
use Rattle.client_replica.proofs.stepping.step_base.Goals as goal

pub ids-preserved : goal.ids-preserved
ids-preserved g c =
    let s = schema_tree c.args.schema.now in
    let admits = is_admitted s in
    let items = c.as_slice-id-items.result.now in
    let i = c.ids.id-index in
    let x = c.ids-item.result in
    let left = changes_view (drop (i + 1) items) in
    let parts = one_off items i x c.ids-test.true c.ids-item.is in
    let records = g.D.DocStore.records c.ids.store in
    record {
      document =
          ap (λ m. step admits m (ops_with (is_document s) left)) c.in_ok-step_part.ensures.document
          ∙ sym (step-first admits (is_document s) records (x.0, change_of x.1) left)
          ∙ sym (ap (λ l. step admits records (ops_with (is_document s) (changes_view l))) parts)
          ∙ c.ids.invariant.document;
      presence =
          ap (λ m. step admits m (ops_with (is_presence s) left)) c.in_ok-step_part.ensures.presence
          ∙ sym (step-first admits (is_presence s) c.ids.others (x.0, change_of x.1) left)
          ∙ sym (ap (λ l. step admits c.ids.others (ops_with (is_presence s) (changes_view l))) parts)
          ∙ c.ids.invariant.presence;
      begun = c.in_ok-step_part.ensures.begun ∙ c.ids.invariant.begun;
      rest = c.in_ok-step_part.ensures.rest ∙ c.ids.invariant.rest;
      ticks = omega arith;
    }
