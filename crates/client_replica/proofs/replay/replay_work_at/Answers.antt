use Rattle.std.proofs.Common.{[], ◌∷◌, Some, sym, ap, ◌∙◌}
use Rattle.rooms_val.specs.Maps.{value_at}
use Rattle.schema_core.specs.Admits.{is_admitted}
use Rattle.schema_core.specs.SchemaOf.{schema_tree}
use Rattle.doc_model.specs.Documents.{replay}
use Rattle.doc_model.specs.Inverses.{record_after}
use Rattle.doc_model.proofs.InverseLemmas.{at-step}
use Rattle.field_ops.specs.View.{maybe_data}
use Rattle.field_ops.specs.ViewRecordOps.{change_of}
use Rattle.client_replica.specs.Works.{work_of, diffs_in}
use Rattle.client_replica.proofs.replay.replay_work_at.Goals as goal

pub returns-in_ok-after-in-Some : goal.returns-in_ok-after-in-Some
returns-in_ok-after-in-Some c = λ m is.
    let admits = is_admitted (schema_tree c.args.schema.now) in
    let id = c.args.id.now in
    ap (λ w. value_at (replay admits m (diffs_in (work_of w ∷ []))) id) c.in-Edit.is
    ∙ at-step admits c.in-Edit.diff m id c.len.ensures.sound.0
    ∙ (λ i. record_after admits id (sym c.in-Some.ensures i) (is i))
    ∙ sym (c.in_ok-after-in-Some.ensures ∙ ap (λ o. record_after admits id (Some (change_of c.in-Some.op.now)) (maybe_data o)) c.as_ref.ensures.value)

pub returns-in-None : goal.returns-in-None
returns-in-None c = λ m is.
    let admits = is_admitted (schema_tree c.args.schema.now) in
    let id = c.args.id.now in
    ap (λ w. value_at (replay admits m (diffs_in (work_of w ∷ []))) id) c.in-Edit.is
    ∙ at-step admits c.in-Edit.diff m id c.len.ensures.sound.0
    ∙ (λ i. record_after admits id (sym c.in-None.ensures i) (is i))
