use Rattle.std.proofs.Common.{◌≡◌, ◌+◌, [], ◌∷◌, ◌++◌, take, refl, sym, ap, subst, ◌∙◌, arith}
use Rattle.std.proofs.lemmas.List.{take_all, map-append}
use Rattle.field_ops.specs.ViewRecordOps.{change_of, changes_view}
use Rattle.schema_core.specs.Admits.{is_admitted, is_document}
use Rattle.schema_core.specs.SchemaOf.{schema_tree}
use Rattle.doc_model.specs.Documents.{step}
use Rattle.room_schemas.specs.Decided.{is_presence}
use Rattle.client_replica.specs.Parts.{ops_with}
use Rattle.client_replica.specs.NewBases.{IsLaid}
use Rattle.client_replica.proofs.StashLemmas.{take_next}
use Rattle.client_replica.proofs.NewBaseLemmas.{ops-last}
use Rattle.client_replica.proofs.new_base.NewBase.step.Goals as goal

pub ids-preserved : goal.ids-preserved
ids-preserved g c =
    let s = schema_tree c.args.schema.now in
    let admits = is_admitted s in
    let items = c.as_slice-id-items.result.now in
    let i = c.ids.id-index in
    let x = c.ids-item.result in
    let op = change_of x.1 in
    let m = g.D.DocStore.records c.args.store.now in
    let others = c.args.self.now.others in
    let front = changes_view (take i items) in
    let told = c.in_ok-step_op.ensures in
    let more : front ++ (x.0, op) ∷ [] ≡ changes_view (take (i + 1) items) =
    sym (ap changes_view (take_next items i (i + 1) x refl (omega arith) c.ids-item.is) ∙ map-append (λ e. (e.0, change_of e.1)) (take i items) (x ∷ [])) in
    record {
      document = λ base lies. subst (λ b. IsLaid b m c.args.stash.now c.step_op.new.self.changes)
          (ops-last admits (is_document s) base front (x.0, op) ∙ ap (λ d. step admits base (ops_with (is_document s) d)) more)
          (told.document (step admits base (ops_with (is_document s) front)) (c.ids.invariant.document base lies));
      presence = told.presence ∙ ap (λ o. step admits o (ops_with (is_presence s) ((x.0, op) ∷ []))) c.ids.invariant.presence
          ∙ ops-last admits (is_presence s) others front (x.0, op) ∙ ap (λ d. step admits others (ops_with (is_presence s) d)) more;
      more = λ q is. told.more q (c.ids.invariant.more q is);
      few = let one = told.few in let was = c.ids.invariant.few in omega arith;
    }

pub returns-clause-document : goal.returns-clause-document
returns-clause-document g c = λ base lies.
    let s = schema_tree c.args.schema.now in
    let items = c.as_slice-id-items.result.now in
    subst (λ d. IsLaid (step (is_admitted s) base (ops_with (is_document s) d)) (g.D.DocStore.records c.args.store.now) c.args.stash.now c.ids.self.changes)
    (ap changes_view (take_all c.ids.id-index items (omega arith)) ∙ c.as_slice-id-items.ensures.pairs) (c.ids.invariant.document base lies)

pub returns-clause-presence : goal.returns-clause-presence
returns-clause-presence g c =
    let s = schema_tree c.args.schema.now in
    let items = c.as_slice-id-items.result.now in
    c.ids.invariant.presence ∙ ap (λ d. step (is_admitted s) c.args.self.now.others (ops_with (is_presence s) d))
    (ap changes_view (take_all c.ids.id-index items (omega arith)) ∙ c.as_slice-id-items.ensures.pairs)
