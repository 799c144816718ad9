use Rattle.std.proofs.Common.{◌≡◌, ◌+◌, ◌&&◌, true, false, drop, sym, ap, ◌∙◌, arith}
use Rattle.std.proofs.lemmas.List.{drop_all}
use Rattle.rooms_val.proofs.ListLemmas.{one_off}
use Rattle.field_ops.specs.RecordOps.{RecordOps}
use Rattle.field_ops.specs.ViewRecordOps.{changes_view}
use Rattle.schema_core.specs.Admits.{is_document}
use Rattle.schema_core.specs.SchemaOf.{schema_tree}
use Rattle.client_replica.specs.Owns.{is_all_document}
use Rattle.client_replica.proofs.own.names_documents.Goals as goal

pub ids-preserved : goal.ids-preserved
ids-preserved c =
    let s = schema_tree c.args.schema.now in
    let items = c.as_slice-id-items.result.now in
    let i = c.ids.id-index in
    let x = c.ids-item.result in
    let parts = one_off items i x c.ids-test.true c.ids-item.is in
    let document : is_document s x.0 ≡ true = ap (is_document s) (sym c.as_str.ensures.bytes) ∙ sym c.is_document.ensures ∙ c.if-not-is_document.false in
    sym (ap (λ b. b && is_all_document (is_document s) (changes_view (drop (i + 1) items))) document) ∙ sym (ap (λ l. is_all_document (is_document s) (changes_view l)) parts) ∙ c.ids.invariant

pub returns-then-not-is_document : goal.returns-then-not-is_document
returns-then-not-is_document c =
    let s = schema_tree c.args.schema.now in
    let all : RecordOps → _ = is_all_document (is_document s) in
    let items = c.as_slice-id-items.result.now in
    let x = c.ids-item.result in
    let document : is_document s x.0 ≡ false = ap (is_document s) (sym c.as_str.ensures.bytes) ∙ sym c.is_document.ensures ∙ c.if-not-is_document.true in
    sym (ap (λ b. b && all (changes_view (drop (c.ids.id-index + 1) items))) document)
    ∙ sym (ap (λ l. all (changes_view l)) (one_off items c.ids.id-index x c.ids-test.true c.ids-item.is)) ∙ c.ids.invariant ∙ ap all c.as_slice-id-items.ensures.pairs

pub returns : goal.returns
returns c =
    let s = schema_tree c.args.schema.now in
    sym (ap (λ l. is_all_document (is_document s) (changes_view l)) (drop_all c.ids.id-index c.as_slice-id-items.result.now (omega arith))) ∙ c.ids.invariant
    ∙ ap (is_all_document (is_document s)) c.as_slice-id-items.ensures.pairs
