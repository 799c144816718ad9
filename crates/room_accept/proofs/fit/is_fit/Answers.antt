use Rattle.std.proofs.Common.{◌≡◌, ◌+◌, ◌&&◌, Bool, true, false, drop, sym, ap, ◌∙◌, arith}
use Rattle.std.proofs.lemmas.List.{drop_all}
use Rattle.rooms_val.proofs.ListLemmas.{one_off}
use Rattle.field_ops.specs.RecordOps.{RecordOps}
use Rattle.field_ops.specs.ViewRecordOps.{change_of, changes_view}
use Rattle.schema_core.specs.Admits.{is_document}
use Rattle.schema_core.specs.SchemaOf.{schema_tree}
use Rattle.room_model.specs.Accepting.{on_put, is_put_admitted, is_fit}
use Rattle.room_schemas.specs.Decided.{decided, raise}
use Rattle.room_accept.specs.Plans.{plan_of}
use Rattle.room_accept.proofs.fit.is_fit.Goals as goal

pub ids-preserved : goal.ids-preserved
ids-preserved c =
    let s = schema_tree c.args.schema.now in
    let fit : RecordOps → Bool = is_fit (decided s) (plan_of c.args.plan.now) in
    let items = c.as_slice-id-items.result.now in
    let x = c.ids-item.result in
    let more = changes_view (drop (c.ids.id-index + 1) items) in
    let document : is_document s x.0 ≡ true = ap (is_document s) (sym c.as_str.ensures.bytes) ∙ sym c.is_document.ensures ∙ c.if-not-is_document.false in
    let put : is_put_admitted (decided s) x.0 (on_put (raise s (plan_of c.args.plan.now)) (change_of x.1)) ≡ true = sym c.in_ok-is_put_fit.ensures ∙ c.if-not-branch.false in
    sym (λ i. (document i && put i) && fit more) ∙ sym (ap (λ l. fit (changes_view l)) (one_off items c.ids.id-index x c.ids-test.true c.ids-item.is)) ∙ c.ids.invariant

pub returns-then-not-is_document : goal.returns-then-not-is_document
returns-then-not-is_document c =
    let s = schema_tree c.args.schema.now in
    let fit : RecordOps → Bool = is_fit (decided s) (plan_of c.args.plan.now) in
    let items = c.as_slice-id-items.result.now in
    let x = c.ids-item.result in
    let more = changes_view (drop (c.ids.id-index + 1) items) in
    let document : is_document s x.0 ≡ false = ap (is_document s) (sym c.as_str.ensures.bytes) ∙ sym c.is_document.ensures ∙ c.if-not-is_document.true in
    sym (ap (λ b. (b && is_put_admitted (decided s) x.0 (on_put (raise s (plan_of c.args.plan.now)) (change_of x.1))) && fit more) document)
    ∙ sym (ap (λ l. fit (changes_view l)) (one_off items c.ids.id-index x c.ids-test.true c.ids-item.is)) ∙ c.ids.invariant ∙ ap fit c.as_slice-id-items.ensures.pairs

pub returns-then-not-branch : goal.returns-then-not-branch
returns-then-not-branch c =
    let s = schema_tree c.args.schema.now in
    let fit : RecordOps → Bool = is_fit (decided s) (plan_of c.args.plan.now) in
    let items = c.as_slice-id-items.result.now in
    let x = c.ids-item.result in
    let more = changes_view (drop (c.ids.id-index + 1) items) in
    let document : is_document s x.0 ≡ true = ap (is_document s) (sym c.as_str.ensures.bytes) ∙ sym c.is_document.ensures ∙ c.if-not-is_document.false in
    let put : is_put_admitted (decided s) x.0 (on_put (raise s (plan_of c.args.plan.now)) (change_of x.1)) ≡ false = sym c.in_ok-is_put_fit.ensures ∙ c.if-not-branch.true in
    sym (λ i. (document i && put i) && fit more)
    ∙ sym (ap (λ l. fit (changes_view l)) (one_off items c.ids.id-index x c.ids-test.true c.ids-item.is)) ∙ c.ids.invariant ∙ ap fit c.as_slice-id-items.ensures.pairs

pub returns : goal.returns
returns c =
    let fit : RecordOps → Bool = is_fit (decided (schema_tree c.args.schema.now)) (plan_of c.args.plan.now) in
    sym (ap (λ l. fit (changes_view l)) (drop_all c.ids.id-index c.as_slice-id-items.result.now (omega arith))) ∙ c.ids.invariant ∙ ap fit c.as_slice-id-items.ensures.pairs
