use Rattle.std.proofs.Common.{◌≡◌, Some, ap, subst, ◌∙◌}
use Rattle.std.specs.Prelude.{OnOk, string_bytes}
use Rattle.rooms_val.specs.Maps.{with_key}
use Rattle.field_ops.specs.View.{maybe_data}
use Rattle.field_ops.specs.ViewRecordOps.{change_of}
use Rattle.schema_core.specs.Admits.{is_admitted}
use Rattle.schema_core.specs.SchemaOf.{schema_tree}
use Rattle.doc_model.specs.Inverses.{record_after}
use Rattle.client_replica.specs.NewBases.{laid}
use Rattle.client_replica.proofs.stash.Stash.step.Goals as goal

pub returns : goal.returns
returns g c =
    let admits = is_admitted (schema_tree c.args.schema.now) in
    let op = change_of c.args.op.now in
    let old = c.args.self.now in
    let stash = c.args.stash.now in
    let m = g.D.DocStore.records c.args.store.now in
    let id = c.args.id.now in
    let key : string_bytes c.in_ok-key.key ≡ id = c.in_ok-key.ensures.ok ∙ c.as_str-3.ensures.bytes in
    let before = c.base_at-before.ensures ∙ ap (laid old stash m) c.as_str.ensures.bytes in
    let slot : maybe_data c.in_ok-slot.slot ≡ record_after admits id (Some op) (laid old stash m id) =
    c.in_ok-slot.ensures ∙ (λ i. record_after admits (c.as_str-2.ensures.bytes i) (Some op) (before i)) in
    subst (λ k. OnOk c.put.result (c.put.new.self ≡ with_key old k (record_after admits id (Some op) (laid old stash m id)))) key
    (subst (λ r. OnOk c.put.result (c.put.new.self ≡ with_key old (string_bytes c.in_ok-key.key) r)) slot c.put.ensures.ok)
