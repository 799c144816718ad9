use Rattle.std.proofs.Common.{◌≡◌, ◌∷◌, true, sym, ap, subst, ◌∙◌}
use Rattle.rooms_val.specs.Maps.{with_key}
use Rattle.rooms_val.specs.View.{data_of}
use Rattle.field_ops.specs.RecordOps.{put}
use Rattle.field_ops.specs.ViewRecordOps.{change_of}
use Rattle.side_effects.specs.Placed.{is_unplaced}
use Rattle.side_effects.specs.Tops.{IsPlacing}
use Rattle.side_effects.proofs.PlacingLemmas.{passes, puts}
use Rattle.side_effects.proofs.placing.place.Goals as goal

pub returns-then-not-is_unplaced-clause-stands : goal.returns-then-not-is_unplaced-clause-stands
returns-then-not-is_unplaced-clause-stands g c = λ left stands.
    let m = g.D.DocStore.records c.args.store.now in
    passes m c.args.tops.now c.args.diff.now (c.args.id.now, change_of c.args.op.now) left stands
    (ap (λ i. is_unplaced m i (change_of c.args.op.now)) (sym c.as_str.ensures.bytes) ∙ sym c.is_unplaced.ensures ∙ c.if-not-is_unplaced.true)

pub returns-in_ok-put-in-Put-clause-stands : goal.returns-in_ok-put-in-Put-clause-stands
returns-in_ok-put-in-Put-clause-stands g c = λ left stands.
    let m = g.D.DocStore.records c.args.store.now in
    let val = c.in-Put.val in
    let id = c.args.id.now in
    let op : change_of c.args.op.now ≡ put (data_of val) = ap change_of c.in-Put.is in
    let shape = data_of c.in_ok-shape-in-Put.shape in
    let done : c.put.new.self ≡ with_key c.args.diff.now id (put shape) = c.in_ok-put-in-Put.ensures.ok ∙ ap (λ i. with_key c.args.diff.now i (put shape)) c.in_ok-copy-in-Put.ensures in
    let one : is_unplaced m id (put (data_of val)) ≡ true =
    ap (is_unplaced m id) (sym op) ∙ ap (λ i. is_unplaced m i (change_of c.args.op.now)) (sym c.as_str.ensures.bytes) ∙ sym c.is_unplaced.ensures ∙ c.if-not-is_unplaced.false in
    subst (λ d. IsPlacing m c.raise_to.new.tops d left) (sym done)
    (puts m c.args.tops.now c.args.diff.now id (data_of val) left
    (subst (λ x. IsPlacing m c.args.tops.now c.args.diff.now ((id, x) ∷ left)) op stands) one shape c.raise_to.new.tops c.in_ok-raise_to-in-Put.ensures)
