use Rattle.std.proofs.Common.{◌∙◌, ◌-◌, ap, take, length, refl, sym, arith}
use Rattle.std.proofs.lemmas.List.{length-take, get_or-take}
use Rattle.signal_rules.specs.declared.rules.Ask.TheVariants.{Need}
use Rattle.rooms_val.specs.View.{data_of}
use Rattle.shape_tree.specs.Trees.{most_shapes}
use Rattle.tl_rules.specs.Answers.{ids_in}
use Rattle.tl_rules.specs.Ids.{flat}
use Rattle.tl_rules.specs.declared.key.TlKey.TheVariants as key
use Rattle.tl_rules.proofs.BoxLemmas.{box_needs, box_done}
use Rattle.tl_rules.proofs.PartLemmas.{got_here}
use Rattle.tl_rules.proofs.boxes.ask_box.Goals as goal

pub returns-then-boxes-children : goal.returns-then-boxes-children
returns-then-boxes-children c =
    let ids = flat c.parts.result.now in
    let count = ap length c.parts.ensures in
    ap (λ id. Need (key.Box id c.of.result)) c.in_ok-child.ensures
    ∙ box_needs c.args.id.now c.args.level (data_of c.in-Some-shape_in.shape.now) c.args.got.now c.in-Some.rest.now c.in-Some-split_first.boxes.now c.in-Some.record.now c.in-Some-split_first.below.now ids (take most_shapes ids)
    c.in-Some.ensures.cases.0 c.in-Some-shape_in.ensures (omega (arith, c.number.ensures.number, c.if-number-eq0.false)) c.in-Some-split_first.ensures.cases.0 c.parts.ensures refl
    c.in-Some-id_at.child.now c.of.result (omega (arith, c.if-boxes-children.true, c.min-children.ensures, c.count.ensures, count, length-take most_shapes ids))
    (got_here ids (length c.in-Some-split_first.boxes.now) c.in-Some-id_at.child.now c.in-Some-id_at.ensures
    ∙ sym (get_or-take most_shapes ids (length c.in-Some-split_first.boxes.now) c.in-Some-id_at.child.now (omega (arith, c.if-boxes-children.true, c.min-children.ensures))))
    (c.of.ensures ∙ ap (λ n. n - 1) c.number-then-boxes-children.ensures.number)

pub returns : goal.returns
returns c =
    let ids = ids_in c.in-Some-split_first.below.now in
    box_done c.args.id.now c.args.level (data_of c.in-Some-shape_in.shape.now) c.args.got.now c.in-Some.rest.now c.in-Some-split_first.boxes.now c.in-Some.record.now c.in-Some-split_first.below.now ids (take most_shapes ids)
    c.in-Some.ensures.cases.0 c.in-Some-shape_in.ensures (omega (arith, c.number.ensures.number, c.if-number-eq0.false)) c.in-Some-split_first.ensures.cases.0 refl refl
    (take c.min-children.result c.in-Some-split_first.boxes.now) c.boxes_joined-2.result (omega (arith, c.if-boxes-children.false, c.min-children.ensures, c.count.ensures, length-take most_shapes ids))
    (ap (λ n. take n c.in-Some-split_first.boxes.now) (omega (arith, c.min-children.ensures, c.count.ensures, length-take most_shapes ids))) c.boxes_joined-2.ensures
