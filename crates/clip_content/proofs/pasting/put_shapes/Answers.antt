use Rattle.std.proofs.Common.{ap, ◌∙◌}
use Rattle.rooms_val.specs.View.{data_of}
use Rattle.clip_content.specs.Pasted.{new_shape, pasted_shape}
use Rattle.clip_content.specs.View.{clip_tree, target_tree}
use Rattle.clip_content.proofs.KeptLemmas.{put_next}
use Rattle.clip_content.proofs.pasting.put_shapes.Goals as goal

pub shapes-preserved : goal.shapes-preserved
shapes-preserved c =
    let clip = clip_tree c.args.clip.now in
    let target = target_tree c.args.target.now in
    let item = c.shapes-item.result in
    put_next (λ e. (new_shape clip target e.0, pasted_shape clip target c.args.indices.now e)) c.as_slice-id-items.result.now c.shapes.id-index item c.shapes-test.true c.shapes-item.is _ c.shapes.diff c.put.new.self c.shapes.invariant
    c.in_ok-new.new (data_of c.in_ok-pasted.pasted)
    (c.in_ok-new.ensures ∙ ap (new_shape clip target) c.as_str.ensures.bytes)
    (c.in_ok-pasted.ensures ∙ ap (λ k. pasted_shape clip target c.args.indices.now (k, data_of item.1)) c.as_str-in-shapes.ensures.bytes)
    c.in_ok-put.ensures.ok
