use Rattle.std.proofs.Common.{ap, ◌∙◌}
use Rattle.rooms_val.specs.View.{data_of}
use Rattle.clip_content.specs.Pasted.{new_binding, pasted_binding}
use Rattle.clip_content.specs.View.{clip_tree, target_tree}
use Rattle.clip_content.proofs.KeptLemmas.{put_next}
use Rattle.clip_content.proofs.pasting.put_bindings.Goals as goal

pub bindings-preserved : goal.bindings-preserved
bindings-preserved c =
    let clip = clip_tree c.args.clip.now in
    let target = target_tree c.args.target.now in
    let item = c.bindings-item.result in
    put_next (λ e. (new_binding clip target e.0, pasted_binding clip target e)) c.as_slice-id-items.result.now c.bindings.id-index item c.bindings-test.true c.bindings-item.is _ c.bindings.diff c.put.new.self c.bindings.invariant
    c.in_ok-new.new (data_of c.in_ok-pasted.pasted)
    (c.in_ok-new.ensures ∙ ap (new_binding clip target) c.as_str.ensures.bytes)
    (c.in_ok-pasted.ensures ∙ ap (λ k. pasted_binding clip target (k, data_of item.1)) c.as_str-in-bindings.ensures.bytes)
    c.in_ok-put.ensures.ok
