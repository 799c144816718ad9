use Rattle.std.proofs.Common.{◌≡◌, IfOk, ap, subst, ◌∙◌}
use Rattle.std.specs.Prelude.{codes}
use Rattle.rooms_val.specs.Data.{text}
use Rattle.rooms_val.specs.View.{data_of}
use Rattle.clip_content.specs.Pasted.{new_shape, with_field}
use Rattle.clip_content.specs.View.{clip_tree, target_tree}
use Rattle.clip_content.proofs.pasting.pasted_binding.Goals as goal

pub returns : goal.returns
returns c =
    let shape = new_shape (clip_tree c.args.clip.now) (target_tree c.args.target.now) in
    let new = c.in_ok-new.ensures in
    let from = c.in_ok-from.ensures ∙ ap shape c.text_or_empty.ensures in
    let to = c.in_ok-to.ensures ∙ ap shape c.text_or_empty-2.ensures in
    let copy = c.in_ok-copy.ensures in
    let named = c.in_ok-named.ensures ∙ (λ i. with_field (codes "id") (text (new i)) (copy i)) in
    let begun = c.in_ok-begun.ensures ∙ (λ i. with_field (codes "fromId") (text (from i)) (named i)) in
    subst (λ d. IfOk c.with_field-3.result (λ p. data_of p ≡ d)) (λ i. with_field (codes "toId") (text (to i)) (begun i)) c.with_field-3.ensures
