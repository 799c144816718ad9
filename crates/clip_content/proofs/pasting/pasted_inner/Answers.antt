use Rattle.std.proofs.Common.{◌≡◌, IfOk, ap, subst, ◌∙◌}
use Rattle.std.specs.Prelude.{codes}
use Rattle.rooms_val.specs.Data.{text}
use Rattle.rooms_val.specs.View.{data_of}
use Rattle.clip_content.specs.Pasted.{new_shape, with_field}
use Rattle.clip_content.specs.View.{clip_tree, target_tree}
use Rattle.clip_content.proofs.pasting.pasted_inner.Goals as goal

pub returns : goal.returns
returns c =
    let new = c.in_ok-new.ensures in
    let parent = c.in_ok-parent.ensures ∙ ap (new_shape (clip_tree c.args.clip.now) (target_tree c.args.target.now)) c.text_or_empty.ensures in
    let copy = c.in_ok-copy.ensures in
    subst (λ to. IfOk c.with_place.result (λ p. data_of p ≡ to)) (λ i. with_field (codes "parentId") (text (parent i)) (with_field (codes "id") (text (new i)) (copy i))) c.with_place.ensures
