use Rattle.std.proofs.Common.{◌≡◌, IfOk, subst, ◌∙◌}
use Rattle.std.specs.Prelude.{codes}
use Rattle.rooms_val.specs.View.{data_of}
use Rattle.clip_content.specs.Pasted.{with_field}
use Rattle.clip_content.proofs.pasting.moved_by.Goals as goal

pub returns : goal.returns
returns c =
    let x = c.moved_x.ensures in
    let y = c.moved_y.ensures in
    let copy = c.in_ok-copy.ensures in
    let moved = c.in_ok-moved.ensures ∙ (λ i. with_field (codes "x") (x i) (copy i)) in
    subst (λ to. IfOk c.with_field-2.result (λ m. data_of m ≡ to)) (λ i. with_field (codes "y") (y i) (moved i)) c.with_field-2.ensures
