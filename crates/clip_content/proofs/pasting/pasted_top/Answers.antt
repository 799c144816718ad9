use Rattle.std.proofs.Common.{◌≡◌, IfOk, subst, ◌∙◌}
use Rattle.std.specs.Prelude.{codes}
use Rattle.rooms_val.specs.Data.{text}
use Rattle.rooms_val.specs.View.{data_of}
use Rattle.clip_content.specs.Pasted.{with_field}
use Rattle.clip_content.proofs.pasting.pasted_top.Goals as goal

pub returns : goal.returns
returns c =
    let new = c.in_ok-new.ensures in
    let parent = c.in_ok-parent.ensures in
    let moved = c.in_ok-moved.ensures in
    let index = c.in_ok-index.ensures in
    let placed = c.in_ok-placed.ensures ∙ (λ i. with_field (codes "parentId") (text (parent i)) (with_field (codes "id") (text (new i)) (moved i))) in
    subst (λ d. IfOk c.with_field.result (λ p. data_of p ≡ d)) (λ i. with_field (codes "index") (text (index i)) (placed i)) c.with_field.ensures
