use Rattle.std.proofs.Common.{map, ap, ◌∙◌}
use Rattle.clip_content.specs.Pasted.{new_shape, indices_of, tops}
use Rattle.clip_content.proofs.AddLemmas.{clip_of, parent_apart}
use Rattle.clip_content.proofs.ChildLemmas.{children_in_clip}
use Rattle.clip_content.proofs.laws.keeps_children_in_order.Goals as goal

pub returns : goal.returns
returns c = λ source ids clip document target keys is id there.
    let has_all = clip_of source ids clip document target keys is in
    children_in_clip clip target has_all.few_shapes is.prefix (indices_of (tops clip) keys) has_all.rising_shapes has_all.shapes has_all.none id there (parent_apart source ids clip document target keys is id there)
    ∙ ap (map (new_shape clip target)) (has_all.own id there)
