use Rattle.std.proofs.Common.{◌≡◌, map, IfOk, sym, ap, subst, ◌∙◌}
use Rattle.std.specs.List.{find}
use Rattle.std.specs.Option.{option_or}
use Rattle.std.proofs.lemmas.List.Folds.{find-append}
use Rattle.side_effects.specs.Records.{has}
use Rattle.clip_content.specs.Pasted.{new_shape, new_binding}
use Rattle.clip_content.specs.View.{clip_tree, target_tree}
use Rattle.clip_content.proofs.new_ids.first_taken.Goals as goal

pub returns-in-Some : goal.returns-in-Some
returns-in-Some c =
    let clip = clip_tree c.args.clip.now in
    let target = target_tree c.args.target.now in
    let shapes = map (λ e. new_shape clip target e.0) clip.shapes in
    ap (λ o. option_or o (find (has c.args.records.now) shapes)) (sym c.in-Some.is ∙ c.in_ok-id.ensures)
    ∙ sym (find-append (has c.args.records.now) (map (λ e. new_binding clip target e.0) clip.bindings) shapes)

pub returns-in-None : goal.returns-in-None
returns-in-None c =
    let clip = clip_tree c.args.clip.now in
    let target = target_tree c.args.target.now in
    let shapes = map (λ e. new_shape clip target e.0) clip.shapes in
    subst (λ o. IfOk c.first_of-in-None.result (λ taken. taken ≡ o))
    (ap (λ o. option_or o (find (has c.args.records.now) shapes)) (sym c.in-None.is ∙ c.in_ok-id.ensures)
    ∙ sym (find-append (has c.args.records.now) (map (λ e. new_binding clip target e.0) clip.bindings) shapes))
    c.first_of-in-None.ensures
