use Rattle.std.proofs.Common.{◌∷◌, [], ◌++◌, map, sym, ap, ◌∙◌, append_assoc}
use Rattle.rooms_val.proofs.DataLemmas.{val_of-data_of}
use Rattle.live_views.specs.Telling.{by_number}
use Rattle.rec_format.specs.declared.printed.PrintedLine.TheVariants as printed
use Rattle.world_views.specs.Views.{told_line}
use Rattle.world_views.proofs.lines.add_told.Goals as goal

pub told-preserved : goal.told-preserved
told-preserved c =
    let one = c.in-Some.one in
    let client = c.args.client in
    let left = map (told_line client) (by_number c.next.new.self.rest.items) in
    ap (λ lines. lines ++ left) c.in_ok-push.ensures.items
    ∙ append_assoc c.told.lines.items (printed.Told client one.1 one.0.number ∷ []) left
    ∙ ap (λ v. c.told.lines.items ++ printed.Told client v one.0.number ∷ left) (sym (val_of-data_of one.1))
    ∙ ap (λ all. c.told.lines.items ++ map (told_line client) (by_number all)) (sym c.in-Some.ensures.steps.0)
    ∙ c.told.invariant
