use Rattle.std.proofs.Common.{◌∷◌, [], ◌++◌, map, sym, ap, ◌∙◌, append_assoc}
use Rattle.rooms_val.proofs.DataLemmas.{val_of-data_of}
use Rattle.live_views.specs.Telling.{by_number}
use Rattle.rec_format.specs.declared.printed.PrintedLine.TheVariants as printed
use Rattle.room_join.specs.Joiners.{told_line}
use Rattle.room_join.specs.declared.join_line.JoinLine.TheVariants as line
use Rattle.room_join.proofs.joiner.add_told.Goals as goal

pub told-preserved : goal.told-preserved
told-preserved c =
    let one = c.in-Some.one in
    let left = map told_line (by_number c.next.new.self.rest.items) in
    ap (λ lines. lines ++ left) c.in_ok-push.ensures.items
    ∙ append_assoc c.told.lines.items (line.Printed (printed.Told 0 one.1 one.0.number) ∷ []) left
    ∙ ap (λ v. c.told.lines.items ++ line.Printed (printed.Told 0 v one.0.number) ∷ left) (sym (val_of-data_of one.1))
    ∙ ap (λ all. c.told.lines.items ++ map told_line (by_number all)) (sym c.in-Some.ensures.steps.0)
    ∙ c.told.invariant
