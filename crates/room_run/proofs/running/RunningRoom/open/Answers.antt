use Rattle.std.proofs.Common.{rules, ◌≡◌, List, [], ◌∷◌, ◌++◌, Option, Some, sym, ap, subst, ◌∙◌}
use Rattle.atomic_table.specs.Table.{opening as begun}
use Rattle.room_run.proofs.StepLemmas.{opens, same_snapshot}
use Rattle.room_run.specs.Rule.{Kept, newcomer, story}
use Rattle.room_run.specs.declared.views.Story.{Story}
use Rattle.room_run.proofs.running.RunningRoom.open.Goals as goal

pub new-requires-2 : goal.new-requires-2
new-requires-2 c =
    let opening = c.of-opening.result in
    let same = same_snapshot c.new.result.opening opening (c.new.ensures.opening ∙ sym c.of-opening.ensures) in
    let is : c.new.result ≡ story opening [] = λ i. story (same i) (c.new.ensures.pen i) in
    let items : c.push_reserved.new.self.items ≡ Some (story opening []) ∷ [] =
    c.push_reserved.ensures.items ∙ (ap (λ l. l ++ Some c.new.result ∷ []) c.in_ok-slots.ensures.items ∙ ap (λ s. Some s ∷ []) is) in
    subst (λ (xs : List (Option Story)). Kept opening (begun (0 ∷ 0 ∷ []) xs (newcomer opening))) (sym items) (opens opening)
