use mir.Val.{SFits}
use Rattle.std.proofs.lemmas.Int.{to_z-of_z}
use Rattle.std.proofs.Common.{rules, w64, [], ◌∷◌, ◌∙◌}
use Rattle.std.proofs.lemmas.Result.{IfOk-weaker}
use Rattle.room_join.specs.declared.join_line.JoinLine.TheVariants as line
use Rattle.room_join.proofs.joiner.Joiner.end.Goals as goal

pub returns : goal.returns
returns c = IfOk-weaker c.one_line.result _ _
    (λ lines is. λ schemas joiner stands.
    let range : SFits w64 c.reached.result = search rules in
    let clock = to_z-of_z w64 c.reached.result range ∙ c.reached.ensures schemas joiner.state stands.peer in
    let owed = c.owed.ensures schemas joiner.state stands.peer in
    is ∙ (λ i. line.End (clock i) (owed i) ∷ []))
    c.one_line.ensures
