use mir.Val.{SFits}
use Rattle.std.proofs.lemmas.Int.{to_z-of_z}
use Rattle.std.proofs.Common.{rules, w64, [], ◌∷◌, refl, ap, ◌∙◌}
use Rattle.room_model.specs.declared.line.OutLine.TheVariants as out
use Rattle.room_join.specs.Joiners.{out_line, show_line}
use Rattle.room_join.proofs.joiner.Joiner.show.Goals as goal

pub returns : goal.returns
returns c = λ schemas joiner stands.
    let range : SFits w64 c.reached.result = search rules in
    let clock = to_z-of_z w64 c.reached.result range ∙ c.reached.ensures schemas joiner.state stands.peer in
    let owed = c.owed.ensures schemas joiner.state stands.peer in
    let doc = c.in_ok-document.ensures schemas joiner.state stands.peer in
    let others = c.in_ok-others.ensures schemas joiner.state stands.peer in (
      record { joiner = joiner; lines = show_line schemas joiner.state ∷ [] },
      refl,
      c.in_ok-one_line.ensures ∙ ap (λ l. l ∷ []) (c.out_line.ensures ∙ (λ i. out_line (out.Show 0 (clock i) (doc i) (others i) (owed i)))),
      stands,
    )
