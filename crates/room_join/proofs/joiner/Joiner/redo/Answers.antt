use Rattle.std.proofs.Common.{[], ◌∷◌, is_some, ap, ◌∙◌}
use Rattle.doc_model.specs.Marks.{redo_diff}
use Rattle.room_model.specs.declared.line.OutLine.TheVariants as out
use Rattle.sync_peer.specs.Calls.{redone}
use Rattle.room_join.specs.Joiners.{out_line}
use Rattle.room_join.proofs.AnsweringLemmas.{answers_with}
use Rattle.room_join.proofs.joiner.Joiner.redo.Goals as goal

pub returns : goal.returns
returns g c = λ schemas joiner stands.
    answers_with schemas joiner c.args.self.now stands c.redo.new.self c.redo.ensures.views c.in_ok-one_line.field-0 (redone schemas joiner.state)
    (out_line (out.Redo 0 (is_some (redo_diff joiner.state.client.marks))) ∷ []) (c.in_ok-done.ensures.ok schemas joiner.state stands.peer)
    (c.in_ok-one_line.ensures ∙ ap (λ l. l ∷ []) (c.out_line.ensures ∙ ap (λ done. out_line (out.Redo 0 done)) (c.in_ok-done.ensures.answer schemas joiner.state stands.peer)))
