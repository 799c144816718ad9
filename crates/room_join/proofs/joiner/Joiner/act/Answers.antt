use Rattle.std.proofs.Common.{sym, subst}
use Rattle.std.proofs.lemmas.Result.{IfOk-weaker}
use Rattle.room_join.specs.Joiners.{acts}
use Rattle.room_join.specs.Standing.{Answers}
use Rattle.room_join.proofs.joiner.Joiner.act.Goals as goal

pub returns-in-Edit : goal.returns-in-Edit
returns-in-Edit g c = IfOk-weaker c.edit.result _ _
    (λ answer is. λ schemas joiner stands. subst (λ act. Answers schemas (acts schemas act joiner) answer c.edit.new.self) (sym c.in-Edit.is) (is schemas joiner stands)) c.edit.ensures

pub returns-in-Presence : goal.returns-in-Presence
returns-in-Presence g c = IfOk-weaker c.presence.result _ _
    (λ answer is. λ schemas joiner stands. subst (λ act. Answers schemas (acts schemas act joiner) answer c.presence.new.self) (sym c.in-Presence.is) (is schemas joiner stands)) c.presence.ensures

pub returns-in-Mark : goal.returns-in-Mark
returns-in-Mark g c = IfOk-weaker c.mark.result _ _
    (λ answer is. λ schemas joiner stands. subst (λ act. Answers schemas (acts schemas act joiner) answer c.mark.new.self) (sym c.in-Mark.is) (is schemas joiner stands)) c.mark.ensures

pub returns-in-Undo : goal.returns-in-Undo
returns-in-Undo g c = IfOk-weaker c.undo.result _ _
    (λ answer is. λ schemas joiner stands. subst (λ act. Answers schemas (acts schemas act joiner) answer c.undo.new.self) (sym c.in-Undo.is) (is schemas joiner stands)) c.undo.ensures

pub returns-in-Redo : goal.returns-in-Redo
returns-in-Redo g c = IfOk-weaker c.redo.result _ _
    (λ answer is. λ schemas joiner stands. subst (λ act. Answers schemas (acts schemas act joiner) answer c.redo.new.self) (sym c.in-Redo.is) (is schemas joiner stands)) c.redo.ensures

pub returns-in-Bail : goal.returns-in-Bail
returns-in-Bail g c = IfOk-weaker c.bail.result _ _
    (λ answer is. λ schemas joiner stands. subst (λ act. Answers schemas (acts schemas act joiner) answer c.bail.new.self) (sym c.in-Bail.is) (is schemas joiner stands)) c.bail.ensures

pub returns-in-Watch : goal.returns-in-Watch
returns-in-Watch g c = IfOk-weaker c.watch.result _ _
    (λ answer is. λ schemas joiner stands. subst (λ act. Answers schemas (acts schemas act joiner) answer c.watch.new.self) (sym c.in-Watch.is) (is schemas joiner stands)) c.watch.ensures

pub returns-in-Query : goal.returns-in-Query
returns-in-Query g c = IfOk-weaker c.query.result _ _
    (λ answer is. λ schemas joiner stands. subst (λ act. Answers schemas (acts schemas act joiner) answer c.args.self.now) (sym c.in-Query.is) (is schemas joiner stands)) c.query.ensures

pub returns-in-Show : goal.returns-in-Show
returns-in-Show g c = IfOk-weaker c.show.result _ _
    (λ answer is. λ schemas joiner stands. subst (λ act. Answers schemas (acts schemas act joiner) answer c.args.self.now) (sym c.in-Show.is) (is schemas joiner stands)) c.show.ensures
