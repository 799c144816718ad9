use Rattle.std.proofs.Common.{sym, ap, subst, ◌∙◌}
use Rattle.join_job.specs.Endings.{ended_by, played_to}
use Rattle.join_job.specs.Playing.{PlaysIn}
use Rattle.join_job.proofs.GoingLemmas.{ended_is}
use Rattle.join_job.proofs.play.join_link.Goals as goal

pub returns-clause-played : goal.returns-clause-played
returns-clause-played g c = λ schemas tables.
    let left = g.S.Source.left c.args.source.now in
    let held = g.W.Sink.held in
    let told = g.K.Link.told in
    subst (λ by. PlaysIn schemas c.args.room left by (held c.args.sink.now) (held c.play.new.sink) (told c.args.link.now) (told c.play.new.link)) (sym (ap ended_by c.join_end.ensures ∙ ended_is c.play.result))
    (subst (λ r. PlaysIn schemas r left (played_to c.play.result) (held c.args.sink.now) (held c.play.new.sink) (told c.args.link.now) (told c.play.new.link)) (ap (λ s. s.room) c.new-script.ensures)
    (c.play.ensures.played schemas tables))
