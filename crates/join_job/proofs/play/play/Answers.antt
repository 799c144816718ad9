use Rattle.std.proofs.lemmas.Result.{err_from_is_err_and}
use Rattle.recording_lines.specs.Lines.{most_bytes}
use Rattle.recording_lines.proofs.ReadingLemmas.{TakesUnread-nil}
use Rattle.join_job.proofs.GoingLemmas.{nothing_played, front_read}
use Rattle.join_job.proofs.play.play.Goals as goal

pub returns-in_err-reader-clause-played : goal.returns-in_err-reader-clause-played
returns-in_err-reader-clause-played g c =
    let p = err_from_is_err_and c.from_residual.result c.from_residual.ensures.1 in
    let held = g.W.Sink.held c.args.sink.now in
    rw p.1 (nothing_played c.args.script.now.room (g.S.Source.left c.args.source.now) held held (g.K.Link.told c.args.link.now))

pub returns-in_err-reader-clause-reads : goal.returns-in_err-reader-clause-reads
returns-in_err-reader-clause-reads g c =
    let left = g.S.Source.left c.args.source.now in
    front_read most_bytes most_bytes left left (TakesUnread-nil most_bytes left)
