use Rattle.std.proofs.Common.{◌≡◌, ◌<◌, [], nat_lt, length, Ok, IfSome, subst}
use Rattle.recording_lines.specs.Answers.{OnLine, OnTooLong, IfEnd}
use Rattle.recording_lines.specs.Lines.{lines_left}
use Rattle.recording_lines.specs.Reading.{budget, to_come, LosesLine, BeginsTooLong}
use Rattle.replay_job.specs.Replies.{Becomes}
use Rattle.replay_job.proofs.GoingLemmas.{said_if}
use Rattle.replay_job.proofs.ProceedingLemmas.{proceeds_line, proceeds_too_long, proceeds_to_end}
use Rattle.replay_job.proofs.play.next_reply.Goals as goal

pub returns-in_ok-take_line-in-Line-clause-next : goal.returns-in_ok-take_line-in-Line-clause-next
returns-in_ok-take_line-in-Line-clause-next g c = λ progress reads.
    let left = g.S.Source.left in
    let old = c.args.reader.now in
    let new = c.next_line.new.self in
    let come = to_come old (left c.args.source.now) in
    let further = to_come new (left c.next_line.new.source) in
    let reply = c.in_ok-take_line-in-Line.field-0 in
    let world = c.take_line.new.self.world in
    let loses : LosesLine old.longest (budget old) come (budget new) further new.line =
    subst (λ n. OnLine (Ok n) (LosesLine old.longest (budget old) come (budget new) further new.line)) c.in-Line.is c.in_ok-next_line.ensures.line in
    proceeds_line c.args.replay.now.trace progress old.longest (budget old) (budget new) come further new.line reply world loses
    (subst (λ l. Becomes c.args.replay.now.trace progress l reply world) c.line.ensures.line (c.in_ok-take_line-in-Line.ensures.taken progress reads))

pub returns-in_ok-take_line-in-Line-clause-shorter : goal.returns-in_ok-take_line-in-Line-clause-shorter
returns-in_ok-take_line-in-Line-clause-shorter g c =
    let old = c.args.reader.now in
    let new = c.next_line.new.self in
    said_if c.in_ok-take_line-in-Line.field-0 (budget new < budget old)
    (subst (λ n. OnLine (Ok n) (budget new < budget old)) c.in-Line.is c.in_ok-next_line.ensures.shorter)

pub returns-in_ok-of-in-TooLong-clause-next : goal.returns-in_ok-of-in-TooLong-clause-next
returns-in_ok-of-in-TooLong-clause-next g c = λ progress reads.
    let left = g.S.Source.left in
    let old = c.args.reader.now in
    let new = c.next_line.new.self in
    let come = to_come old (left c.args.source.now) in
    let long : IfSome come (λ bytes. BeginsTooLong old.longest (lines_left old.longest (budget old) bytes)) =
    subst (λ n. OnTooLong (Ok n) (IfSome come (λ bytes. BeginsTooLong old.longest (lines_left old.longest (budget old) bytes)))) c.in-TooLong.is c.in_ok-next_line.ensures.too_long in
    proceeds_too_long c.args.replay.now.trace progress old.longest (budget old) (budget new) come (to_come new (left c.next_line.new.source)) c.in_ok-of-in-TooLong.field-0 c.args.replay.now.world c.requires long c.in_ok-of-in-TooLong.ensures reads

pub returns-in_ok-no_end_text-in-End-clause-next : goal.returns-in_ok-no_end_text-in-End-clause-next
returns-in_ok-no_end_text-in-End-clause-next g c = λ progress reads.
    let left = g.S.Source.left in
    let old = c.args.reader.now in
    let new = c.next_line.new.self in
    let come = to_come old (left c.args.source.now) in
    let none : IfSome come (λ bytes. (lines_left old.longest (budget old) bytes ≡ []) × (c.in-End.whole ≡ nat_lt (length bytes) (budget old))) =
    subst (λ n. IfEnd (Ok n) (λ whole. IfSome come (λ bytes. (lines_left old.longest (budget old) bytes ≡ []) × (whole ≡ nat_lt (length bytes) (budget old))))) c.in-End.is c.in_ok-next_line.ensures.end in
    proceeds_to_end c.args.replay.now.trace progress old.longest (budget old) (budget new) come (to_come new (left c.next_line.new.source)) c.in-End.whole c.in_ok-no_end_text-in-End.field-0 c.args.replay.now.world none c.in_ok-no_end_text-in-End.ensures reads
