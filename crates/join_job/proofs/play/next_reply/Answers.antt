use Rattle.std.proofs.Common.{[], nat_lt, length, Ok, IfSome, subst, ◌≡◌}
use Rattle.recording_lines.specs.Answers.{OnLine, OnTooLong, IfEnd}
use Rattle.recording_lines.specs.Lines.{lines_left}
use Rattle.recording_lines.specs.Reading.{budget, to_come, LosesLine, BeginsTooLong}
use Rattle.room_link.specs.Exchange.{Tells}
use Rattle.join_job.proofs.NextLemmas.{next_taken, next_too_long, none_next}
use Rattle.join_job.proofs.TurnLemmas.{LineTo}
use Rattle.join_job.proofs.play.next_reply.Goals as goal

pub returns-in-Line-clause-comes : goal.returns-in-Line-clause-comes
returns-in-Line-clause-comes g c =
    let left = g.S.Source.left in
    let told = g.K.Link.told in
    let old = c.args.reader.now in
    let new = c.next_line.new.self in
    let come = to_come old (left c.args.source.now) in
    let further = to_come new (left c.next_line.new.source) in
    let script = c.args.script.now in
    let loses : LosesLine old.longest (budget old) come (budget new) further new.line =
    subst (λ n. OnLine (Ok n) (LosesLine old.longest (budget old) come (budget new) further new.line)) c.in-Line.is c.in_ok-next_line.ensures.line in
    next_taken script.room c.args.at old.longest (budget old) script.joiner c.take_line.new.self.joiner come further (budget new) new.line c.take_line.result (told c.args.link.now) (told c.take_line.new.link) loses
    (subst (λ l. Tells (LineTo c.args.at script.room l script.joiner c.take_line.result c.take_line.new.self.joiner) (told c.args.link.now) (told c.take_line.new.link)) c.line.ensures.line c.take_line.ensures.comes)

pub returns-in_ok-fault_reply-in-TooLong-clause-comes : goal.returns-in_ok-fault_reply-in-TooLong-clause-comes
returns-in_ok-fault_reply-in-TooLong-clause-comes g c =
    let old = c.args.reader.now in
    let come = to_come old (g.S.Source.left c.args.source.now) in
    let script = c.args.script.now in
    let long : IfSome come (λ bytes. BeginsTooLong old.longest (lines_left old.longest (budget old) bytes)) =
    subst (λ n. OnTooLong (Ok n) (IfSome come (λ bytes. BeginsTooLong old.longest (lines_left old.longest (budget old) bytes)))) c.in-TooLong.is c.in_ok-next_line.ensures.too_long in
    next_too_long script.room c.args.at old.longest (budget old) script.joiner script.joiner come c.in_ok-text-in-TooLong.text c.in_ok-fault_reply-in-TooLong.field-0 (g.K.Link.told c.args.link.now) c.requires long
    c.in_ok-text-in-TooLong.ensures c.in_ok-fault_reply-in-TooLong.ensures.text c.in_ok-fault_reply-in-TooLong.ensures.end

pub returns-in_ok-fault_reply-in-End-clause-comes : goal.returns-in_ok-fault_reply-in-End-clause-comes
returns-in_ok-fault_reply-in-End-clause-comes g c =
    let old = c.args.reader.now in
    let come = to_come old (g.S.Source.left c.args.source.now) in
    let script = c.args.script.now in
    let none : IfSome come (λ bytes. (lines_left old.longest (budget old) bytes ≡ []) × (c.in-End.whole ≡ nat_lt (length bytes) (budget old))) =
    subst (λ n. IfEnd (Ok n) (λ whole. IfSome come (λ bytes. (lines_left old.longest (budget old) bytes ≡ []) × (whole ≡ nat_lt (length bytes) (budget old))))) c.in-End.is c.in_ok-next_line.ensures.end in
    none_next script.room c.args.at old.longest (budget old) script.joiner script.joiner come c.in-End.whole c.in_ok-text-in-End.text c.in_ok-fault_reply-in-End.field-0 (g.K.Link.told c.args.link.now) none
    c.in_ok-text-in-End.ensures c.in_ok-fault_reply-in-End.ensures.text c.in_ok-fault_reply-in-End.ensures.end
