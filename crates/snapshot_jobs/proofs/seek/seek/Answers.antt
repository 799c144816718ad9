use Rattle.std.proofs.Common.{◌≡◌, ◌<◌, [], nat_lt, length, Ok, true, false, IfSome, refl, sym, ap, subst, ◌∙◌, arith}
use Rattle.recording_lines.specs.Answers.{OnLine, OnTooLong, IfEnd}
use Rattle.recording_lines.specs.Lines.{lines_left}
use Rattle.recording_lines.specs.Reading.{budget, to_come, LosesLine, BeginsTooLong}
use Rattle.recording_lines.proofs.ReadingLemmas.{TakesUnread-nil, TakesUnread-trans}
use Rattle.snapshot_jobs.specs.Seeking.{is_passed}
use Rattle.snapshot_jobs.proofs.SeekLemmas.{passed_nothing, passed_on, finds_line, finds_too_long, finds_nothing}
use Rattle.snapshot_jobs.proofs.seek.seek.Goals as goal

pub returns-in_err-next_line-clause-taken : goal.returns-in_err-next_line-clause-taken
returns-in_err-next_line-clause-taken g c =
    let left = g.S.Source.left in
    TakesUnread-trans c.args.reader.now.unread c.lines.reader.unread c.next_line.new.self.unread (left c.args.source.now) (left c.lines.source) (left c.next_line.new.source)
    c.lines.invariant.taken c.in_err-next_line.ensures.taken

pub returns-then-not-is_passed-clause-found : goal.returns-then-not-is_passed-clause-found
returns-then-not-is_passed-clause-found g c =
    let left = g.S.Source.left in
    let first = c.args.reader.now in
    let old = c.lines.reader in
    let new = c.next_line.new.self in
    let come = to_come old (left c.lines.source) in
    let further = to_come new (left c.next_line.new.source) in
    let loses : LosesLine first.longest (budget old) come (budget new) further new.line =
    subst (λ l. LosesLine l (budget old) come (budget new) further new.line) c.lines.invariant.longest
    (subst (λ n. OnLine (Ok n) (LosesLine old.longest (budget old) come (budget new) further new.line)) c.in-Line.is c.in_ok-next_line.ensures.line) in
    let stays : is_passed c.args.longest new.line ≡ false = ap (is_passed c.args.longest) (sym c.line.ensures.line) ∙ (sym c.is_passed.ensures ∙ c.if-not-is_passed.true) in
    finds_line c.args.longest first.longest c.args.at (budget first) c.lines.at (budget old) (budget new) (to_come first (left c.args.source.now)) come further new.line c.lines.invariant.passed loses stays

pub returns-then-not-is_passed-clause-number : goal.returns-then-not-is_passed-clause-number
returns-then-not-is_passed-clause-number g c =
    let old = c.lines.reader in
    let new = c.next_line.new.self in
    let shorter : budget new < budget old = subst (λ n. OnLine (Ok n) (budget new < budget old)) c.in-Line.is c.in_ok-next_line.ensures.shorter in
    omega (arith, c.lines.invariant.number, shorter)

pub returns-then-not-is_passed-clause-taken : goal.returns-then-not-is_passed-clause-taken
returns-then-not-is_passed-clause-taken g c =
    let left = g.S.Source.left in
    TakesUnread-trans c.args.reader.now.unread c.lines.reader.unread c.next_line.new.self.unread (left c.args.source.now) (left c.lines.source) (left c.next_line.new.source)
    c.lines.invariant.taken c.in_ok-next_line.ensures.taken

pub returns-in-TooLong-clause-found : goal.returns-in-TooLong-clause-found
returns-in-TooLong-clause-found g c =
    let left = g.S.Source.left in
    let first = c.args.reader.now in
    let old = c.lines.reader in
    let new = c.next_line.new.self in
    let come = to_come old (left c.lines.source) in
    let long : IfSome come (λ bytes. BeginsTooLong first.longest (lines_left first.longest (budget old) bytes)) =
    subst (λ l. IfSome come (λ bytes. BeginsTooLong l (lines_left l (budget old) bytes))) c.lines.invariant.longest
    (subst (λ n. OnTooLong (Ok n) (IfSome come (λ bytes. BeginsTooLong old.longest (lines_left old.longest (budget old) bytes)))) c.in-TooLong.is c.in_ok-next_line.ensures.too_long) in
    finds_too_long c.args.longest first.longest c.args.at (budget first) c.lines.at (budget old) (budget new) (to_come first (left c.args.source.now)) come (to_come new (left c.next_line.new.source)) new.line
    c.lines.invariant.passed c.requires.wide long

pub returns-in-TooLong-clause-taken : goal.returns-in-TooLong-clause-taken
returns-in-TooLong-clause-taken g c =
    let left = g.S.Source.left in
    TakesUnread-trans c.args.reader.now.unread c.lines.reader.unread c.next_line.new.self.unread (left c.args.source.now) (left c.lines.source) (left c.next_line.new.source)
    c.lines.invariant.taken c.in_ok-next_line.ensures.taken

pub returns-in-End-clause-found : goal.returns-in-End-clause-found
returns-in-End-clause-found g c =
    let left = g.S.Source.left in
    let first = c.args.reader.now in
    let old = c.lines.reader in
    let new = c.next_line.new.self in
    let come = to_come old (left c.lines.source) in
    let none : IfSome come (λ bytes. (lines_left first.longest (budget old) bytes ≡ []) × (c.in-End.whole ≡ nat_lt (length bytes) (budget old))) =
    subst (λ l. IfSome come (λ bytes. (lines_left l (budget old) bytes ≡ []) × (c.in-End.whole ≡ nat_lt (length bytes) (budget old)))) c.lines.invariant.longest
    (subst (λ n. IfEnd (Ok n) (λ whole. IfSome come (λ bytes. (lines_left old.longest (budget old) bytes ≡ []) × (whole ≡ nat_lt (length bytes) (budget old))))) c.in-End.is c.in_ok-next_line.ensures.end) in
    finds_nothing c.args.longest first.longest c.args.at (budget first) c.lines.at (budget old) (budget new) (to_come first (left c.args.source.now)) come (to_come new (left c.next_line.new.source)) new.line c.in-End.whole
    c.lines.invariant.passed none

pub returns-in-End-clause-taken : goal.returns-in-End-clause-taken
returns-in-End-clause-taken g c =
    let left = g.S.Source.left in
    TakesUnread-trans c.args.reader.now.unread c.lines.reader.unread c.next_line.new.self.unread (left c.args.source.now) (left c.lines.source) (left c.next_line.new.source)
    c.lines.invariant.taken c.in_ok-next_line.ensures.taken

pub lines-init : goal.lines-init
lines-init g c =
    let reader = c.args.reader.now in
    let left = g.S.Source.left c.args.source.now in
    record {
      passed = passed_nothing c.args.longest reader.longest c.args.at (budget reader) (to_come reader left);
      longest = refl;
      number = omega arith;
      taken = TakesUnread-nil reader.unread left;
      faults = omega arith;
    }

pub overflow_add-at : goal.overflow_add-at
overflow_add-at g c = omega (arith, c.requires.number, c.lines.invariant.number)

pub lines-smaller : goal.lines-smaller
lines-smaller g c =
    let old = c.lines.reader in
    let new = c.next_line.new.self in
    subst (λ n. OnLine (Ok n) (budget new < budget old)) c.in-Line.is c.in_ok-next_line.ensures.shorter

pub lines-preserved : goal.lines-preserved
lines-preserved g c =
    let left = g.S.Source.left in
    let first = c.args.reader.now in
    let old = c.lines.reader in
    let new = c.next_line.new.self in
    let come = to_come old (left c.lines.source) in
    let further = to_come new (left c.next_line.new.source) in
    let loses : LosesLine first.longest (budget old) come (budget new) further new.line =
    subst (λ l. LosesLine l (budget old) come (budget new) further new.line) c.lines.invariant.longest
    (subst (λ n. OnLine (Ok n) (LosesLine old.longest (budget old) come (budget new) further new.line)) c.in-Line.is c.in_ok-next_line.ensures.line) in
    let passes : is_passed c.args.longest new.line ≡ true = ap (is_passed c.args.longest) (sym c.line.ensures.line) ∙ (sym c.is_passed.ensures ∙ c.if-not-is_passed.false) in
    let shorter : budget new < budget old = subst (λ n. OnLine (Ok n) (budget new < budget old)) c.in-Line.is c.in_ok-next_line.ensures.shorter in
    record {
      passed = passed_on c.args.longest first.longest c.args.at (budget first) c.lines.at (budget old) (budget new) (to_come first (left c.args.source.now)) come further new.line c.lines.invariant.passed loses passes;
      longest = c.in_ok-next_line.ensures.longest ∙ c.lines.invariant.longest;
      number = omega (arith, c.lines.invariant.number, shorter);
      taken = TakesUnread-trans first.unread old.unread new.unread (left c.args.source.now) (left c.lines.source) (left c.next_line.new.source) c.lines.invariant.taken c.in_ok-next_line.ensures.taken;
      faults = omega (arith, c.lines.invariant.faults, c.in_ok-next_line.ensures.faults_stay);
    }
