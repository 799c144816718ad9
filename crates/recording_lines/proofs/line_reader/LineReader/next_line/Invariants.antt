use Rattle.std.proofs.Common.{◌≤◌}
use Rattle.recording_lines.specs.Reading.{budget, to_come, TakesUnread}
use Rattle.recording_lines.proofs.AwaitsLemmas.{Awaits}
use Rattle.recording_lines.proofs.line_reader.LineReader.next_line.Given as goal

-- nothing of what was to come is lost
abbrev pub invariant-pieces : goal.invariant-pieces
invariant-pieces g l =
    let faults = g.S.Source.faults in
    let left = g.S.Source.left in
    record {
      awaits : Awaits l.fn.self.longest (to_come l.fn.self (left l.fn.source)) (budget l.fn.self) l.self (left l.source);
      faults_stay : faults l.fn.source ≤ faults l.source;
      taken : TakesUnread l.fn.self.unread l.self.unread (left l.fn.source) (left l.source);
    }

abbrev pub decreases-pieces : goal.decreases-pieces
decreases-pieces g l = l.self.unread
