use Rattle.std.proofs.Common.{◌≡◌, ◌≤◌, ◌+◌}
use Rattle.recording_lines.specs.Reading.{budget, to_come, TakesUnread}
use Rattle.snapshot_jobs.proofs.SeekLemmas.{Passed}
use Rattle.snapshot_jobs.proofs.seek.seek.Given as goal

-- the lines up to here were passed by
abbrev pub invariant-lines : goal.invariant-lines
invariant-lines g l =
    let left = g.S.Source.left in
    let first = l.fn.reader in
    record {
      passed : Passed l.fn.longest first.longest l.fn.at (budget first) (to_come first (left l.fn.source)) l.at (budget l.reader) (to_come l.reader (left l.source));
      longest : l.reader.longest ≡ first.longest;
      number : l.at + budget l.reader ≤ l.fn.at + budget first;
      taken : TakesUnread first.unread l.reader.unread (left l.fn.source) (left l.source);
      faults : g.S.Source.faults l.fn.source ≤ g.S.Source.faults l.source;
    }

abbrev pub decreases-lines : goal.decreases-lines
decreases-lines g l = budget l.reader
