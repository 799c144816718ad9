use Rattle.std.proofs.Common.{◌≡◌, ◌≤◌, ◌+◌, false}
use Rattle.recording_lines.specs.Reading.{budget, to_come, TakesUnread}
use Rattle.replay_job.specs.Endings.{rest_of}
use Rattle.replay_job.specs.Replies.{Reads}
use Rattle.replay_job.specs.Taking.{Progress}
use Rattle.snapshot_jobs.proofs.ComingLemmas.{Coming}
use Rattle.snapshot_jobs.proofs.save.read_to_end.Given as goal

-- what the lines that are left come to, that does the whole
abbrev pub invariant-lines : goal.invariant-lines
invariant-lines g l =
    let left = g.S.Source.left in
    let first = l.fn.reader in
    record {
      coming : (progress : Progress) → Reads progress l.fn.replay.world
          → Coming (rest_of progress 1 first.longest (budget first) (to_come first (left l.fn.source))) l.replay.world first.longest l.at (budget l.reader) (to_come l.reader (left l.source));
      silent : l.replay.trace ≡ false;
      longest : l.reader.longest ≡ first.longest;
      number : l.at + budget l.reader ≤ 1 + budget first;
      taken : TakesUnread first.unread l.reader.unread (left l.fn.source) (left l.source);
      faults : g.S.Source.faults l.fn.source ≤ g.S.Source.faults l.source;
    }

abbrev pub decreases-lines : goal.decreases-lines
decreases-lines g l = budget l.reader
