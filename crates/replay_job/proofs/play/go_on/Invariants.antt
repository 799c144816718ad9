use Rattle.std.proofs.Common.{◌≡◌, ◌≤◌, ◌+◌}
use Rattle.recording_lines.specs.Reading.{budget, to_come, TakesUnread}
use Rattle.replay_job.specs.Endings.{rest_of}
use Rattle.replay_job.specs.Replies.{Reads}
use Rattle.replay_job.specs.Taking.{Progress}
use Rattle.replay_job.proofs.GoingLemmas.{Going}
use Rattle.replay_job.proofs.play.go_on.Given as goal

-- what was written so far is what the rest writes up to here, and the lines that are left are still to come
abbrev pub invariant-lines : goal.invariant-lines
invariant-lines g l =
    let left = g.S.Source.left in
    let held = g.K.Sink.held in
    let longest = l.fn.reader.longest in
    record {
      going : (progress : Progress) → Reads progress l.fn.replay.world
          → Going l.fn.replay.trace (rest_of progress l.fn.at longest (budget l.fn.reader) (to_come l.fn.reader (left l.fn.source))) l.replay.world longest l.at
          (budget l.reader) (to_come l.reader (left l.source)) (held l.fn.sink) (held l.sink);
      trace : l.replay.trace ≡ l.fn.replay.trace;
      longest : l.reader.longest ≡ longest;
      number : l.at + budget l.reader ≤ l.fn.at + budget l.fn.reader;
      taken : TakesUnread l.fn.reader.unread l.reader.unread (left l.fn.source) (left l.source);
      source_faults : g.S.Source.faults l.fn.source ≤ g.S.Source.faults l.source;
      sink_faults : g.K.Sink.faults l.fn.sink ≤ g.K.Sink.faults l.sink;
    }

abbrev pub decreases-lines : goal.decreases-lines
decreases-lines g l = budget l.reader
