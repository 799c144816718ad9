use Rattle.std.proofs.Common.{◌≤◌, take}
use Rattle.room_link.specs.Held.{Extends}
use Rattle.replay_job.specs.Texts.{lines_text}
use Rattle.replay_job.proofs.writing.write_lines.Given as goal

-- the text of the lines so far was written
abbrev pub invariant-lines : goal.invariant-lines
invariant-lines g l = record {
  written : Extends (g.K.Sink.held l.fn.sink) (g.K.Sink.held l.sink) (lines_text (take l.line-index l.lines));
  faults_stay : g.K.Sink.faults l.fn.sink ≤ g.K.Sink.faults l.sink;
}
