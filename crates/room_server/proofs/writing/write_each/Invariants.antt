use Rattle.std.proofs.Common.{◌≤◌, take}
use Rattle.room_link.specs.Held.{Extends}
use Rattle.room_server.proofs.WritingLemmas.{texts}
use Rattle.room_server.proofs.writing.write_each.Given as goal

-- the text of the lines so far was written
abbrev pub invariant-lines : goal.invariant-lines
invariant-lines g l = record {
  written : Extends (g.K.Sink.held l.fn.sink) (g.K.Sink.held l.sink) (texts (take l.line-index l.lines));
  faults_stay : g.K.Sink.faults l.fn.sink ≤ g.K.Sink.faults l.sink;
}
