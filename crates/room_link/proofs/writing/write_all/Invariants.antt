use Rattle.std.proofs.Common.{◌-◌, ◌≤◌, take, length}
use Rattle.room_link.specs.Held.{Extends}
use Rattle.room_link.proofs.writing.write_all.Given as goal

abbrev pub invariant-writes : goal.invariant-writes
invariant-writes g l =
    let faults = g.K.Sink.faults in
    let held = g.K.Sink.held in
    record {
      within : l.at ≤ length l.bytes;
      faults_stay : faults l.fn.sink ≤ faults l.sink;
      written : Extends (held l.fn.sink) (held l.sink) (take l.at l.bytes);
    }

abbrev pub decreases-writes : goal.decreases-writes
decreases-writes g l = length l.bytes - l.at
