use Rattle.std.proofs.Common.{◌+◌, ◌≤◌, length, take}
use Rattle.signal_values.specs.Kept.{IsConnected}
use Rattle.signal_values.proofs.rows.connect.Given as goal

abbrev pub invariant-parents : goal.invariant-parents
invariant-parents l = record {
  connected : IsConnected l.initial.edges.children l.edges.children (take l.parent-index l.parents) l.child;
  spare : length l.parents ≤ l.edges.spare + l.parent-index;
}
