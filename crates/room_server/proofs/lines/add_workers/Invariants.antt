use Rattle.std.proofs.Common.{◌≡◌, ◌++◌, take}
use Rattle.room_server.specs.Lines.{numbered, worker_line}
use Rattle.room_server.proofs.WritingLemmas.{texts}
use Rattle.room_server.proofs.lines.add_workers.Given as goal

-- the first lines are there
abbrev pub invariant-tallies : goal.invariant-tallies
invariant-tallies l = texts l.lines.items ≡ texts l.initial.lines.items ++ numbered worker_line 0 (take l.worker l.fn.tallies)
