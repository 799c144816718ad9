use Rattle.std.proofs.Common.{◌≡◌, ◌++◌, take}
use Rattle.room_server.specs.Lines.{numbered, room_line}
use Rattle.room_server.proofs.WritingLemmas.{texts}
use Rattle.room_server.proofs.lines.add_rooms.Given as goal

-- the first lines are there
abbrev pub invariant-rooms : goal.invariant-rooms
invariant-rooms l = texts l.lines.items ≡ texts l.initial.lines.items ++ numbered room_line 0 (take l.room l.fn.closed)
