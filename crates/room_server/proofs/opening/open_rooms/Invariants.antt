use Rattle.std.proofs.Common.{◌≡◌, ◌≤◌, All, vec_len, vec_capacity}
use Rattle.room_server.specs.Opened.{IsOpened}
use Rattle.room_server.proofs.opening.open_rooms.Given as goal

-- as many rooms are opened as turns were made
abbrev pub invariant-rooms : goal.invariant-rooms
invariant-rooms l = (vec_len l.rooms ≡ l.counter) × (l.count ≤ vec_capacity l.rooms) × All IsOpened l.rooms.items
