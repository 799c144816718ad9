-- What contracts see of a running room.
use Rattle.std.specs.Prelude.{Option, Some}
use Rattle.atomic_table.specs.Seated.{TableId}
use Rattle.room_run.specs.Openings.{Opening}
use Rattle.room_run.specs.declared.running.RunningRoom.{RunningRoom}

-- the room as it was opened
abbrev pub opening_of : RunningRoom → Opening
opening_of room = room.table.shared.key

-- which room it is: its table, and the room that was opened
abbrev pub id_of : RunningRoom → TableId × Option Opening
id_of room = (room.table.shared.table_id, Some room.table.shared.key)
