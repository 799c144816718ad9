-- What becomes of sessions that talk in a running room.
use Rattle.std.specs.Prelude.{◌≡◌, List, Result, IfOk, All}
use Rattle.room_run.specs.Passes.{room_of_gone}
use Rattle.room_run.specs.Rooms.{id_of}
use Rattle.room_run.specs.declared.running.RunningRoom.{RunningRoom}
use Rattle.test_with_room_runs.specs.declared.talks.Talk.{Talk}
use Rattle.rooms_val.specs.declared.memory.OutOfMemory.{OutOfMemory}

-- a session has left its running room, unless memory was refused
abbrev pub HasLeft : RunningRoom → Result Talk OutOfMemory → Type 0
HasLeft room talk = IfOk talk (λ t. room_of_gone t.gone ≡ id_of room)

-- the same of each of some
abbrev pub AllLeft : RunningRoom → List (Result Talk OutOfMemory) → Type 0
AllLeft room talks = All (HasLeft room) talks
