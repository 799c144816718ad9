-- The passes of a script.
use Rattle.std.specs.Prelude.{◌≡◌, All}
use Rattle.room_run.specs.Passes.{room_of, room_of_gone}
use Rattle.room_run.specs.Rooms.{id_of}
use Rattle.room_run.specs.declared.running.RunningRoom.{RunningRoom}
use Rattle.test_with_room_runs.specs.declared.cast.Cast.{Cast}

-- the passes are of a running room, and those that are gone were
abbrev pub AreOf : RunningRoom → Cast → Type 0
AreOf room cast =
    All (λ pass. room_of pass ≡ id_of room) cast.passes.items × All (λ gone. room_of_gone gone ≡ id_of room) cast.gones.items
