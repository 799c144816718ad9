use Rattle.std.specs.Prelude.{◌≡◌, All}
use Rattle.room_run.specs.Passes.{room_of_gone}
use Rattle.room_run.specs.Rooms.{id_of}
use Rattle.test_with_served.proofs.plays.play_in.Given as goal

-- who is gone was of the room
abbrev pub invariant-parts : goal.invariant-parts
invariant-parts g l = All (λ gone. room_of_gone gone ≡ id_of l.fn.room) l.notes.gones.items
