use Rattle.std.specs.Prelude.{◌≡◌, All}
use Rattle.room_run.specs.Passes.{room_of_gone}
use Rattle.room_run.specs.Rooms.{id_of}
use Rattle.test_with_room_runs.specs.Talks.{AllLeft}
use Rattle.test_with_room_runs.proofs.talks.part_talks.Given as goal

-- those that are gone were of the room, and so were those that are left to see
abbrev pub invariant-talks : goal.invariant-talks
invariant-talks l = AllLeft l.fn.room l.talk-iterator.rest.items × All (λ gone. room_of_gone gone ≡ id_of l.fn.room) l.gones.items
