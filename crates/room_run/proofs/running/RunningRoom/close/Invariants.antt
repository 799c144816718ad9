use Rattle.std.proofs.Common.{◌≡◌, ◌++◌, map}
use Rattle.std.specs.Prelude.{All}
use Rattle.room_run.specs.Passes.{room_of_gone}
use Rattle.room_run.specs.Rooms.{id_of}
use Rattle.room_run.specs.Turn.{HasTurn}
use Rattle.room_run.proofs.CloseLemmas.{note_of_gone}
use Rattle.room_run.proofs.running.RunningRoom.close.Given as goal

-- those taken so far are noted, in their order
abbrev pub invariant-gone : goal.invariant-gone
invariant-gone g l =
    (l.yielded ++ l.one-iterator.rest.items ≡ l.fn.gone.items)
    × All (λ x. room_of_gone x ≡ id_of l.fn.self) l.one-iterator.rest.items
    × (l.seat.table_id ≡ l.fn.self.table.shared.table_id)
    × HasTurn l.seat.me l.held
    × (l.seat.me.0.notes ≡ map note_of_gone l.yielded)
