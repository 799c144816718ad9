use Rattle.std.proofs.Common.{◌-◌, ◌≤◌, vec_len}
use Rattle.room_model.specs.declared.limits.TheConstants.{MOST_CLIENTS}
use Rattle.shared_board.proofs.board.Board.next_number.Given as goal

-- so many clients are kept
abbrev pub invariant-clients : goal.invariant-clients
invariant-clients l = l.number ≤ vec_len l.self.world.live.clients

abbrev pub decreases-clients : goal.decreases-clients
decreases-clients l = MOST_CLIENTS - l.number
