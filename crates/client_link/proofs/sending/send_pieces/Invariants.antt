use Rattle.std.proofs.Common.{◌≤◌}
use Rattle.client_link.proofs.SendingLemmas.{IsGone}
use Rattle.room_link.specs.Exchange.{Tells}
use Rattle.client_link.proofs.sending.send_pieces.Given as goal

-- the pieces so far went out
abbrev pub invariant-pieces : goal.invariant-pieces
invariant-pieces g l = record {
  faults_stay : g.K.Link.faults l.fn.link ≤ g.K.Link.faults l.link;
  sent : Tells (IsGone l.piece-index l.pieces) (g.K.Link.told l.fn.link) (g.K.Link.told l.link);
}
