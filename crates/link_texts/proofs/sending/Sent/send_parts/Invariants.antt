use Rattle.std.proofs.Common.{◌≡◌, ◌+◌, ◌≤◌, length, drop}
use Rattle.link_texts.proofs.SendingLemmas.{IsSent, pieces_of}
use Rattle.room_link.specs.Exchange.{Tells}
use Rattle.link_texts.proofs.sending.Sent.send_parts.Given as goal

-- the pieces so far went out, and those of the other parts are left
abbrev pub invariant-parts : goal.invariant-parts
invariant-parts g l = record {
  to_come : l.to_come + l.part-index ≡ length l.parts;
  faults_stay : g.K.Link.faults l.fn.link ≤ g.K.Link.faults l.link;
  sent : Tells (IsSent (pieces_of l.parts) (pieces_of (drop l.part-index l.parts)) l.fn.self l.self) (g.K.Link.told l.fn.link) (g.K.Link.told l.link);
}
