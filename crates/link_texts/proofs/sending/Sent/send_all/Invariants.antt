use Rattle.std.proofs.Common.{◌≤◌, take}
use Rattle.link_texts.specs.Sending.{ArePrinted}
use Rattle.link_texts.proofs.SendingLemmas.{PutsSuch}
use Rattle.room_link.specs.Exchange.{Tells}
use Rattle.link_texts.proofs.sending.Sent.send_all.Given as goal

-- what was gone over went out
abbrev pub invariant-outs : goal.invariant-outs
invariant-outs g l = record {
  faults_stay : g.K.Link.faults l.fn.link ≤ g.K.Link.faults l.link;
  sent : Tells (PutsSuch (ArePrinted (take l.out-index l.outs)) l.fn.self l.self) (g.K.Link.told l.fn.link) (g.K.Link.told l.link);
}
