use Rattle.std.proofs.Common.{◌≤◌, take}
use Rattle.client_link.specs.Sending.{ArePut, Puts}
use Rattle.room_link.specs.Exchange.{Tells}
use Rattle.client_link.proofs.sending.send_all.Given as goal

-- what was gone over went out
abbrev pub invariant-sayings : goal.invariant-sayings
invariant-sayings g l = record {
  faults_stay : g.K.Link.faults l.fn.link ≤ g.K.Link.faults l.link;
  sent : Tells (Puts (ArePut (take l.saying-index l.sayings))) (g.K.Link.told l.fn.link) (g.K.Link.told l.link);
}
