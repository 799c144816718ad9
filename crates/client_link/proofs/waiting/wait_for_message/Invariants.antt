use Rattle.std.proofs.Common.{◌≤◌, ◌<◌, ◌+◌, ◌-◌}
use Rattle.client_link.specs.declared.waiting.TheConstants.{MOST_IDLES}
use Rattle.client_link.proofs.WaitingLemmas.{IsWaiting, still}
use Rattle.room_link.specs.Exchange.{Tells}
use Rattle.client_link.proofs.waiting.wait_for_message.Given as goal

-- what came so far says nothing yet, with so many Idles among it
abbrev pub invariant-arrivals : goal.invariant-arrivals
invariant-arrivals g l = record {
  few : l.idles < MOST_IDLES;
  faults_stay : g.K.Link.faults l.fn.link ≤ g.K.Link.faults l.link;
  waits : Tells (IsWaiting l.fn.assembler l.idles l.assembler) (g.K.Link.told l.fn.link) (g.K.Link.told l.link);
}

-- fewer texts or fewer Idles may still come
abbrev pub decreases-arrivals : goal.decreases-arrivals
decreases-arrivals g l = still l.assembler.gathered + (MOST_IDLES - l.idles)
