use Rattle.world_laws.proofs.WaitingLemmas.{waiting_stand}
use Rattle.world_laws.proofs.pending.who_waits_has_pushed_nothing.Goals as goal

pub returns : goal.returns
returns g c schemas world lawful = waiting_stand schemas lawful world
