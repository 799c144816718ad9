use Rattle.world_laws.proofs.ClockLemmas.{clocks_stand}
use Rattle.world_laws.proofs.worlds.clocks_stand.Goals as goal

pub returns : goal.returns
returns g c = clocks_stand
