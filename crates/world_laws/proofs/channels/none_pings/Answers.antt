use Rattle.world_laws.proofs.PingLemmas.{pings_stand}
use Rattle.world_laws.proofs.channels.none_pings.Goals as goal

pub returns : goal.returns
returns g c = pings_stand
