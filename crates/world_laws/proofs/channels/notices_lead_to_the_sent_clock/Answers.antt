use Rattle.world_laws.proofs.DownLemmas.{sent_stand}
use Rattle.world_laws.proofs.channels.notices_lead_to_the_sent_clock.Goals as goal

pub returns : goal.returns
returns g c = sent_stand
