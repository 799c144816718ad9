use Rattle.world_laws.proofs.RequestLemmas.{heard_stand}
use Rattle.world_laws.proofs.requests.requests_are_heard.Goals as goal

pub returns : goal.returns
returns g c = heard_stand
