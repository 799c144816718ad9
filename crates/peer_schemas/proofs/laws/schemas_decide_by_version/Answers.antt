use Rattle.peer_schemas.proofs.ClientLemmas.{decided_by}
use Rattle.peer_schemas.proofs.laws.schemas_decide_by_version.Goals as goal

pub returns : goal.returns
returns c = decided_by
