use Rattle.peer_schemas.proofs.ClientLemmas.{lawful}
use Rattle.peer_schemas.proofs.laws.tables_are_lawful.Goals as goal

pub returns : goal.returns
returns c = lawful
