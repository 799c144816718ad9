use Rattle.world_laws.proofs.TakenLemmas.{has_parts}
use Rattle.world_laws.proofs.deliveries.bases_are_of_the_room.Goals as goal

pub returns-clause-document : goal.returns-clause-document
returns-clause-document g c schemas world number client lawful made at = (has_parts schemas lawful world number client made at).0

pub returns-clause-presence : goal.returns-clause-presence
returns-clause-presence g c schemas world number client lawful made at = (has_parts schemas lawful world number client made at).1
