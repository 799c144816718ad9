use Rattle.world_laws.proofs.OwedLemmas.{owed_stand}
use Rattle.world_laws.proofs.pending.connected_clients_owe_what_is_in_flight.Goals as goal

pub returns : goal.returns
returns g c schemas world lawful = owed_stand schemas lawful world
