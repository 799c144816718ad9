use Rattle.sync_world.proofs.RefusalLemmas.{refuses_none}
use Rattle.sync_world.proofs.laws.clients_refuse_no_message.Goals as goal

pub returns : goal.returns
returns g c = refuses_none
