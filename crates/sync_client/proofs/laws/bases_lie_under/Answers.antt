use Rattle.std.specs.Prelude.{map}
use Rattle.schema_core.specs.SchemaOf.{schema_tree}
use Rattle.client_replica.specs.Works.{work_of}
use Rattle.client_replica.proofs.ReplicaLemmas.{undone}
use Rattle.sync_client.specs.Calls.{replica_of}
use Rattle.sync_client.proofs.laws.bases_lie_under.Goals as goal

pub returns : goal.returns
returns g c = λ records state client stands.
    let r = client.replica in
    undone (schema_tree r.schema) (records r.store) (map work_of r.works.items) r.stash r.others (replica_of state) stands.replica.0
