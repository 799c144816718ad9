use Rattle.sync_client.specs.Calls.{replica_of}
use Rattle.sync_client.proofs.ClientLemmas.{after_loss}
use Rattle.sync_client.proofs.client.SyncClient.leave.Goals as goal

pub returns-clause-stands : goal.returns-clause-stands
returns-clause-stands g c = λ state stands.
    let records = g.D.DocStore.records in
    let old = c.args.self.now in
    after_loss records state old c.part.new.self c.restart.new.self c.args.refused stands (c.part.ensures.ok (replica_of state) stands.replica) c.restart.ensures.pushes c.restart.ensures.sent
