use Rattle.std.proofs.Common.{subst}
use Rattle.room_model.specs.Schemas.{records_with}
use Rattle.room_model.specs.Replicas.{after_cut}
use Rattle.client_replica.specs.Standing.{document_of}
use Rattle.sync_client.specs.Standing.{Stands}
use Rattle.sync_client.proofs.client.SyncClient.lost.Goals as goal

pub returns-clause-stands : goal.returns-clause-stands
returns-clause-stands g c = λ state stands.
    subst (λ refused. Stands g.D.DocStore.records (record { base = records_with (document_of c.args.self.now.replica) state.base; client = record (after_cut state.client) { refused = refused } }) c.leave.new.self)
    stands.refused (c.leave.ensures.stands state stands)
