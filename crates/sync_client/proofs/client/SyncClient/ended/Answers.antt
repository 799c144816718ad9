use Rattle.std.proofs.Common.{ap, subst, ◌∙◌}
use Rattle.room_model.specs.Schemas.{records_with}
use Rattle.room_model.specs.Replicas.{after_cut}
use Rattle.client_replica.specs.Standing.{document_of}
use Rattle.sync_client.specs.Standing.{Stands}
use Rattle.sync_client.proofs.ClientLemmas.{end_is}
use Rattle.sync_client.proofs.client.SyncClient.ended.Goals as goal

pub returns-clause-stands : goal.returns-clause-stands
returns-clause-stands g c = λ state stands.
    subst (λ client. Stands g.D.DocStore.records (record { base = records_with (document_of c.args.self.now.replica) state.base; client = client }) c.leave.new.self)
    (ap (λ refused. record (after_cut state.client) { refused = refused }) (c.refusal.ensures state.client stands.refused) ∙ end_is c.args.reason state.client) (c.leave.ensures.stands state stands)
