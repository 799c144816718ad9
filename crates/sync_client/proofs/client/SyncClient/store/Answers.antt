use Rattle.std.proofs.Common.{ap, ◌∙◌}
use Rattle.sync_client.proofs.ClientLemmas.{shows}
use Rattle.sync_client.proofs.client.SyncClient.store.Goals as goal

pub returns-clause-shown : goal.returns-clause-shown
returns-clause-shown g c = λ state stands.
    let records = g.D.DocStore.records in
    ap records c.store.ensures ∙ shows records state c.args.self.now stands
