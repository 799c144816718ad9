use Rattle.std.proofs.Common.{refl}
use Rattle.room_model.specs.Replicas.{edit}
use Rattle.sync_client.specs.Calls.{replica_of}
use Rattle.sync_client.proofs.ClientLemmas.{on_err, after_work, still}
use Rattle.rooms_val.proofs.Truths.{on_ok_with}
use Rattle.sync_client.proofs.client.SyncClient.edit.Goals as goal

pub returns-clause-ok : goal.returns-clause-ok
returns-clause-ok g c =
    let records = g.D.DocStore.records in
    let old = c.args.self.now in
    on_ok_with c.edit.result (λ told state stands is.
    after_work records state old c.edit.new.self (edit c.args.diff) stands (told (replica_of state) stands.replica is) (λ shut. (c.args.diff, refl))) c.edit.ensures.ok

pub returns-clause-err : goal.returns-clause-err
returns-clause-err g c =
    let records = g.D.DocStore.records in
    let old = c.args.self.now in
    on_err c.edit.result (λ told state stands. still records state old c.edit.new.self stands (told (replica_of state) stands.replica)) c.edit.ensures.err
