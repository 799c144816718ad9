use Rattle.std.proofs.Common.{sym, ap, subst, ◌∙◌}
use Rattle.room_model.specs.Replicas.{is_open, presence}
use Rattle.client_replica.specs.Standing as replica
use Rattle.sync_client.specs.Calls.{replica_of}
use Rattle.sync_client.proofs.ClientLemmas.{own_open, still, if_err}
use Rattle.sync_client.proofs.client.SyncClient.presence.Goals as goal

pub returns-in_err-show-clause-err : goal.returns-in_err-show-clause-err
returns-in_err-show-clause-err g c =
    let records = g.D.DocStore.records in
    let old = c.args.self.now in
    if_err c.from_residual-in_err-show.result (λ state stands. still records state old c.show.new.self stands (c.in_err-show.ensures.err (replica_of state) stands.replica))

pub returns-clause-ok : goal.returns-clause-ok
returns-clause-ok g c = λ state stands.
    let records = g.D.DocStore.records in
    let old = c.args.self.now in
    let joined = ap is_open (sym stands.connection) ∙ sym c.is_open.ensures ∙ c.if-not-is_open.false in
    own_open records state old c.show.new.self c.args.stored stands joined
    (subst (λ d. replica.Stands records (replica.with_work (presence d) (replica_of state)) c.show.new.self) c.in_ok-copy.ensures (c.in_ok-show.ensures.ok (replica_of state) stands.replica))
