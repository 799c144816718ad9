use Rattle.std.proofs.Common.{w64, ap, arith}
use Rattle.std.proofs.lemmas.Int.{to_z-of_z}
use mir.Val.{to_z, of_z}
use Rattle.field_ops.specs.View.{maybe_data}
use Rattle.client_replica.specs.Works.{operations}
use Rattle.sync_client.specs.Calls.{replica_of}
use Rattle.client_replica.specs.Standing.{document_of}
use Rattle.sync_client.proofs.NumberLemmas.{diffs-pending, answer_few}
use Rattle.sync_client.proofs.ClientLemmas.{after_snapshot, still, if_err}
use Rattle.sync_client.proofs.client.SyncClient.take_answer.Goals as goal

pub returns-in_err-take_snapshot-clause-err : goal.returns-in_err-take_snapshot-clause-err
returns-in_err-take_snapshot-clause-err g c =
    let records = g.D.DocStore.records in
    if_err c.from_residual-in_err-take_snapshot.result (λ state stands.
    still records state c.args.self.now c.take_snapshot.new.self stands (c.in_err-take_snapshot.ensures.err (replica_of state) stands.replica))

pub returns-in_err-take_snapshot-clause-ticks : goal.returns-in_err-take_snapshot-clause-ticks
returns-in_err-take_snapshot-clause-ticks g c = λ state stands.
    let ticked = c.in_err-take_snapshot.ensures.ticks (replica_of state) stands.replica in
    let same = ap operations (diffs-pending state.client.pending) in
    omega arith

pub returns-clause-ticks : goal.returns-clause-ticks
returns-clause-ticks g c = λ state stands.
    let ticked = c.in_ok-take_snapshot.ensures.ticks (replica_of state) stands.replica in
    let same = ap operations (diffs-pending state.client.pending) in
    omega arith

pub returns-in_err-take_snapshot-clause-few : goal.returns-in_err-take_snapshot-clause-few
returns-in_err-take_snapshot-clause-few g c = λ state stands.
    let told = c.in_err-take_snapshot.ensures in
    answer_few (document_of c.args.self.now.replica) state c.args.hydration c.args.diff.now c.args.steps.now c.take_snapshot.new.steps (told.ticks (replica_of state) stands.replica) told.few

pub returns-clause-few : goal.returns-clause-few
returns-clause-few g c = λ state stands.
    let told = c.in_ok-take_snapshot.ensures in
    answer_few (document_of c.args.self.now.replica) state c.args.hydration c.args.diff.now c.args.steps.now c.take_snapshot.new.steps (told.ticks (replica_of state) stands.replica) told.few

pub returns-clause-ok : goal.returns-clause-ok
returns-clause-ok g c = λ state session stands asks.
    let records = g.D.DocStore.records in
    let old = c.args.self.now in
    after_snapshot records state old c.take_snapshot.new.self c.restart.new.self session c.args.hydration c.args.diff.now c.args.clock (to_z w64 (of_z w64 c.args.clock)) (maybe_data c.in_ok-own.own) c.opened_connection-self.result stands asks
    (to_z-of_z w64 c.args.clock c.ranges.clock) c.opened_connection-self.ensures c.in_ok-own.ensures (c.in_ok-take_snapshot.ensures.ok (replica_of state) stands.replica) c.restart.ensures.pushes c.restart.ensures.sent
