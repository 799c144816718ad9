use Rattle.std.proofs.Common.{rules, ◌≡◌, ◌+◌, w64, sym, ap, ◌∙◌, arith}
use Rattle.std.specs.Prelude.{sum_by}
use mir.Val.{to_z, of_z}
use Rattle.client_replica.specs.Works.{operations, ended_by}
use Rattle.sync_client.specs.Calls.{replica_of}
use Rattle.sync_client.specs.Faults.{clock_after}
use Rattle.sync_client.proofs.NumberLemmas.{diffs-pending}
use Rattle.sync_client.proofs.ClientLemmas.{after_data, still, if_err}
use Rattle.sync_client.proofs.client.SyncClient.take_data.Goals as goal

pub returns-in_err-take_events-clause-err : goal.returns-in_err-take_events-clause-err
returns-in_err-take_events-clause-err g c =
    let records = g.D.DocStore.records in
    if_err c.from_residual-in_err-take_events.result (λ state stands.
    still records state c.args.self.now c.take_events.new.self stands (c.in_err-take_events.ensures.err (replica_of state) stands.replica))

pub returns-in_err-take_events-clause-ticks : goal.returns-in_err-take_events-clause-ticks
returns-in_err-take_events-clause-ticks g c = λ state stands.
    let ticked = c.in_err-take_events.ensures.ticks (replica_of state) stands.replica in
    let same = ap operations (diffs-pending state.client.pending) in
    omega arith

pub returns-clause-ticks : goal.returns-clause-ticks
returns-clause-ticks g c = λ state stands.
    let ticked = c.in_ok-take_events.ensures.ticks (replica_of state) stands.replica in
    let same = ap operations (diffs-pending state.client.pending) in
    omega arith

pub returns-in_err-take_events-clause-few : goal.returns-in_err-take_events-clause-few
returns-in_err-take_events-clause-few g c = λ state stands. c.in_err-take_events.ensures.few (replica_of state) stands.replica

pub returns-clause-few : goal.returns-clause-few
returns-clause-few g c = λ state stands. c.in_ok-take_events.ensures.few (replica_of state) stands.replica

pub returns-clause-ok : goal.returns-clause-ok
returns-clause-ok g c = λ state stands joined.
    let records = g.D.DocStore.records in
    let old = c.args.self.now in
    let checked = c.in_ok-checked.ensures in
    let clock = c.in_ok-checked.checked.clock in
    let state_is : to_z w64 (of_z w64 old.reached) ≡ old.reached = search rules in
    let clock_is : to_z w64 (of_z w64 clock) ≡ clock = search rules in
    after_data records state old c.take_events.new.self c.end.new.self c.args.events.now (to_z w64 (of_z w64 clock)) stands joined
    (c.in_ok-take_events.ensures.ok (replica_of state) stands.replica) (clock_is ∙ checked.clock ∙ (λ i. clock_after (state_is i) (c.as_slice.ensures i))) c.end.ensures.pushes
    (ap (λ n. c.end.new.self.sent + n) (sym (checked.ended ∙ ap (sum_by ended_by) c.as_slice.ensures)) ∙ c.end.ensures.sent)

pub returns-clause-own : goal.returns-clause-own
returns-clause-own g c = λ state stands own. c.in_ok-take_events.ensures.own (replica_of state) stands.replica own
