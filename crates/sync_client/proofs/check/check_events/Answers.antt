use Rattle.std.proofs.Common.{◌≡◌, ◌+◌, w64, refl, [], ◌∷◌, ◌++◌, take, drop, sym, ap, ◌∙◌, arith}
use Rattle.std.specs.Prelude.{sum_by}
use Rattle.std.proofs.lemmas.Int.{to_z-of_z}
use mir.Val.{to_z, of_z}
use Rattle.std.proofs.lemmas.List.Sums.{fold-append}
use Rattle.rooms_val.proofs.ListLemmas.{one_off}
use Rattle.client_replica.specs.Works.{ended_by}
use Rattle.client_replica.proofs.StashLemmas.{take_next}
use Rattle.sync_client.specs.Numbers.{numbered, expected}
use Rattle.sync_client.specs.Faults.{events_fault, clock_after, clock_of}
use Rattle.sync_client.proofs.FaultLemmas.{fault-next, fault-here, number-left, ended_more}
use Rattle.sync_client.proofs.check.check_events.Goals as goal

pub returns-in-Err-clause-fault : goal.returns-in-Err-clause-fault
returns-in-Err-clause-fault c = λ works many.
    let events = c.args.events.now in
    let i = c.events.event-index in
    let e = c.event-item.result in
    let items = numbered c.args.first c.args.sent works in
    let n = expected c.args.first c.args.sent c.events.checked.ended in
    let parts = one_off events i e c.events-test.true c.event-item.is in
    let number = number-left c.args.first c.args.sent c.events.checked.ended works c.events.invariant.within many in
    sym (sym (ap (λ z. events_fault items z events) (to_z-of_z w64 c.args.reached c.ranges.reached)) ∙ c.events.invariant.fault works many ∙ ap (events_fault (drop c.events.checked.ended items) c.events.checked.clock) parts
    ∙ fault-here items c.events.checked.ended c.events.checked.clock n e (drop (i + 1) events) c.in-Err.fault number (sym c.in-Err.ensures.fault))

pub events-preserved : goal.events-preserved
events-preserved c =
    let events = c.args.events.now in
    let i = c.events.event-index in
    let e = c.event-item.result in
    let k = c.events.checked.ended in
    let next = c.in-Ok.next in
    let told = c.in-Ok.ensures in
    let parts = one_off events i e c.events-test.true c.event-item.is in
    let more : take (i + 1) events ≡ take i events ++ e ∷ [] = take_next events i (i + 1) e refl (omega arith) c.event-item.is in
    record {
      fault = λ works many.
          let items = numbered c.args.first c.args.sent works in
          let n = expected c.args.first c.args.sent k in
          let number = number-left c.args.first c.args.sent k works c.events.invariant.within many in
          c.events.invariant.fault works many ∙ ap (events_fault (drop k items) c.events.checked.clock) parts
          ∙ fault-next items k c.events.checked.clock n e (drop (i + 1) events) number (sym told.fault)
          ∙ (λ j. events_fault (drop (sym told.ended j) items) (sym told.clock j) (drop (i + 1) events));
      ended = told.ended ∙ ap (λ n. n + ended_by e) c.events.invariant.ended ∙ sym (ended_more (take i events) e) ∙ sym (ap (sum_by ended_by) more);
      within = told.within;
      clock = told.clock ∙ sym (ap (clock_after (to_z w64 (of_z w64 c.args.reached))) more ∙ fold-append (λ clock event. clock_of event) (to_z w64 (of_z w64 c.args.reached)) (take i events) (e ∷ []));
    }
