use Rattle.std.proofs.Common.{◌≡◌, ◌<◌, [], ap, sym, subst, ◌∙◌}
use Rattle.signal_values.specs.Seen.{top}
use Rattle.record_store.specs.Seen.{Seen, records, begun, epoch, ring}
use Rattle.signal_txn.specs.Turns.{AreInTurn}
use Rattle.record_store.specs.Tells.{TellsFrom, written_all}
use Rattle.record_store.proofs.CallLemmas.{none_open}
use Rattle.signal_txn.proofs.TurnLemmas.{none_later}
use Rattle.record_store.proofs.store.RecordStore.epoch.Goals as goal

pub returns-clause-told : goal.returns-clause-told
returns-clause-told c = λ none below.
    let store : Seen = record { keys = c.self.inside.keys; txn = c.self.inside.graph } in
    let idle = none_open store (ap begun c.self.view_is ∙ none) in
    let turn = subst (λ levels. AreInTurn levels (ring store) (epoch store)) idle (c.self.invariant.order (subst (λ (s : Seen). epoch s < top) (sym c.self.view_is) below)) in
    subst (λ (s : Seen). TellsFrom s (epoch s) (records s)) c.self.view_is (ap (written_all (records store)) (none_later 0 (epoch store) (ring store).writes turn.above))
