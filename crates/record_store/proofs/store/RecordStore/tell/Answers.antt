use Rattle.std.proofs.Common.{ap, subst, ◌∙◌}
use Rattle.record_store.specs.Calls.{AreTold}
use Rattle.record_store.specs.Seen.{Seen, begun}
use Rattle.record_store.proofs.CallLemmas.{none_open, are_told}
use Rattle.record_store.proofs.store.RecordStore.tell.Goals as goal

pub tell-requires-clause-closed : goal.tell-requires-clause-closed
tell-requires-clause-closed c =
    let old : Seen = record { keys = c.self.inside.keys; txn = c.self.inside.graph } in
    none_open old (ap begun c.self.view_is ∙ c.requires.closed)

pub returns-clause-told : goal.returns-clause-told
returns-clause-told c =
    let old : Seen = record { keys = c.self.inside.keys; txn = c.self.inside.graph } in
    subst (λ (s : Seen). AreTold s c.tell.new.self.graph.watches) c.self.view_is (are_told old c.self.invariant c.tell.new.self.graph.watches c.tell.ensures.told)
