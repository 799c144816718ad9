use Rattle.std.proofs.Common.{refl, sym, ap, subst, ◌∙◌}
use Rattle.std.specs.Prelude.{IfOk, OnOk}
use Rattle.signal_core.specs.Due.{AreFreshKeys, AreFreshIn}
use Rattle.record_store.specs.Calls.{AreDue, AreTold, AreAsked}
use Rattle.record_store.specs.Seen.{Seen, begun, watches}
use Rattle.record_store.proofs.CallLemmas.{none_open, are_due, are_told, are_asked}
use Rattle.record_store.proofs.FrameLemmas.{if_ok, on_ok}
use Rattle.record_store.proofs.store.RecordStore.due.Goals as goal

pub due-requires : goal.due-requires
due-requires g c =
    let old : Seen = record { keys = c.self.inside.keys; txn = c.self.inside.graph } in
    none_open old (ap begun c.self.view_is ∙ c.requires)

pub returns-clause-due : goal.returns-clause-due
returns-clause-due g c =
    let old : Seen = record { keys = c.self.inside.keys; txn = c.self.inside.graph } in
    subst (λ (s : Seen). IfOk c.due.result (λ due. AreDue s due.items)) c.self.view_is (if_ok c.due.result (λ due are. are_due old c.self.invariant due.items are) c.due.ensures.due)

pub returns-clause-told : goal.returns-clause-told
returns-clause-told g c =
    let old : Seen = record { keys = c.self.inside.keys; txn = c.self.inside.graph } in
    subst (λ (s : Seen). OnOk c.due.result (AreTold s c.due.new.self.graph.watches)) c.self.view_is (on_ok c.due.result (are_told old c.self.invariant c.due.new.self.graph.watches) c.due.ensures.told)

pub returns-clause-asked : goal.returns-clause-asked
returns-clause-asked g c =
    let old : Seen = record { keys = c.self.inside.keys; txn = c.self.inside.graph } in
    let new : Seen = record { keys = c.self.inside.keys; txn = c.due.new.self } in
    subst (λ (s : Seen). AreAsked s new) c.self.view_is (are_asked old new refl c.due.ensures.got c.due.ensures.journal)

pub returns-clause-fresh : goal.returns-clause-fresh
returns-clause-fresh g c = subst (λ (s : Seen). OnOk c.due.result (AreFreshKeys (watches s) c.due.new.self.graph.values)) c.self.view_is c.due.ensures.fresh

pub returns-clause-free : goal.returns-clause-free
returns-clause-free g c = λ h. c.due.ensures.free (subst (λ (s : Seen). AreFreshIn (watches s) s.txn.graph.values) (sym c.self.view_is) h)
