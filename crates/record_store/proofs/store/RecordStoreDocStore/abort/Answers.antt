use Rattle.std.proofs.Common.{map, ap, sym, ◌∙◌}
use Rattle.record_store.specs.Seen.{Seen, begun, records_under}
use Rattle.record_store.proofs.ReplaceLemmas.{store_aborted}
use Rattle.record_store.proofs.store.RecordStoreDocStore.abort.Goals as goal

pub returns-clause-restored : goal.returns-clause-restored
returns-clause-restored c = sym (ap begun c.self.view_is) ∙ ap (map (records_under c.self.inside.keys)) c.abort.ensures.restored

pub invariant_of-self : goal.invariant_of-self
invariant_of-self c =
    let old : Seen = record { keys = c.self.inside.keys; txn = c.self.inside.graph } in
    store_aborted old c.self.invariant c.abort.new.self c.abort.ensures
