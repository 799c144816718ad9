use Rattle.record_store.specs.Seen.{Seen}
use Rattle.record_store.proofs.ReplaceLemmas.{store_committed}
use Rattle.record_store.proofs.store.RecordStoreDocStore.commit.Goals as goal

pub invariant_of-self : goal.invariant_of-self
invariant_of-self c =
    let old : Seen = record { keys = c.self.inside.keys; txn = c.self.inside.graph } in
    store_committed old c.self.invariant c.commit.new.self c.commit.ensures
