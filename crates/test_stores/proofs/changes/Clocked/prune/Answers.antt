use Rattle.test_stores.proofs.ClockLemmas.{up_to_pruned}
use Rattle.test_stores.proofs.changes.Clocked.prune.Goals as goal

pub invariant_of-self : goal.invariant_of-self
invariant_of-self c =
    record { latest = up_to_pruned c.args.self.now.list c.prune.new.self _ _ _ c.args.self.now.latest c.prune.ensures.live c.prune.ensures.dead }
