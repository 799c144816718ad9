use Rattle.std.proofs.Common.{◌≡◌, [], ap, subst}
use Rattle.std.specs.Prelude.{reverse}
use Rattle.signal_txn.specs.Seen.{Seen, IsCommitted}
use Rattle.signal_txn.proofs.TxnLemmas.{seen_of, commit_in, commit_undoable}
use Rattle.signal_txn.proofs.txn.Txn.commit.Goals as goal

pub commit-requires : goal.commit-requires
commit-requires g c = λ e. c.requires (subst (λ (s : Seen g.row.R.Denot g.row.R-Key.Denot g.row.R-Value.Denot). s.journal.levels ≡ []) c.self.view_is (ap reverse e))

pub invariant_of-self : goal.invariant_of-self
invariant_of-self g c =
    commit_undoable (g.R.Rules.meaning c.self.inside.graph.values.rules) g.R.Key.Ord.cmp c.self.inside.graph c.self.inside.levels.items c.commit.new.levels.items c.self.inside.ring c.commit.new.ring c.commit.ensures c.self.invariant

pub returns : goal.returns
returns g c =
    subst (λ (s : Seen g.row.R.Denot g.row.R-Key.Denot g.row.R-Value.Denot). IsCommitted (g.R.Rules.meaning s.graph.values.rules) g.R.Key.Ord.cmp s (seen_of c.self.inside.graph c.commit.new.levels.items c.commit.new.ring)) c.self.view_is
    (commit_in (g.R.Rules.meaning c.self.inside.graph.values.rules) g.R.Key.Ord.cmp c.self.inside.graph c.self.inside.levels.items c.commit.new.levels.items c.self.inside.ring c.commit.new.ring c.commit.ensures)
