use Rattle.std.proofs.Common.{sym, subst}
use Rattle.std.specs.Prelude.{IfOk}
use Rattle.signal_values.specs.Seen.{Seen, IsGot, IsValueAt}
use Rattle.signal_values.specs.Kept.{IsFreshAt, IsFreshKey}
use Rattle.signal_values.proofs.AtomLemmas.{exact}
use Rattle.signal_values.proofs.KeptLemmas.{sound_here}
use Rattle.signal_values.specs.Cells.{atoms_of}
use Rattle.signal_values.proofs.SeenLemmas.{seen, got_from, value_from}
use Rattle.rooms_val.proofs.Truths.{if_ok_then}
use Rattle.signal_values.proofs.values.Values.compute.Goals as goal

pub refresh-requires : goal.refresh-requires
refresh-requires g c = c.self.invariant

pub invariant_of-self : goal.invariant_of-self
invariant_of-self g c =
    sound_here (g.R.Rules.meaning c.self.inside.rules) g.R.Key.Ord.cmp (exact g.R.Key.Ord.cmp g.met.R.Key.Ord.total g.met.R.Rules.same_keys) (atoms_of (g.R.Rules.meaning c.self.inside.rules) g.R.Key.Ord.cmp c.self.inside.cells.rows.items) c.refresh.new.cells c.refresh.ensures.left.sound

pub returns-clause-got : goal.returns-clause-got
returns-clause-got g c =
    subst (λ (s : Seen g.row.R.Denot g.row.R-Key.Denot g.row.R-Value.Denot). IsGot (g.R.Rules.meaning s.rules) g.R.Key.Ord.cmp s (seen c.self.inside.rules c.refresh.new.cells c.self.inside.epoch)) c.self.view_is
    (got_from (g.R.Rules.meaning c.self.inside.rules) g.R.Key.Ord.cmp (exact g.R.Key.Ord.cmp g.met.R.Key.Ord.total g.met.R.Rules.same_keys) c.self.inside.rules c.self.inside.cells c.refresh.new.cells c.self.inside.epoch c.refresh.ensures.left)

pub returns-clause-value : goal.returns-clause-value
returns-clause-value g c =
    subst (λ (s : Seen g.row.R.Denot g.row.R-Key.Denot g.row.R-Value.Denot). IfOk c.refresh.result (IsValueAt (g.R.Rules.meaning s.rules) g.R.Key.Ord.cmp s (seen c.self.inside.rules c.refresh.new.cells c.self.inside.epoch) c.args.key.now)) c.self.view_is
    (if_ok_then c.refresh.result (IsFreshAt c.refresh.new.cells c.args.key.now) _ c.refresh.ensures.found
    (λ i found. value_from (g.R.Rules.meaning c.self.inside.rules) g.R.Key.Ord.cmp (g.met.R.Rules.lawful c.self.inside.rules) c.self.inside.rules c.self.inside.cells c.refresh.new.cells c.self.inside.epoch c.args.key.now i c.refresh.ensures.left found))

pub returns-clause-free : goal.returns-clause-free
returns-clause-free g c = λ h.
    c.refresh.ensures.free (subst (λ (s : Seen g.row.R.Denot g.row.R-Key.Denot g.row.R-Value.Denot). IsFreshKey s.rows s.fresh c.args.key.now) (sym c.self.view_is) h)

pub returns-clause-fresh : goal.returns-clause-fresh
returns-clause-fresh g c =
    if_ok_then c.refresh.result (IsFreshAt c.refresh.new.cells c.args.key.now) (λ _. IsFreshKey c.refresh.new.cells.rows.items c.refresh.new.cells.fresh.items c.args.key.now) c.refresh.ensures.found (λ i found. (i, found.row, found.at, found.is, found.ready))
