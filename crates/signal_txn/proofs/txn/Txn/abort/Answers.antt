use Rattle.std.proofs.Common.{◌≡◌, [], List, sym, ap, subst, arith}
use Rattle.std.specs.Prelude.{reverse}
use Rattle.signal_txn.specs.Seen.{Seen, IsAborted}
use Rattle.signal_txn.specs.Undo.{AreUndoable, HasEntry}
use Rattle.signal_txn.proofs.PutBackLemmas.{nothing_left, false_true}
use Rattle.signal_txn.proofs.TxnLemmas.{seen_of, newest_undoable, abort_in, abort_undoable}
use Rattle.signal_txn.proofs.txn.Txn.abort.Goals as goal

pub unreachable-requires : goal.unreachable-requires
unreachable-requires g c =
    let items = c.self.inside.levels.items in
    let none : items ≡ [] = nothing_left items (λ h. false_true (c.in_default.ensures.variant.1 (omega (arith, c.self.inside.levels.ok.0, h)))) in
    c.requires (subst (λ (s : Seen g.row.R.Denot g.row.R-Key.Denot g.row.R-Value.Denot). s.journal.levels ≡ []) c.self.view_is (ap reverse none))

pub unreachable-unreachable : goal.unreachable-unreachable
unreachable-unreachable g c = absurd c.unreachable.result

pub put_back_all-requires-clause-atoms : goal.put_back_all-requires-clause-atoms
put_back_all-requires-clause-atoms g c =
    let u = newest_undoable (g.R.Rules.meaning c.self.inside.graph.values.rules) g.R.Key.Ord.cmp c.self.inside.graph c.pop.new.self.items c.self.inside.levels.items c.in-Some.level c.in-Some.ensures.items c.self.invariant in
    λ key h. u.0.atoms key (subst (λ (es : List (g.row.R-Key.Denot × g.row.R-Value.Denot)). HasEntry g.R.Key.Ord.cmp es key) c.into_parts-before.ensures.before h)

pub put_back_all-requires-clause-listed : goal.put_back_all-requires-clause-listed
put_back_all-requires-clause-listed g c =
    let u = newest_undoable (g.R.Rules.meaning c.self.inside.graph.values.rules) g.R.Key.Ord.cmp c.self.inside.graph c.pop.new.self.items c.self.inside.levels.items c.in-Some.level c.in-Some.ensures.items c.self.invariant in
    λ key h. u.0.listed key (subst (λ (es : List (g.row.R-Key.Denot × g.row.R-Value.Denot)). HasEntry g.R.Key.Ord.cmp es key) c.into_parts-before.ensures.before h)

pub invariant_of-self : goal.invariant_of-self
invariant_of-self g c =
    let m = g.R.Rules.meaning c.self.inside.graph.values.rules in
    let u = newest_undoable m g.R.Key.Ord.cmp c.self.inside.graph c.pop.new.self.items c.self.inside.levels.items c.in-Some.level c.in-Some.ensures.items c.self.invariant in
    subst (λ (r : g.row.R.Denot). AreUndoable (g.R.Rules.meaning r) g.R.Key.Ord.cmp c.put_back_all.new.graph.values (reverse c.pop.new.self.items)) (sym c.put_back_all.ensures.back.rules)
    (abort_undoable m g.R.Key.Ord.cmp c.self.inside.graph c.put_back_all.new.graph c.pop.new.self.items c.in-Some.level c.into_parts-before.result.0.entries c.put_back_all.ensures.back u)

pub returns : goal.returns
returns g c =
    let m = g.R.Rules.meaning c.self.inside.graph.values.rules in
    let u = newest_undoable m g.R.Key.Ord.cmp c.self.inside.graph c.pop.new.self.items c.self.inside.levels.items c.in-Some.level c.in-Some.ensures.items c.self.invariant in
    subst (λ (s : Seen g.row.R.Denot g.row.R-Key.Denot g.row.R-Value.Denot). IsAborted (g.R.Rules.meaning s.graph.values.rules) g.R.Key.Ord.cmp s (seen_of c.put_back_all.new.graph c.pop.new.self.items c.self.inside.ring)) c.self.view_is
    (abort_in m g.R.Key.Ord.cmp c.self.inside.graph c.put_back_all.new.graph c.pop.new.self.items c.self.inside.levels.items c.self.inside.ring c.in-Some.level c.into_parts-before.result.0.entries c.in-Some.ensures.items c.into_parts-before.ensures.before c.put_back_all.ensures.back c.put_back_all.ensures.watches u)
