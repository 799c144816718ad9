use Rattle.std.proofs.Common.{◌≡◌, Bool, true, false, List, refl, sym, subst}
use Rattle.std.specs.Prelude.{reverse}
use Rattle.signal_values.specs.Seen.{IsSet}
use Rattle.signal_core.specs.Seen as core
use Rattle.signal_txn.specs.declared.write.Write.{Write}
use Rattle.signal_txn.specs.Level.{Level}
use Rattle.signal_txn.specs.Seen.{Seen, IsSetIn}
use Rattle.signal_txn.specs.Undo.{AreUndoable}
use Rattle.signal_values.proofs.AtomLemmas.{exact}
use Rattle.signal_txn.proofs.TxnLemmas.{seen_of, set_same_in, set_other_in, noted_undoable, join_undoable}
use Rattle.signal_txn.proofs.txn.Txn.set.Goals as goal

pub invariant_of-self : goal.invariant_of-self
invariant_of-self g c =
    subst (λ (gr : core.Seen g.row.R.Denot g.row.R-Key.Denot g.row.R-Value.Denot). AreUndoable (g.R.Rules.meaning gr.values.rules) g.R.Key.Ord.cmp gr.values (reverse c.set_noted.new.levels.items)) (sym c.in_err-set_noted.ensures.graph_err)
    (subst (λ (ls : List (Level g.row.R-Key.Denot g.row.R-Value.Denot)). AreUndoable (g.R.Rules.meaning c.self.inside.graph.values.rules) g.R.Key.Ord.cmp c.self.inside.graph.values (reverse ls)) (sym c.in_err-set_noted.ensures.levels_err) c.self.invariant)

pub invariant_of-self-then-not-branch : goal.invariant_of-self-then-not-branch
invariant_of-self-then-not-branch g c =
    let cmp = g.R.Key.Ord.cmp in
    let x = exact cmp g.met.R.Key.Ord.total g.met.R.Rules.same_keys in
    let m = g.R.Rules.meaning c.self.inside.graph.values.rules in
    let set = c.in_ok-set_noted.ensures.ok in
    let low : m.rank c.args.key ≡ 0 = subst (λ (s : Seen g.row.R.Denot g.row.R-Key.Denot g.row.R-Value.Denot). (g.R.Rules.meaning s.graph.values.rules).rank c.args.key ≡ 0) (sym c.self.view_is) c.requires in
    subst (λ (r : g.row.R.Denot). AreUndoable (g.R.Rules.meaning r) cmp c.set_noted.new.graph.values (reverse c.set_noted.new.levels.items)) (sym set.rules)
    (noted_undoable m cmp x c.self.inside.graph c.set_noted.new.graph c.self.inside.levels.items c.set_noted.new.levels.items c.args.key c.args.value c.in_ok-set_noted.field-0 set low c.in_ok-set_noted.ensures.noted c.self.invariant)

pub returns-then-not-branch-clause-ok : goal.returns-then-not-branch-clause-ok
returns-then-not-branch-clause-ok g c =
    let cmp = g.R.Key.Ord.cmp in
    let x = exact cmp g.met.R.Key.Ord.total g.met.R.Rules.same_keys in
    let m = g.R.Rules.meaning c.self.inside.graph.values.rules in
    let set : IsSet m cmp c.self.inside.graph.values c.set_noted.new.graph.values c.args.key c.args.value false =
    subst (λ (b : Bool). IsSet m cmp c.self.inside.graph.values c.set_noted.new.graph.values c.args.key c.args.value b) c.if-not-branch.true c.in_ok-set_noted.ensures.ok in
    subst (λ (s : Seen g.row.R.Denot g.row.R-Key.Denot g.row.R-Value.Denot). IsSetIn (g.R.Rules.meaning s.graph.values.rules) cmp s (seen_of c.set_noted.new.graph c.set_noted.new.levels.items c.self.inside.ring) c.args.key c.args.value false) c.self.view_is
    (set_same_in m cmp x c.self.inside.graph c.set_noted.new.graph c.self.inside.levels.items c.set_noted.new.levels.items c.self.inside.ring c.args.key c.args.value false set refl c.set_noted.ensures.watches c.in_ok-set_noted.ensures.noted)

pub invariant_of-self-2 : goal.invariant_of-self-2
invariant_of-self-2 g c =
    let cmp = g.R.Key.Ord.cmp in
    let x = exact cmp g.met.R.Key.Ord.total g.met.R.Rules.same_keys in
    let m = g.R.Rules.meaning c.self.inside.graph.values.rules in
    let set = c.in_ok-set_noted.ensures.ok in
    let low : m.rank c.args.key ≡ 0 = subst (λ (s : Seen g.row.R.Denot g.row.R-Key.Denot g.row.R-Value.Denot). (g.R.Rules.meaning s.graph.values.rules).rank c.args.key ≡ 0) (sym c.self.view_is) c.requires in
    let write : Write g.row.R-Key.Denot g.row.R-Value.Denot = record { key = c.args.key; value = c.in_ok-after.after; epoch = c.epoch-epoch.result } in
    subst (λ (r : g.row.R.Denot). AreUndoable (g.R.Rules.meaning r) cmp c.set_noted.new.graph.values (reverse c.join.new.levels.items)) (sym set.rules)
    (join_undoable m cmp c.set_noted.new.graph c.set_noted.new.levels.items c.join.new.levels.items c.self.inside.ring c.join.new.ring write c.join.ensures
    (noted_undoable m cmp x c.self.inside.graph c.set_noted.new.graph c.self.inside.levels.items c.set_noted.new.levels.items c.args.key c.args.value c.in_ok-set_noted.field-0 set low c.in_ok-set_noted.ensures.noted c.self.invariant))

pub returns-clause-ok : goal.returns-clause-ok
returns-clause-ok g c =
    let cmp = g.R.Key.Ord.cmp in
    let x = exact cmp g.met.R.Key.Ord.total g.met.R.Rules.same_keys in
    let m = g.R.Rules.meaning c.self.inside.graph.values.rules in
    let set : IsSet m cmp c.self.inside.graph.values c.set_noted.new.graph.values c.args.key c.args.value true =
    subst (λ (b : Bool). IsSet m cmp c.self.inside.graph.values c.set_noted.new.graph.values c.args.key c.args.value b) c.if-not-branch.false c.in_ok-set_noted.ensures.ok in
    subst (λ (s : Seen g.row.R.Denot g.row.R-Key.Denot g.row.R-Value.Denot). IsSetIn (g.R.Rules.meaning s.graph.values.rules) cmp s (seen_of c.set_noted.new.graph c.join.new.levels.items c.join.new.ring) c.args.key c.args.value true) c.self.view_is
    (set_other_in m cmp x c.self.inside.graph c.set_noted.new.graph c.self.inside.levels.items c.set_noted.new.levels.items c.join.new.levels.items c.self.inside.ring c.join.new.ring c.args.key c.args.value c.in_ok-after.after c.epoch-epoch.result true set refl c.set_noted.ensures.watches c.in_ok-set_noted.ensures.noted c.in_ok-after.ensures c.epoch-epoch.ensures c.join.ensures)
