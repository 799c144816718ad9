use Rattle.std.proofs.Common.{◌≡◌, ◌≢◌, inr, true, false, length, refl, sym, ◌∙◌, ap, subst}
use Rattle.std.specs.Prelude.{option_and_then}
use Rattle.std.specs.List.{slice_get}
use Rattle.std.proofs.lemmas.Option.{slice_get_read, slice_get_within}
use Rattle.signal_values.specs.declared.cells.Row.{Row}
use Rattle.signal_values.specs.Writes.{IsWritten}
use Rattle.signal_values.specs.Seen.{Seen, IsSetAt}
use Rattle.signal_values.proofs.AtomLemmas.{exact}
use Rattle.signal_values.proofs.ListLemmas.{if_some}
use Rattle.signal_values.proofs.WriteLemmas.{not_same, some_if}
use Rattle.signal_values.proofs.SeenLemmas.{seen, set_is, row_at}
use Rattle.signal_values.proofs.values.Values.put_back.Goals as goal

pub change-before-requires-clause-differs : goal.change-before-requires-clause-differs
change-before-requires-clause-differs g c =
    let rows = c.self.inside.cells.rows.items in
    let row = c.index.result.now in
    let q = c.self.invariant.index.found c.args.key.now c.in-Some.i (sym c.find.ensures ∙ c.in-Some.is) in
    some_if (slice_get rows c.in-Some.i) (λ r. c.args.value ≢ r.value) row (slice_get_read rows (length rows) c.in-Some.i row refl (slice_get_within rows c.in-Some.i q.0 q.1) c.index.ensures)
    (not_same g.R.Value.PartialEq.eq g.met.R.Value.Eq.laws.refl row.value c.args.value (sym c.eq.ensures ∙ c.if-eq.false))

pub returns-clause-set : goal.returns-clause-set
returns-clause-set g c =
    let cmp = g.R.Key.Ord.cmp in
    let x = exact cmp g.met.R.Key.Ord.total g.met.R.Rules.same_keys in
    let m = g.R.Rules.meaning c.self.inside.rules in
    let old = c.self.inside.cells in
    let q = c.self.invariant.index.found c.args.key.now c.in-Some.i (sym c.find.ensures ∙ c.in-Some.is) in
    let low : m.rank c.args.key.now ≡ 0 = subst (λ (s : Seen g.row.R.Denot g.row.R-Key.Denot g.row.R-Value.Denot). (g.R.Rules.meaning s.rules).rank c.args.key.now ≡ 0) (sym c.self.view_is) c.requires.rank in
    let written = if_some (slice_get old.rows.items c.in-Some.i) (λ row. IsWritten m cmp old c.change-before.new.cells c.in-Some.i row c.args.value c.args.epoch true) q.0 q.1 c.change-before.ensures.written in
    inr (subst (λ (s : Seen g.row.R.Denot g.row.R-Key.Denot g.row.R-Value.Denot). IsSetAt (g.R.Rules.meaning s.rules) cmp s (seen c.self.inside.rules c.change-before.new.cells c.args.epoch) c.args.key.now c.args.value c.args.epoch true) c.self.view_is
    (set_is m cmp x c.self.inside.rules old old c.change-before.new.cells c.self.inside.epoch c.args.epoch c.args.epoch c.args.key.now c.in-Some.i q.0 c.args.value true
    c.self.invariant low (λ j r h. h) (λ k ne. refl) (λ j h. h) refl q.1 q.2 (ap (option_and_then (λ (r : Row g.row.R-Key.Denot g.row.R-Value.Denot). r.changed)) (row_at cmp x old c.args.key.now c.in-Some.i q.0 c.self.invariant.graph.distinct q.1 q.2)) written (λ e. refl) (λ e. absurd (cc))))
