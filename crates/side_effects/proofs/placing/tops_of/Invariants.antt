use Rattle.std.proofs.Common.{◌≡◌, ℕ, List, None, take, map}
use Rattle.doc_model.specs.Documents.{fold_raw}
use Rattle.side_effects.specs.Tops.{top_in}
use Rattle.side_effects.proofs.TopLemmas.{tops_along}
use Rattle.side_effects.proofs.placing.tops_of.Given as goal

abbrev pub invariant-held : goal.invariant-held
invariant-held g l =
    (parent : List ℕ) → top_in l.tops parent ≡ tops_along (fold_raw (g.D.DocStore.records l.store) l.diff) parent None (take l.id-index l.id-items)

abbrev pub invariant-named : goal.invariant-named
invariant-named g l =
    (parent : List ℕ) → top_in l.tops parent ≡ tops_along (fold_raw (g.D.DocStore.records l.store) l.diff) parent (tops_along (fold_raw (g.D.DocStore.records l.store) l.diff) parent None (map (λ e. e.0) (g.D.DocStore.records l.store))) (map (λ e. e.0) (take l.id-index l.id-items))
