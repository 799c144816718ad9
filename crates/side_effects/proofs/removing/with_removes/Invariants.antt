use Rattle.std.proofs.Common.{vec_len}
use Rattle.side_effects.specs.Links.{links, Sweeps}
use Rattle.doc_model.specs.Documents.{fold_raw}
use Rattle.side_effects.proofs.removing.with_removes.Given as goal

abbrev pub invariant-sweeps : goal.invariant-sweeps
invariant-sweeps g l =
    let m = g.D.DocStore.records l.store in
    Sweeps (links m (fold_raw m l.fn.diff)) l.fn.diff l.links.items l.all

abbrev pub decreases-sweeps : goal.decreases-sweeps
decreases-sweeps g l = vec_len l.links
