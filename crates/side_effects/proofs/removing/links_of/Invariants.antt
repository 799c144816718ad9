use Rattle.std.proofs.Common.{◌≡◌, ◌++◌, drop, map}
use Rattle.std.specs.List.{flat_map}
use Rattle.doc_model.specs.Documents.{fold_raw}
use Rattle.side_effects.specs.Links.{links_of}
use Rattle.side_effects.proofs.removing.links_of.Given as goal

-- the ids that are left have the other links
abbrev pub invariant-ids : goal.invariant-ids
invariant-ids g l =
    let m = g.D.DocStore.records l.store in
    let after = fold_raw m l.diff in
    l.found.items ++ flat_map (links_of after) (drop l.id-index l.id-items) ≡ flat_map (links_of after) (map (λ e. e.0) m)
