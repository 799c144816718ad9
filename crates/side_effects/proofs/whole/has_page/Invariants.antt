use Rattle.std.proofs.Common.{◌≡◌, false, drop}
use Rattle.std.specs.List.{list_any}
use Rattle.field_ops.specs.ViewRecordOps.{changes_view}
use Rattle.doc_model.specs.Documents.{fold_raw}
use Rattle.side_effects.specs.Whole.{is_page_in}
use Rattle.side_effects.proofs.whole.has_page.Given as goal

-- the ids that are left decide
abbrev pub invariant-held : goal.invariant-held
invariant-held g l =
    let is_one = is_page_in (fold_raw (g.D.DocStore.records l.store) l.diff) in
    list_any is_one (drop l.id-index l.ids) ≡ list_any is_one l.ids

abbrev pub invariant-named : goal.invariant-named
invariant-named g l =
    let is_one = is_page_in (fold_raw (g.D.DocStore.records l.store) l.diff) in
    (list_any is_one l.ids ≡ false) × (list_any (λ c. is_one c.0) (changes_view (drop l.id-index l.id-items)) ≡ list_any (λ c. is_one c.0) (changes_view l.id-items))
