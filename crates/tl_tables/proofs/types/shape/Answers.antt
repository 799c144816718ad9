use Rattle.std.proofs.Common.{◌≡◌, [], ◌∷◌, subst, ◌∙◌}
use Rattle.std.specs.Prelude.{pos, codes, IfOk}
use Rattle.record_valid.specs.Tree.{object, rows_of, id_of, key, boolean, whole}
use Rattle.schema_core.specs.View.{row_tree}
use Rattle.schema_core.specs.declared.row.Scope.TheVariants.{Document}
use Rattle.tl_tables.specs.Fields.{with_field, with_fields, always, since, until}
use Rattle.tl_tables.specs.Parts.{coordinate}
use Rattle.tl_tables.specs.Types as types
use Rattle.tl_tables.proofs.types.shape.Goals as goal

pub returns : goal.returns
unfolding types.shape
returns c =
    let own = c.in_ok-of_record.ensures in
    let kind = c.in_ok-always.ensures in
    let place = c.in_ok-with_each.ensures in
    let parent = c.in_ok-id_of.ensures in
    let looks = c.in_ok-with_each-2.ensures in
    let version-1 = kind.version ∙ own.version in
    let version-2 = place.version ∙ version-1 in
    let version-3 = parent.version ∙ version-2 in
    let version-4 = looks.version ∙ version-3 in
    let table-1 = kind.table ∙ λ i. with_field (own.version i) (own.table i) (always (codes "type") (c.in_ok-shape_types.ensures i)) in
    let places = always (codes "x") coordinate ∷ always (codes "y") coordinate ∷ always (codes "rotation") coordinate ∷ always (codes "index") key ∷ [] in
    let table-2 = place.table ∙ λ i. with_fields (version-1 i) (table-1 i) places in
    let table-3 = parent.table ∙ λ i. with_field (version-2 i) (table-2 i) (always (codes "parentId") (id_of (codes "page" ∷ codes "shape" ∷ []))) in
    let seen = always (codes "isLocked") boolean ∷ until 1 (codes "alpha") (whole (pos 0) (pos 10)) ∷ since 2 (codes "opacity") (whole (pos 0) (pos 100)) ∷ [] in
    let table-4 = looks.table ∙ λ i. with_fields (version-3 i) (table-3 i) seen in
    let table = c.in_ok-fields.ensures.table ∙ λ i. with_field (version-4 i) (table-4 i) (always (codes "props") (c.in_ok-shape_props.ensures i)) in
    subst (λ t. IfOk c.type_row.result (λ r. row_tree r ≡ (codes "shape", record { scope = Document; check = object (rows_of t) }))) table c.type_row.ensures
