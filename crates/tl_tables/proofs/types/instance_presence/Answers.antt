use Rattle.std.proofs.Common.{◌≡◌, [], ◌∷◌, subst, ◌∙◌}
use Rattle.std.specs.Prelude.{codes, IfOk}
use Rattle.record_valid.specs.Tree.{object, rows_of, id_of}
use Rattle.schema_core.specs.View.{row_tree}
use Rattle.schema_core.specs.declared.row.Scope.TheVariants.{Presence}
use Rattle.tl_tables.specs.Fields.{with_field, with_fields, always}
use Rattle.tl_tables.specs.Parts.{short_text}
use Rattle.tl_tables.specs.Types as types
use Rattle.tl_tables.proofs.types.instance_presence.Goals as goal

pub returns : goal.returns
unfolding types.instance_presence
returns c =
    let own = c.in_ok-of_record.ensures in
    let texts = c.in_ok-with_each.ensures in
    let page = c.in_ok-id_of.ensures in
    let cursor = c.in_ok-always.ensures in
    let version-1 = texts.version ∙ own.version in
    let version-2 = page.version ∙ version-1 in
    let version-3 = cursor.version ∙ version-2 in
    let table-1 = texts.table ∙ λ i. with_fields (own.version i) (own.table i) (always (codes "userName") short_text ∷ always (codes "color") short_text ∷ []) in
    let table-2 = page.table ∙ λ i. with_field (version-1 i) (table-1 i) (always (codes "currentPageId") (id_of (codes "page" ∷ []))) in
    let table-3 = cursor.table ∙ λ i. with_field (version-2 i) (table-2 i) (always (codes "cursor") (c.in_ok-cursor.ensures i)) in
    let table = c.in_ok-fields.ensures.table ∙ λ i. with_field (version-3 i) (table-3 i) (always (codes "selectedShapeIds") (c.in_ok-shape_ids.ensures i)) in
    subst (λ t. IfOk c.type_row.result (λ r. row_tree r ≡ (codes "instance_presence", record { scope = Presence; check = object (rows_of t) }))) table c.type_row.ensures
