use Rattle.std.proofs.Common.{◌≡◌, [], ◌∷◌, subst, ◌∙◌}
use Rattle.std.specs.Prelude.{codes, IfOk}
use Rattle.record_valid.specs.Tree.{object, rows_of, id_of}
use Rattle.schema_core.specs.View.{row_tree}
use Rattle.schema_core.specs.declared.row.Scope.TheVariants.{Session}
use Rattle.tl_tables.specs.Fields.{with_field, always}
use Rattle.tl_tables.specs.Types as types
use Rattle.tl_tables.proofs.types.instance.Goals as goal

pub returns : goal.returns
unfolding types.instance
returns c =
    let own = c.in_ok-of_record.ensures in
    let table = c.in_ok-fields.ensures.table ∙ λ i. with_field (own.version i) (own.table i) (always (codes "currentPageId") (id_of (codes "page" ∷ []))) in
    subst (λ t. IfOk c.type_row.result (λ r. row_tree r ≡ (codes "instance", record { scope = Session; check = object (rows_of t) }))) table c.type_row.ensures
