use Rattle.std.proofs.Common.{◌≡◌, ◌≤◌, Ok, Some, None, option_map, option_and_then, arith, sym, ap, subst, ◌∙◌}
use Rattle.std.specs.Prelude.{IsTrue, codes}
use Rattle.rooms_val.specs.Maps.{value_at}
use Rattle.rooms_val.specs.View.{data_of}
use Rattle.rooms_val.specs.Weight.{weight}
use Rattle.record_valid.specs.Fits.{Fits}
use Rattle.record_valid.specs.View.{tree_of}
use Rattle.record_valid.proofs.ByKeyLemmas.{unnamed_by}
use Rattle.schema_core.specs.Admits.{type_of, admission}
use Rattle.schema_core.specs.SchemaOf.{schema_tree}
use Rattle.schema_core.specs.View.{type_tree}
use Rattle.schema_core.specs.declared.schema.TheConstants.{GREATEST_WEIGHT}
use Rattle.schema_core.proofs.PatchedLemmas.{left_by, patched_law, fitted}
use Rattle.schema_core.proofs.schema.Schema.still_admits.Goals as goal

pub returns-then-weight-le-GREATEST_WEIGHT : goal.returns-then-weight-le-GREATEST_WEIGHT
returns-then-weight-le-GREATEST_WEIGHT c before sound admitted is =
    let s = schema_tree c.args.self.now in
    let id = c.args.id.now in
    let own = unnamed_by _ c.get.result _ c.get.ensures (sym c.is_some.ensures ∙ c.if-is_some.false) in
    let named = unnamed_by _ c.get-else-is_some.result _ c.get-else-is_some.ensures (sym c.is_some-else-is_some.ensures ∙ c.if-is_some-2.false) in
    let found : type_of s id ≡ Some (type_tree c.in_ok-found.found.now) =
    ap (option_and_then (value_at s.types)) (sym c.id_type.ensures ∙ ap (option_map (λ n. n.now)) c.in_ok-id_type.was)
    ∙ sym c.type_named.ensures ∙ ap (option_map (λ t. type_tree t.now)) c.in_ok-found.was in
    let fits : Fits None (tree_of c.in_ok-found.found.now.check) (data_of c.args.left.now) = (c.still_fits.ensures before sound (fitted s id before _ found admitted) is).0 c.if-still_fits.true in
    let light : weight (data_of c.args.left.now) ≤ GREATEST_WEIGHT = omega (arith, c.weight.ensures, c.if-weight-le-GREATEST_WEIGHT.true) in
    subst (λ d. admission s id d ≡ Ok c.in_ok-found.found.now.scope) (sym is)
    (patched_law s id before c.args.patch.now (type_tree c.in_ok-found.found.now) found admitted own named
    (subst (λ d. Fits None (tree_of c.in_ok-found.found.now.check) d) is fits) (subst (λ d. weight d ≤ GREATEST_WEIGHT) is light))
