use Rattle.std.proofs.Common.{◌≡◌, not, sym, ap, subst, ◌∙◌}
use Rattle.std.specs.Prelude.{◌↔◌, IsTrue, None}
use Rattle.rooms_val.specs.Data.{map, members_of}
use Rattle.rooms_val.specs.Kinds.{on_map}
use Rattle.rooms_val.specs.View.{data_of}
use Rattle.field_ops.specs.Patched.{patched}
use Rattle.field_ops.specs.ValueOps.{edits_of}
use Rattle.record_valid.specs.Tree.{object, rows_of}
use Rattle.record_valid.specs.View.{tree_of}
use Rattle.record_valid.specs.Fits.{Fits}
use Rattle.record_valid.proofs.ByKeyLemmas.{still_law, unnamed_by}
use Rattle.record_valid.proofs.patched.still_fits.Goals as goal

pub returns-then-is_none : goal.returns-then-is_none
returns-then-is_none c before sound fitted is =
    let untyped = unnamed_by _ c.get.result _ c.get.ensures (c.is_none.ensures ∙ ap not c.if-is_none.true) in
    let tree : tree_of c.args.check.now ≡ object (rows_of c.in-Object.fields) = ap tree_of c.in-Object.is in
    let left : data_of c.args.left.now ≡ map (members_of c.in-Map.map) = ap data_of c.in-Map.is in
    subst (λ k. IsTrue c.still_fit.result ↔ Fits None k (data_of c.args.left.now)) (sym tree)
    (subst (λ d. IsTrue c.still_fit.result ↔ Fits None (object (rows_of c.in-Object.fields)) d) (sym left)
    (still_law c.in-Object.fields c.in-Map.map c.args.patch.now c.still_fit.result c.still_fit.ensures.rising untyped c.still_fit.ensures.fits before sound (subst (λ k. Fits None k before) tree fitted) (sym left ∙ is)))
