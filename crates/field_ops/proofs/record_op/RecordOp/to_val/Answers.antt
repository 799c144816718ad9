use Rattle.std.proofs.Common.{◌++◌, ◌∷◌, [], codes, ap, ◌∙◌}
use Rattle.rooms_val.specs.Data.{list, map, item, no_items, items_of, members_of}
use Rattle.field_ops.specs.Wire.{named}
use Rattle.field_ops.proofs.WireLemmas.{members_of-patch_pairs}
use Rattle.field_ops.proofs.record_op.RecordOp.to_val.Goals as goal

pub returns-in_ok-with-in-Patch : goal.returns-in_ok-with-in-Patch
returns-in_ok-with-in-Patch c =
    rw c.in-Patch.is (ap (λ l. list (items_of l)) (c.in_ok-with-in-Patch.ensures ∙ (λ i. c.in_ok-list_of_name-in-Patch.ensures i ++ map (members_of (c.in_ok-to_fields-in-Patch.ensures i)) ∷ []))
    ∙ ap (λ m. named (codes "patch") (item (map m) no_items)) (members_of-patch_pairs c.in-Patch.diff))
