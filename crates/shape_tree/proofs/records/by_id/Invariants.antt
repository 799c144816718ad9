use Rattle.std.proofs.Common.{◌≡◌, take}
use Rattle.rooms_val.specs.View.{items_view}
use Rattle.shape_tree.specs.Records.{by_id}
use Rattle.shape_tree.specs.View.{pairs_view}
use Rattle.shape_tree.proofs.records.by_id.Given as goal

abbrev pub invariant-vals : goal.invariant-vals
invariant-vals l = pairs_view l.records.entries ≡ by_id (items_view (take l.val-index l.vals))
