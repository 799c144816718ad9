use Rattle.std.proofs.Common.{ap, ◌∙◌}
use Rattle.rooms_val.specs.View.{items_view}
use Rattle.shape_tree.specs.Records.{by_id}
use Rattle.shape_tree.specs.Index.{places}
use Rattle.shape_tree.proofs.IndexLemmas.{index_from_sorted}
use Rattle.shape_tree.proofs.index.index_of.Goals as goal

pub returns : goal.returns
returns c =
    index_from_sorted (by_id (items_view c.args.vals.now)) c.in_ok-index.index.items c.sort_unstable.new.self.items (c.in_ok-index.ensures ∙ ap places c.in_ok-records.ensures) c.sort_unstable.ensures.permutation c.sort_unstable.ensures.sorted
