use Rattle.std.proofs.Common.{ap, ◌∙◌}
use Rattle.std.specs.Option.{option_map_or}
use Rattle.rooms_val.specs.Maps.{with_key}
use Rattle.rooms_val.specs.View.{data_of}
use Rattle.shape_tree.specs.View.{pairs_view}
use Rattle.shape_tree.proofs.RecordsLemmas.{pairs_view-insert}
use Rattle.shape_tree.proofs.records.add.Goals as goal

pub returns-in_ok-insert : goal.returns-in_ok-insert
returns-in_ok-insert c =
    let before = pairs_view c.args.records.now.entries in
    ap pairs_view c.in_ok-insert.ensures.entries
    ∙ pairs_view-insert c.args.records.now.entries c.in-Some.id c.args.val
    ∙ ap (λ o. option_map_or (λ id. with_key before id (data_of c.args.val.now)) o before) c.in-Some.ensures
