use Rattle.std.proofs.Common.{ap, ◌∙◌}
use Rattle.std.specs.Option.{option_map_or}
use Rattle.rooms_val.specs.Maps.{with_key}
use Rattle.rooms_val.specs.View.{data_of}
use Rattle.room_snapshot.specs.Sorted.{sorted_view}
use Rattle.room_snapshot.proofs.RaiseLemmas.{sorted_view-insert}
use Rattle.room_snapshot.proofs.raising.add.Goals as goal

pub returns-in_ok-insert : goal.returns-in_ok-insert
returns-in_ok-insert c =
    let before = sorted_view c.args.sorted.now.entries in
    ap sorted_view c.in_ok-insert.ensures.entries
    ∙ sorted_view-insert c.args.sorted.now.entries c.in-Some.id c.args.val
    ∙ ap (λ o. option_map_or (λ id. with_key before id (data_of c.args.val.now)) o before) c.in-Some.ensures
