use Rattle.std.proofs.Common.{length, ap, sym, ◌∙◌}
use Rattle.std.proofs.lemmas.List.{length-set, length-map}
use Rattle.links_core.specs.Lists.{without}
use Rattle.links_core.proofs.Members.{first_in_list}
use Rattle.test_stores.proofs.lists.turn.Goals as goal

pub move_back-requires : goal.move_back-requires
move_back-requires c =
    (c.args.list.number, first_in_list _ c.in-Some.node (sym c.in-Some.ensures.value))

pub returns-in-Some : goal.returns-in-Some
returns-in-Some c =
    ap length (c.move_back.ensures.lists c.args.list.number (first_in_list _ c.in-Some.node (sym c.in-Some.ensures.value))) ∙ length-set _ _ _ ∙ length-map c.args.links.now.lists (without c.in-Some.node)
