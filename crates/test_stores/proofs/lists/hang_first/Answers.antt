use Rattle.std.proofs.Common.{sym}
use Rattle.links_core.proofs.Members.{first_in_list}
use Rattle.test_stores.proofs.lists.hang_first.Goals as goal

pub hang-requires-clause-linked : goal.hang-requires-clause-linked
hang-requires-clause-linked c =
    (c.args.from.number, first_in_list _ c.in-Some.node (sym c.in-Some.ensures.value))

pub hang-requires-clause-made : goal.hang-requires-clause-made
hang-requires-clause-made c =
    c.in-Some.ensures.sound.made c.args.from.number c.in-Some.node (first_in_list _ c.in-Some.node (sym c.in-Some.ensures.value))
