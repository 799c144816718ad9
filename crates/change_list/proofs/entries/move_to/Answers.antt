use Rattle.std.proofs.Common.{◌<◌, length, arith, rules}
use Rattle.links_core.proofs.Members.{without_all}
use Rattle.change_list.proofs.entries.move_to.Goals as goal

pub bounds-entries-node : goal.bounds-entries-node
bounds-entries-node c = c.requires.sound.made c.requires.linked.0 c.args.node c.requires.linked.1

pub offset_bounds-entries-node : goal.offset_bounds-entries-node
offset_bounds-entries-node c =
    let low : c.args.node < length c.args.entries.now = c.requires.sound.made c.requires.linked.0 c.args.node c.requires.linked.1 in search rules

pub push_back-requires-clause-made : goal.push_back-requires-clause-made
push_back-requires-clause-made c =
    omega (arith, c.requires.sound.made c.requires.linked.0 c.args.node c.requires.linked.1, c.requires.count, c.unlink.ensures.count)

pub push_back-requires-clause-unlinked : goal.push_back-requires-clause-unlinked
push_back-requires-clause-unlinked c =
    rw c.unlink.ensures.lists (without_all c.args.links.now.lists c.args.node)
