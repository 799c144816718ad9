use Rattle.links_core.proofs.Members.{without_all}
use Rattle.test_stores.proofs.lists.hang.Goals as goal

pub push_back-requires-clause-unlinked : goal.push_back-requires-clause-unlinked
push_back-requires-clause-unlinked c =
    rw c.unlink.ensures.lists (without_all c.args.links.now.lists c.args.node)
