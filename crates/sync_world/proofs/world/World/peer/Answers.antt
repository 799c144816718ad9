use Rattle.sync_world.proofs.PartLemmas.{client_is}
use Rattle.sync_world.proofs.ViewingLemmas.{had}
use Rattle.sync_world.proofs.world.World.peer.Goals as goal

pub returns-clause-stands : goal.returns-clause-stands
returns-clause-stands c = λ schemas world one stands at.
    (client_is schemas world c.args.self.now.live stands.keeps.fits c.args.client one c.index.result.now c.requires at c.index.ensures).peer

pub returns-clause-store : goal.returns-clause-store
returns-clause-store c = had c.args.self.now.live c.args.client c.index.result.now c.index.result.now c.requires c.index.ensures
