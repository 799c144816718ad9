-- A client that has caught up shows the room's document.
use Rattle.std.proofs.Common.{sym, ◌∙◌}
use Rattle.world_laws.proofs.ShownLemmas.{shows_room}
use Rattle.sync_peer.proofs.PeerLemmas as peers
use Rattle.sync_world.specs.States.{client_state}
use Rattle.sync_world.specs.CaughtUp.{CaughtUpShowTheRoom}
use Rattle.sync_world.specs.declared.world.World.{World}
use Rattle.sync_world.proofs.ShowLemmas.{shown_is}

pub caught_up : (code : World) → CaughtUpShowTheRoom code
caught_up code schemas w number client kept stands there has now =
    let keeps = stands.keeps in
    let is = keeps.fits.clients.each number client kept there has in
    let room = shows_room schemas w number client keeps.reachable there now.reached now.owes in
    record {
      plan = room.0;
      leads = room.1;
      seen = sym (peers.shown_is schemas (client_state schemas w.room.history client) kept.peer is.peer) ∙ shown_is schemas w code.live keeps number client there ∙ room.2;
    }
