use Rattle.std.proofs.Common.{sym, ap, ◌∙◌}
use Rattle.room_model.specs.Worlds.{map_val}
use Rattle.sync_peer.proofs.PeerLemmas.{others_are}
use Rattle.sync_peer.proofs.peer.Peer.others.Goals as goal

pub returns : goal.returns
returns c = λ schemas state stands.
    ap map_val (c.in_ok-copy.ensures ∙ c.others.ensures state stands.client ∙ sym (others_are schemas state c.args.self.now stands))
