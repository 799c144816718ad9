use Rattle.std.proofs.Common.{sym, ap, ◌∙◌}
use Rattle.std.proofs.lemmas.Result.{IfOk-weaker}
use Rattle.shape_tree.specs.Queries.{ids_meeting}
use Rattle.sync_peer.specs.Calls.{records_of}
use Rattle.sync_peer.proofs.PeerLemmas.{shown_is}
use Rattle.sync_peer.proofs.peer.Peer.query.Goals as goal

pub returns : goal.returns
returns c = IfOk-weaker c.ids.result _ _
    (λ ids is. λ schemas state stands.
    is ∙ ap (λ m. ids_meeting m c.args.type_name.now c.args.query.now) (ap records_of c.store.ensures.store ∙ sym (shown_is schemas state c.args.self.now stands)))
    (c.ids.ensures (λ x none. absurd (cc)))
