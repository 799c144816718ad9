use Rattle.std.proofs.Common.{sym, subst}
use Rattle.std.specs.Option.{option_map_or}
use Rattle.doc_model.specs.Marks.{bail_diff, after_bail}
use Rattle.sync_peer.specs.Calls.{with_marked}
use Rattle.sync_peer.specs.Standing.{Stands}
use Rattle.sync_peer.specs.declared.peer.Peer.{Peer}
use Rattle.sync_peer.proofs.PeerLemmas.{marked, bail_found}
use Rattle.sync_peer.proofs.peer.Peer.bail.Goals as goal

pub returns-clause-ok : goal.returns-clause-ok
returns-clause-ok g c = λ schemas state stands.
    let old = c.args.self.now in
    let name = c.args.name.now in
    let diff = c.in_ok-diff.diff in
    let new : Peer = record { client = c.make.new.client; marks = c.bailed.new.self } in
    let is = bail_found (bail_diff name state.client.marks) diff (c.in_ok-diff.ensures.diff state.client.marks stands.marks) in
    subst (λ o. Stands schemas (option_map_or (λ diff. with_marked diff (after_bail name state.client.marks) state) o state) new) (sym is)
    (marked schemas state old new stands diff (after_bail name state.client.marks) c.make.ensures.schema c.in_ok-make.ensures.ok
    (c.bailed.ensures.stands name state.client.marks c.in_ok-diff.ensures.begun (c.bail.ensures.stands state.client.marks stands.marks)))
