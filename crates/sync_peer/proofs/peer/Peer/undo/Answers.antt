use Rattle.std.proofs.Common.{sym, subst, ◌∙◌}
use Rattle.std.specs.Option.{option_map_or}
use Rattle.doc_model.specs.Marks.{after_undo}
use Rattle.undo_marks.specs.Standing as marks
use Rattle.sync_peer.specs.Calls.{with_marked, back_of}
use Rattle.sync_peer.specs.Standing.{Stands}
use Rattle.sync_peer.specs.declared.peer.Peer.{Peer}
use Rattle.sync_peer.proofs.PeerLemmas.{marked, back_is}
use Rattle.sync_peer.proofs.peer.Peer.undo.Goals as goal

pub returns-clause-ok : goal.returns-clause-ok
returns-clause-ok g c = λ schemas state stands.
    let old = c.args.self.now in
    let diff = c.in-Some.diff in
    let new : Peer = record { client = c.make.new.client; marks = c.undone.new.self } in
    let is = sym (c.in_ok-diff.ensures.diff state.client.marks stands.marks) ∙ c.in-Some.is in
    subst (λ o. Stands schemas (option_map_or (λ diff. with_marked diff (after_undo (back_of schemas state diff) state.client.marks) state) o state) new) (sym is)
    (marked schemas state old new stands diff (after_undo (back_of schemas state diff) state.client.marks) c.make.ensures.schema c.in_ok-back.ensures.ok
    (subst (λ b. marks.Stands (after_undo b state.client.marks) c.undone.new.self) (c.in_ok-back.ensures.back ∙ back_is schemas state old stands diff)
    (c.undone.ensures.stands state.client.marks (c.undo.ensures.stands state.client.marks stands.marks))))
