use Rattle.std.proofs.Common.{sym, subst, ◌∙◌}
use Rattle.std.specs.Option.{option_map_or}
use Rattle.doc_model.specs.Marks.{after_redo}
use Rattle.undo_marks.specs.Standing as marks
use Rattle.sync_peer.specs.Calls.{with_marked, back_of}
use Rattle.sync_peer.specs.Standing.{Stands}
use Rattle.sync_peer.specs.declared.peer.Peer.{Peer}
use Rattle.sync_peer.proofs.PeerLemmas.{marked, back_is, plain_back}
use Rattle.sync_peer.proofs.peer.Peer.redo.Goals as goal

pub redone-requires-clause-plain : goal.redone-requires-clause-plain
redone-requires-clause-plain g c = plain_back _ _ c.in-Some.diff c.in_ok-back.back c.in_ok-back.ensures.back

pub returns-clause-ok : goal.returns-clause-ok
returns-clause-ok g c = λ schemas state stands.
    let old = c.args.self.now in
    let diff = c.in-Some.diff in
    let new : Peer = record { client = c.make.new.client; marks = c.redone.new.self } in
    let is = sym (c.in_ok-diff.ensures.diff state.client.marks stands.marks) ∙ c.in-Some.is in
    subst (λ o. Stands schemas (option_map_or (λ diff. with_marked diff (after_redo (back_of schemas state diff) state.client.marks) state) o state) new) (sym is)
    (marked schemas state old new stands diff (after_redo (back_of schemas state diff) state.client.marks) c.make.ensures.schema c.in_ok-back.ensures.ok
    (subst (λ b. marks.Stands (after_redo b state.client.marks) c.redone.new.self) (c.in_ok-back.ensures.back ∙ back_is schemas state old stands diff)
    (c.redone.ensures.stands state.client.marks (c.redo.ensures.stands state.client.marks stands.marks))))
