use Rattle.std.proofs.Common.{refl, sym, ap, subst, ◌∙◌}
use Rattle.sync_peer.specs.Calls.{completion, done_by, edited, back_of, with_marks}
use Rattle.sync_peer.specs.Standing.{Edits}
use Rattle.doc_model.specs.Marks.{after_edit}
use Rattle.undo_marks.specs.Standing as marks
use Rattle.sync_peer.specs.declared.peer.Peer.{Peer}
use Rattle.sync_peer.proofs.PeerLemmas.{stands_on, completed_at, completed_at_acts, refused, back_is, marks_free, plain_back}
use Rattle.sync_peer.proofs.peer.Peer.edit.Goals as goal

pub returns-in_err-diff-clause-fault : goal.returns-in_err-diff-clause-fault
returns-in_err-diff-clause-fault g c = λ schemas state stands.
    let is = completed_at schemas state c.args.self.now stands c.args.wanted.now c.tell_rising.ensures c.schema.result.now c.store.result.now c.schema.ensures c.store.ensures.store in
    refused c.from_residual.result (done_by (completion schemas state c.args.wanted.now)) c.in_err-diff.field-0.0 c.from_residual.ensures
    (λ other. ap done_by (is ∙ c.in_err-diff.ensures other))

pub returns-clause-fault : goal.returns-clause-fault
returns-clause-fault g c = λ schemas state stands.
    ap done_by (
    completed_at schemas state c.args.self.now stands c.args.wanted.now c.tell_rising.ensures c.schema.result.now c.store.result.now c.schema.ensures c.store.ensures.store
    ∙ c.in_ok-diff.ensures)

pub record-requires-clause-plain : goal.record-requires-clause-plain
record-requires-clause-plain g c =
    let replica = c.args.self.now.client.replica in
    let acts = completed_at_acts replica c.schema.result.now c.store.result.now c.args.wanted.now c.in_ok-diff.diff c.schema.ensures c.store.ensures.store c.in_ok-diff.ensures in
    plain_back _ _ c.in_ok-diff.diff c.in_ok-back.back (c.in_ok-back.ensures.back acts)

pub returns-clause-ok : goal.returns-clause-ok
returns-clause-ok g c = λ schemas state stands.
    let old = c.args.self.now in
    let diff = c.in_ok-diff.diff in
    let acts = completed_at_acts old.client.replica c.schema.result.now c.store.result.now c.args.wanted.now diff c.schema.ensures c.store.ensures.store c.in_ok-diff.ensures in
    let new : Peer = record { client = c.edit-2.new.self; marks = c.record.new.self } in
    let m = after_edit (back_of schemas state diff) state.client.marks in
    let is = completed_at schemas state old stands c.args.wanted.now c.tell_rising.ensures c.schema.result.now c.store.result.now c.schema.ensures c.store.ensures.store ∙ c.in_ok-diff.ensures in
    subst (λ r. Edits schemas state r new) (sym is)
    (stands_on schemas state old stands (edited schemas diff state) new refl c.edit-2.ensures.schema (c.in_ok-back.ensures.ok (with_marks m state) (marks_free m state old.client stands.client) acts)
    (subst (λ b. marks.Stands (after_edit b state.client.marks) c.record.new.self) (c.in_ok-back.ensures.back acts ∙ back_is schemas state old stands diff)
    (c.record.ensures.stands state.client.marks (c.edit.ensures.stands state.client.marks stands.marks))))
