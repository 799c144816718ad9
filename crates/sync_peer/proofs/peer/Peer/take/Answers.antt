use Rattle.std.proofs.Common.{◌≤◌, ◌+◌, ◌*◌, sym, subst}
use Rattle.room_model.specs.Replicas.{pending_diffs, schema_of}
use Rattle.client_replica.specs.Standing.{document_of}
use Rattle.client_replica.specs.Works.{operations}
use Rattle.sync_client.specs.Calls.{after_message, message_steps}
use Rattle.sync_client.specs.Standing as client
use Rattle.rooms_val.proofs.Truths.{on_ok_with}
use Rattle.undo_marks.specs.Standing as marks
use Rattle.sync_peer.specs.Calls.{records_of}
use Rattle.sync_peer.proofs.PeerLemmas.{stands_on, admits_are, document_is, message_version, message_marks}
use Rattle.sync_peer.proofs.peer.Peer.take.Goals as goal

pub returns-clause-ok : goal.returns-clause-ok
returns-clause-ok g c = on_ok_with c.take.result (λ told schemas state stands.
    let old = c.args.self.now in
    let said = c.args.message.now in
    let admits = (schema_of schemas state.client).admits in
    stands_on schemas state old stands (after_message admits schemas.room.is_document state said) (record { client = c.take.new.self; marks = old.marks }) (message_version admits schemas.room.is_document state said) c.take.ensures.schema
    (subst (λ test. client.Stands records_of (after_message admits test state said) c.take.new.self) (sym (document_is schemas state old stands))
    (subst (λ admitted. client.Stands records_of (after_message admitted (document_of old.client.replica) state said) c.take.new.self) (sym (admits_are schemas state old stands))
    (told state stands.client))) (subst (λ m. marks.Stands m old.marks) (sym (message_marks admits schemas.room.is_document state said)) stands.marks)) c.take.ensures.ok

pub returns-clause-ticks : goal.returns-clause-ticks
returns-clause-ticks g c = λ schemas state stands.
    subst (λ test. c.take.new.steps ≤ c.args.steps.now + (2 * operations (pending_diffs state.client) + message_steps test state.base c.args.message.now))
    (sym (document_is schemas state c.args.self.now stands)) (c.take.ensures.ticks state stands.client)
