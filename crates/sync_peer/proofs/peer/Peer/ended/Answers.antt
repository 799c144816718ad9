use Rattle.std.proofs.Common.{sym, subst}
use Rattle.room_model.specs.Schemas.{records_with}
use Rattle.room_model.specs.Replicas.{after_end}
use Rattle.sync_client.specs.Standing as client
use Rattle.undo_marks.specs.Standing as marks
use Rattle.sync_peer.specs.Calls.{records_of}
use Rattle.room_model.proofs.ClientLemmas.{end_version}
use Rattle.sync_peer.proofs.PeerLemmas.{stands_on, document_is, end_marks}
use Rattle.sync_peer.proofs.peer.Peer.ended.Goals as goal

pub returns : goal.returns
returns c = record {
  stands = λ schemas state stands.
      let old = c.args.self.now in
      let left = after_end c.args.reason state.client in
      stands_on schemas state old stands (record { base = records_with schemas.room.is_document state.base; client = left }) (record { client = c.ended.new.self; marks = old.marks }) (end_version c.args.reason state.client) c.ended.ensures.schema
      (subst (λ test. client.Stands records_of (record { base = records_with test state.base; client = left }) c.ended.new.self)
      (sym (document_is schemas state old stands)) (c.ended.ensures.stands state stands.client)) (subst (λ m. marks.Stands m old.marks) (sym (end_marks c.args.reason state.client)) stands.marks);
  store = c.ended.ensures.store;
}
