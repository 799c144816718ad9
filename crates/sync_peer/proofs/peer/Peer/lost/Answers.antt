use Rattle.std.proofs.Common.{refl, sym, subst}
use Rattle.room_model.specs.Schemas.{records_with}
use Rattle.room_model.specs.Replicas.{after_cut}
use Rattle.sync_client.specs.Standing as client
use Rattle.sync_peer.specs.Calls.{records_of}
use Rattle.sync_peer.proofs.PeerLemmas.{stands_on, document_is}
use Rattle.sync_peer.proofs.peer.Peer.lost.Goals as goal

pub returns : goal.returns
returns c = record {
  stands = λ schemas state stands.
      let old = c.args.self.now in
      let left = after_cut state.client in
      stands_on schemas state old stands (record { base = records_with schemas.room.is_document state.base; client = left }) (record { client = c.lost.new.self; marks = old.marks }) refl c.lost.ensures.schema
      (subst (λ test. client.Stands records_of (record { base = records_with test state.base; client = left }) c.lost.new.self)
      (sym (document_is schemas state old stands)) (c.lost.ensures.stands state stands.client)) stands.marks;
  store = c.lost.ensures.store;
}
