use Rattle.std.proofs.Common.{sym, subst}
use Rattle.rooms_val.specs.Answers.{Gives}
use Rattle.rooms_val.specs.View.{data_of}
use Rattle.schema_core.specs.SchemaOf.{schema_tree}
use Rattle.side_effects.specs.declared.fault.EditFault.TheVariants as edit_fault
use Rattle.sync_client.specs.Presences.{presence_fault}
use Rattle.sync_peer.specs.Calls.{done_unless, as_edit}
use Rattle.sync_peer.proofs.PeerLemmas.{answers, refusal_is}
use Rattle.sync_peer.proofs.peer.Peer.presence.Goals as goal

pub returns-clause-fault : goal.returns-clause-fault
returns-clause-fault c = λ schemas state stands.
    let old = c.args.self.now in
    let d = data_of c.args.stored in
    subst (λ fault. Gives edit_fault.OutOfMemory (λ done. done) (as_edit c.presence.result) (done_unless fault)) (sym (refusal_is schemas state old stands d))
    (answers c.presence.result (presence_fault (schema_tree old.client.replica.schema) d) c.presence.ensures.fault)
