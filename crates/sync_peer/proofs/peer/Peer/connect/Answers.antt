use Rattle.std.proofs.Common.{sym, subst}
use Rattle.rooms_val.specs.Answers.{Gives}
use Rattle.room_model.specs.declared.fault.ConnectFault.TheVariants as connect_fault
use Rattle.sync_client.specs.Calls.{connect_answer}
use Rattle.sync_peer.proofs.PeerLemmas.{versions_are}
use Rattle.sync_peer.proofs.peer.Peer.connect.Goals as goal

pub returns-clause-answer : goal.returns-clause-answer
returns-clause-answer c = λ schemas state stands.
    subst (λ versions. Gives connect_fault.OutOfMemory (λ said. said) c.connect.result (connect_answer versions c.args.request state.client))
    (sym (versions_are schemas state c.args.self.now stands)) (c.connect.ensures.answer state stands.client)
