use Rattle.std.proofs.Common.{rules, ◌≡◌, w64, sym, ap, subst, ◌∙◌}
use mir.Val.{to_z, of_z}
use Rattle.client_replica.specs.Standing.{admits_of, document_of}
use Rattle.sync_client.specs.Calls.{hydrated, after_message}
use Rattle.sync_client.specs.Faults.{answer_fault}
use Rattle.sync_client.specs.Standing.{Stands}
use Rattle.sync_client.proofs.ClientLemmas.{asked_by}
use Rattle.sync_client.proofs.client.SyncClient.take.Goals as goal

pub returns-in_ok-take_answer-in-Connect-clause-ok : goal.returns-in_ok-take_answer-in-Connect-clause-ok
returns-in_ok-take_answer-in-Connect-clause-ok g c = λ state stands.
    let r = c.args.self.now.replica in
    let records = g.D.DocStore.records in
    let clock = c.in-Connect.server_clock in
    let asked = asked_by state.client.connection c.as_str.result.now (c.in_ok-check_answer-in-Connect.ensures ∙ ap (λ x. answer_fault x c.as_str.result.now) stands.connection) in
    let clock_is : to_z w64 (of_z w64 clock) ≡ clock = search rules in
    subst (λ m. Stands records (after_message (admits_of r) (document_of r) state m) c.take_answer.new.self) (sym c.in-Connect.is)
    (subst (λ z. Stands records (hydrated (admits_of r) (document_of r) c.in-Connect.hydration_type c.in-Connect.diff z state) c.take_answer.new.self) clock_is
    (c.in_ok-take_answer-in-Connect.ensures.ok state asked.0 stands asked.1))
