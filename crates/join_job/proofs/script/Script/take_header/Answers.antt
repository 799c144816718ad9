use Rattle.std.proofs.Common.{◌≡◌, ℕ, List, refl, ◌∙◌, inl}
use Rattle.std.proofs.lemmas.Result.{err_from_is_err_and}
use Rattle.client_link.specs.declared.saying.Saying.{Saying}
use Rattle.peer_schemas.specs.Clients.{AreOfTables}
use Rattle.room_join.specs.Joiners.{hello}
use Rattle.room_model.specs.Schemas.{WorldSchemas}
use Rattle.side_effects.specs.declared.fault.EditFault.{EditFault}
use Rattle.join_job.proofs.TurnLemmas.{cut_off, joined, join_begun, not_joined}
use Rattle.join_job.proofs.script.Script.take_header.Goals as goal

-- what is sent is what was said
says : {said given : List Saying} → given ≡ said → (room version : ℕ) → ((schemas : WorldSchemas EditFault) → AreOfTables schemas → said ≡ hello schemas room version)
    → (schemas : WorldSchemas EditFault) → AreOfTables schemas → given ≡ hello schemas room version
says same room version so schemas tables = same ∙ so schemas tables

pub returns-in_err-joiner-in-Ok-clause-comes : goal.returns-in_err-joiner-in-Ok-clause-comes
returns-in_err-joiner-in-Ok-clause-comes g c =
    let p = err_from_is_err_and c.from_residual.result c.from_residual.ensures.1 in
    rw p.1 (cut_off _ (g.K.Link.told c.args.link.now) (λ x schemas tables. inl refl))

pub returns-in_err-text-in-Err-clause-comes : goal.returns-in_err-text-in-Err-clause-comes
returns-in_err-text-in-Err-clause-comes g c =
    let p = err_from_is_err_and c.from_residual-in_err-text-in-Err.result c.from_residual-in_err-text-in-Err.ensures.1 in
    rw p.1 (cut_off _ (g.K.Link.told c.args.link.now) (λ x schemas tables. inl refl))

pub returns-in_err-send_all-in-Ok-clause-comes : goal.returns-in_err-send_all-in-Ok-clause-comes
returns-in_err-send_all-in-Ok-clause-comes g c =
    let p = err_from_is_err_and c.from_residual-in_err-send_all-in-Ok.result c.from_residual-in_err-send_all-in-Ok.ensures.1 in
    let told = g.K.Link.told in
    let version = c.in-Ok.header.version in
    rw p.1 (join_begun c.args.at c.args.self.now.room c.args.line.now (Unit {0}) c.in_err-send_all-in-Ok.field-0.0 p.0 c.in-Ok.header c.deref.result.now c.replace.new.self (told c.args.link.now) (told c.send_all.new.link)
    c.in-Ok.ensures.found (says c.deref.ensures.value c.args.self.now.room version c.in_ok-joiner-in-Ok.ensures.said) c.in_err-send_all-in-Ok.ensures.sent)

pub returns-in_ok-send_all-in-Ok-clause-comes : goal.returns-in_ok-send_all-in-Ok-clause-comes
returns-in_ok-send_all-in-Ok-clause-comes g c =
    let told = g.K.Link.told in
    let version = c.in-Ok.header.version in
    joined c.args.at c.args.self.now.room c.args.line.now c.in_ok-send_all-in-Ok.field-0 c.in-Ok.header c.in_ok-joiner-in-Ok.joiner c.deref.result.now c.nothing.result c.replace.new.self (told c.args.link.now) (told c.send_all.new.link)
    c.in-Ok.ensures.found c.in_ok-joiner-in-Ok.ensures.stands (says c.deref.ensures.value c.args.self.now.room version c.in_ok-joiner-in-Ok.ensures.said) c.in_ok-send_all-in-Ok.ensures.sent
    c.nothing.ensures.text c.nothing.ensures.end c.replace.ensures.after

pub returns-in_ok-fault_reply-in-Err-clause-comes : goal.returns-in_ok-fault_reply-in-Err-clause-comes
returns-in_ok-fault_reply-in-Err-clause-comes g c =
    not_joined c.args.at c.args.self.now.room c.args.line.now c.in-Err.fault c.in_ok-text-in-Err.text c.in_ok-fault_reply-in-Err.field-0 c.args.self.now.joiner (g.K.Link.told c.args.link.now)
    c.in-Err.ensures.refused c.in_ok-text-in-Err.ensures c.in_ok-fault_reply-in-Err.ensures.text c.in_ok-fault_reply-in-Err.ensures.end
