use Rattle.client_link.specs.Hearing.{Refuses}
use Rattle.client_link.proofs.HearingLemmas.{refuses_taken}
use Rattle.link_texts.specs.Faults.{fault_of_piece}
use Rattle.link_texts.specs.Hearing.{IfRefused}
use Rattle.rooms_val.proofs.Truths.{err_as}
use Rattle.client_link.proofs.hearing.hear.Goals as goal

pub returns-in_err-take_piece-clause-refused : goal.returns-in_err-take_piece-clause-refused
returns-in_err-take_piece-clause-refused c =
    let fault = c.in_err-take_piece.field-0.0 in
    err_as (IfRefused (Refuses c.args.assembler.now c.args.bytes.now)) c.from_residual.result (fault_of_piece fault) c.from_residual.ensures.1
    (refuses_taken c.args.assembler.now c.args.bytes.now fault c.in_err-take_piece.ensures.refused)
