use Rattle.room_snapshot.specs.Lines.{document_fields}
use Rattle.rooms_val.proofs.FieldLemmas.{at_place}
use Rattle.rooms_val.proofs.RefusalLemmas.{refused_for}
use Rattle.room_snapshot.proofs.documents.document_in.Goals as goal

pub returns-in_err-clock-clause-refused : goal.returns-in_err-clock-clause-refused
returns-in_err-clock-clause-refused c =
    refused_for c.from_residual.result (λ document is. c.in_err-clock.ensures.only document.1 (at_place c.args.entries.now 0 c.clock-item.result (document_fields document) c.clock-item.is is))

pub returns-in_err-state-clause-refused : goal.returns-in_err-state-clause-refused
returns-in_err-state-clause-refused c =
    refused_for c.from_residual-in_err-state.result (λ document is. c.in_err-state.ensures.only document.0 (at_place c.args.entries.now 1 c.state-item.result (document_fields document) c.state-item.is is))
