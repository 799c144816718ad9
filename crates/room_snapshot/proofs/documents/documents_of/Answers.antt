use Rattle.room_snapshot.proofs.DocumentLemmas.{documents_more, no_documents}
use Rattle.rooms_val.proofs.RefusalLemmas.{passed_on}
use Rattle.room_snapshot.proofs.documents.documents_of.Goals as goal

pub returns-in_err-document-clause-refused : goal.returns-in_err-document-clause-refused
returns-in_err-document-clause-refused c =
    passed_on c.from_residual-in_err-document.result c.in_err-document.field-0.0 c.from_residual-in_err-document.ensures.1
    (no_documents c.args.vals.now c.vals.val-index c.val-item.result c.vals-test.true c.val-item.is) c.in_err-document.ensures.refused

pub vals-preserved : goal.vals-preserved
vals-preserved c =
    documents_more c.args.vals.now c.vals.val-index c.val-item.result c.vals.documents.items c.add.new.documents.items c.in_ok-document.document c.vals-test.true c.val-item.is c.vals.invariant
    c.in_ok-document.ensures.found c.in_ok-add.ensures
