use Rattle.rooms_val.specs.View.{data_of}
use Rattle.room_snapshot.proofs.DocumentLemmas.{vals_more}
use Rattle.room_snapshot.proofs.documents.documents_val.Goals as goal

pub documents-preserved : goal.documents-preserved
documents-preserved c =
    vals_more c.args.documents.now c.documents.document-index c.document-item.result c.documents.vals c.push.new.self (data_of c.in_ok-val.val) c.documents-test.true c.document-item.is c.documents.invariant
    c.in_ok-val.ensures c.in_ok-push.ensures.ok
