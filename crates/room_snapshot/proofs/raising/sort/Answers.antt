use Rattle.std.proofs.Common.{sym, ap, ◌∙◌}
use Rattle.rooms_val.specs.View.{data_of}
use Rattle.room_snapshot.specs.Ids.{with_record}
use Rattle.room_snapshot.proofs.RaiseLemmas.{by_id_more}
use Rattle.room_snapshot.proofs.raising.sort.Goals as goal

pub documents-preserved : goal.documents-preserved
documents-preserved c =
    let document = c.document-item.result in
    c.in_ok-add.ensures
    ∙ ap (λ m. with_record m (data_of document.record)) c.documents.invariant
    ∙ sym (by_id_more c.args.documents.now c.documents.document-index document c.documents-test.true c.document-item.is)
