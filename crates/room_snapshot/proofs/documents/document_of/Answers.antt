use Rattle.std.proofs.Common.{sym, ap, ◌∙◌}
use Rattle.rooms_val.specs.View.{data_of}
use Rattle.field_ops.proofs.WireLemmas.{same_map}
use Rattle.room_snapshot.specs.Lines.{document_fields}
use Rattle.rooms_val.proofs.RefusalLemmas.{handed_on}
use Rattle.room_snapshot.proofs.documents.document_of.Goals as goal

pub returns-clause-refused : goal.returns-clause-refused
returns-clause-refused c =
    handed_on c.document_in.result (λ none document is. none document (c.as_slice.ensures.pairs ∙ same_map c.in-Map.fields (document_fields document) (sym (ap data_of c.in-Map.is) ∙ is)))
    c.document_in.ensures.refused
