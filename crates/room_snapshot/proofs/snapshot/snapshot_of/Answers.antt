use Rattle.std.proofs.Common.{sym, ap, ◌∙◌}
use Rattle.rooms_val.specs.View.{data_of}
use Rattle.field_ops.proofs.WireLemmas.{same_map}
use Rattle.room_snapshot.specs.Lines.{line_fields}
use Rattle.rooms_val.proofs.RefusalLemmas.{handed_on}
use Rattle.room_snapshot.proofs.snapshot.snapshot_of.Goals as goal

pub returns-clause-refused : goal.returns-clause-refused
returns-clause-refused c =
    handed_on c.line_in.result (λ none s held is. none s held (c.as_slice.ensures.pairs ∙ same_map c.in-Map.fields (line_fields s held) (sym (ap data_of c.in-Map.is) ∙ is))) c.line_in.ensures.refused
