use Rattle.std.proofs.Common.{sym, ap, ◌∙◌}
use Rattle.rooms_val.specs.View.{data_of}
use Rattle.field_ops.proofs.WireLemmas.{same_map}
use Rattle.rec_format.specs.Events.{header_fields}
use Rattle.rooms_val.proofs.Truths.{any_err}
use Rattle.rec_format.proofs.read.header_in.Goals as goal

pub returns-in_err-header_of-clause-only : goal.returns-in_err-header_of-clause-only
returns-in_err-header_of-clause-only c =
    any_err c.from_residual.result (λ h within is. c.in_err-header_of.ensures.only h within (c.as_slice.ensures.pairs ∙ same_map c.in-Map.fields (header_fields h) (sym (ap data_of c.in-Map.is) ∙ is)))
