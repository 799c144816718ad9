use Rattle.std.proofs.Common.{sym, ap, ◌∙◌}
use Rattle.rooms_val.specs.View.{data_of}
use Rattle.rec_format.proofs.RefusalLemmas.{passed_on}
use Rattle.rec_format.proofs.TextLemmas.{same_items}
use Rattle.rec_format.proofs.clips.ids_of.Goals as goal

pub returns-in_err-texts_of-in-List-clause-refused : goal.returns-in_err-texts_of-in-List-clause-refused
returns-in_err-texts_of-in-List-clause-refused c =
    passed_on c.from_residual.result c.in_err-texts_of-in-List.field-0.0 c.from_residual.ensures.1
    (λ none ids is. none ids (c.as_slice.ensures.values ∙ same_items c.in-List.vals ids (ap data_of (sym c.in-List.is) ∙ is)))
    c.in_err-texts_of-in-List.ensures.refused
