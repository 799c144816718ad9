use Rattle.std.proofs.Common.{ap}
use Rattle.rooms_val.specs.View.{data_of, pairs_view}
use Rattle.rooms_val.proofs.RefusalLemmas.{passed_on}
use Rattle.view_vals.proofs.ViewsLemmas.{one_entry}
use Rattle.view_vals.proofs.views.key_and_text.Goals as goal

pub returns-in_err-only_entry-in-Map-clause-refused : goal.returns-in_err-only_entry-in-Map-clause-refused
returns-in_err-only_entry-in-Map-clause-refused c =
    passed_on c.from_residual.result c.in_err-only_entry-in-Map.field-0.0 c.from_residual.ensures.1
    (λ none key id is. none key id (one_entry (pairs_view c.as_slice.result.now) c.in-Map.fields (data_of c.args.val.now) key id c.as_slice.ensures.pairs (ap data_of c.in-Map.is) is)) c.in_err-only_entry-in-Map.ensures.refused
