use Rattle.std.proofs.Common.{sym, ap, ◌∙◌}
use Rattle.rooms_val.specs.View.{data_of}
use Rattle.field_ops.proofs.WireLemmas.{same_map}
use Rattle.wire_msgs.specs.Events.{event_fields}
use Rattle.rooms_val.proofs.RefusalLemmas.{handed_on}
use Rattle.wire_msgs.proofs.events.event_of.Goals as goal

pub returns-clause-refused : goal.returns-clause-refused
returns-clause-refused c =
    handed_on c.event_in.result (λ none e proper is. none e proper (c.as_slice.ensures.pairs ∙ same_map c.in-Map.fields (event_fields e) (sym (ap data_of c.in-Map.is) ∙ is))) c.event_in.ensures.refused
