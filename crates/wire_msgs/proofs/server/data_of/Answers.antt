use Rattle.std.proofs.Common.{arith}
use Rattle.std.proofs.lemmas.Grind.{common_steps}
use Rattle.std.proofs.Common.{◌≡◌, ◌∙◌}
use Rattle.std.specs.Prelude as std
use Rattle.rooms_val.specs.Data.{list, items_of}
use Rattle.rooms_val.specs.View.{data_of}
use Rattle.wire_msgs.specs.Events.{event_val}
use Rattle.wire_msgs.proofs.EventLemmas.{one_items}
use Rattle.rooms_val.proofs.RefusalLemmas.{refused_for, passed_on}
use Rattle.wire_msgs.proofs.server.data_of.Goals as goal

pub returns-in_err-vals-clause-refused : goal.returns-in_err-vals-clause-refused
returns-in_err-vals-clause-refused c = refused_for c.from_residual-in_err-vals.result (λ events proper is. c.in_err-vals.ensures.only (list (items_of (std.map event_val events))) (grind (arith, common_steps)))

pub returns-in_err-events-clause-refused : goal.returns-in_err-events-clause-refused
returns-in_err-events-clause-refused c =
    passed_on c.from_residual-in_err-events.result c.in_err-events.field-0.0 c.from_residual-in_err-events.ensures.1
    (λ none events proper is.
    let same : data_of c.in_ok-vals.field-0.now ≡ list (items_of (std.map event_val events)) = grind (arith, common_steps) in
    none events proper (c.as_slice.ensures.values ∙ one_items c.in-List.vals (std.map event_val events) c.in_ok-vals.field-0.now c.in-List.is same))
    c.in_err-events.ensures.refused
