use Rattle.std.proofs.Common.{arith}
use Rattle.std.proofs.lemmas.Grind.{common_steps}
use Rattle.wire_msgs.specs.Events.{action_val}
use Rattle.rooms_val.proofs.RefusalLemmas.{refused_for, passed_on}
use Rattle.wire_msgs.proofs.events.result_in.Goals as goal

pub returns-in_err-check_type-clause-refused : goal.returns-in_err-check_type-clause-refused
returns-in_err-check_type-clause-refused c = refused_for c.from_residual.result (λ push clock action proper is. c.in_err-check_type.ensures.only (grind (arith, common_steps)))

pub returns-in_err-client_clock-clause-refused : goal.returns-in_err-client_clock-clause-refused
returns-in_err-client_clock-clause-refused c = refused_for c.from_residual-in_err-client_clock.result (λ push clock action proper is. c.in_err-client_clock.ensures.only push proper.1 (grind (arith, common_steps)))

pub returns-in_err-server_clock-clause-refused : goal.returns-in_err-server_clock-clause-refused
returns-in_err-server_clock-clause-refused c = refused_for c.from_residual-in_err-server_clock.result (λ push clock action proper is. c.in_err-server_clock.ensures.only clock proper.2 (grind (arith, common_steps)))

pub returns-in_err-val_in-clause-refused : goal.returns-in_err-val_in-clause-refused
returns-in_err-val_in-clause-refused c = refused_for c.from_residual-in_err-val_in.result (λ push clock action proper is. c.in_err-val_in.ensures.only (action_val action) (grind (arith, common_steps)))

pub returns-in_err-action-clause-refused : goal.returns-in_err-action-clause-refused
returns-in_err-action-clause-refused c =
    passed_on c.from_residual-in_err-action.result c.in_err-action.field-0.0 c.from_residual-in_err-action.ensures.1 (λ none push clock action proper is. none action proper.0 (grind (arith, common_steps))) c.in_err-action.ensures.refused
