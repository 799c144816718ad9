use Rattle.std.proofs.Common.{None}
use Rattle.room_model.proofs.CallLemmas.{message_step, drain_step, leave_step}
use Rattle.room_model.proofs.ClockLemmas.{step_near, reachable_near}
use Rattle.room_model.proofs.rooms.sent_clocks_lie_near.Goals as goal

pub returns-clause-receives : goal.returns-clause-receives
returns-clause-receives c schemas session said room replied is near =
    step_near schemas _ room replied.room (message_step schemas room session said replied is) near

pub returns-clause-drains : goal.returns-clause-drains
returns-clause-drains c schemas session given room is near = step_near schemas None room _ (drain_step schemas room session given is) near

pub returns-clause-leaves : goal.returns-clause-leaves
returns-clause-leaves c schemas session room after is near = step_near schemas None room after (leave_step schemas room session after is) near

pub returns-clause-always : goal.returns-clause-always
returns-clause-always c = reachable_near
