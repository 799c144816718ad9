use Rattle.std.proofs.Common.{Some}
use Rattle.replay_job.proofs.TakingLemmas.{playable, becomes_event, becomes_no_event}
use Rattle.rooms_val.proofs.Truths.{if_ok_then}
use Rattle.replay_job.proofs.replay.take_event.Goals as goal

pub returns-in_ok-line_fault_text-in-Err : goal.returns-in_ok-line_fault_text-in-Err
returns-in_ok-line_fault_text-in-Err g c = λ schemas viewed stands.
    becomes_no_event c.args.trace schemas viewed c.args.line.now c.in-Err.fault c.in_ok-line_fault_text-in-Err.field-0 c.args.world.now c.in-Err.ensures.refused c.in_ok-line_fault_text-in-Err.ensures stands

pub returns-in-Ok : goal.returns-in-Ok
returns-in-Ok g c = if_ok_then c.happen.result _ _ c.happen.ensures (λ reply becomes schemas viewed stands.
    becomes_event c.args.trace schemas viewed c.args.line.now c.in-Ok.event reply (Some c.happen.new.world) c.in-Ok.ensures.found (becomes schemas viewed stands))

pub happen-requires : goal.happen-requires
happen-requires g c = playable c.in-Ok.event c.in-Ok.ensures.found.1
