use Rattle.std.proofs.Common.{Some, refl}
use Rattle.replay_job.proofs.TakingLemmas.{becomes_world, becomes_no_world}
use Rattle.replay_job.proofs.replay.Replay.take_header.Goals as goal

pub returns-in_ok-new-in-Ok-clause-taken : goal.returns-in_ok-new-in-Ok-clause-taken
returns-in_ok-new-in-Ok-clause-taken c =
    let code = c.in_ok-new-in-Ok.field-0 in
    becomes_world c.args.line.now c.in-Ok.header c.new-in-Ok.result code (Some code) c.in-Ok.ensures.found c.in_ok-new-in-Ok.ensures c.new-in-Ok.ensures.items refl

pub returns-in_ok-line_fault_text-in-Err-clause-taken : goal.returns-in_ok-line_fault_text-in-Err-clause-taken
returns-in_ok-line_fault_text-in-Err-clause-taken c =
    becomes_no_world c.args.line.now c.in-Err.fault c.in_ok-line_fault_text-in-Err.field-0 c.args.self.now.world c.in-Err.ensures.refused c.in_ok-line_fault_text-in-Err.ensures c.requires
