use Rattle.std.proofs.Common.{Some, sym, subst, ◌∙◌}
use Rattle.replay_job.specs.Replies.{Reads}
use Rattle.replay_job.proofs.TakingLemmas.{becomes_nothing, becomes_later}
use Rattle.rooms_val.proofs.Truths.{if_ok_then}
use Rattle.replay_job.proofs.replay.Replay.take_line.Goals as goal

pub returns-then-is_passed_by-clause-taken : goal.returns-then-is_passed_by-clause-taken
returns-then-is_passed_by-clause-taken g c = λ progress reads.
    becomes_nothing c.args.self.now.trace progress c.args.line.now c.new.result c.args.self.now.world (sym c.is_passed_by.ensures ∙ c.if-is_passed_by.true) c.new.ensures.items reads

pub returns-in-Some-clause-taken : goal.returns-in-Some-clause-taken
returns-in-Some-clause-taken g c = if_ok_then c.take_event.result _ _ c.take_event.ensures (λ reply becomes progress reads.
    becomes_later c.args.self.now.trace progress c.args.line.now reply c.in-Some.world (Some c.take_event.new.world) (sym c.is_passed_by.ensures ∙ c.if-is_passed_by.false)
    (subst (Reads progress) c.in-Some.is reads) becomes)
