use Rattle.std.proofs.Common.{List, ◌++◌, OnErr, sym, subst}
use Rattle.room_run.specs.Calls.{given}
use Rattle.room_run.specs.Turn.{Added}
use Rattle.room_run.proofs.TurnLemmas.{added_both, given_more}
use Rattle.sync_msgs.specs.declared.out.Out.{Out}
use Rattle.room_run.proofs.running.RunningRoom.drain_all.Goals as goal

pub returns-in-Err-clause-err : goal.returns-in-Err-clause-err
returns-in-Err-clause-err g c =
    let n = c.args.number in
    let begun = c.args.seat.now.me.0 in
    let now = c.drain-after.new.seat.me.0 in
    let outs = c.drains.outs.items in
    let lost = subst (λ r. OnErr r ((lost : List Out) × Added c.drains.seat.me.0 now (given n lost))) c.in-Err.is c.drain-after.ensures.err in
    (outs ++ lost.0, subst (Added begun now) (sym (given_more n outs lost.0)) (added_both begun c.drains.seat.me.0 now (given n outs) (given n lost.0) c.drains.invariant.2 lost.1))
