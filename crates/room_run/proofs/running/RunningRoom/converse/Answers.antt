use Rattle.std.proofs.Common.{List, ◌∷◌, [], IfOk, inr, refl, subst}
use Rattle.room_model.specs.declared.handled.Handled.{Handled}
use Rattle.room_events.specs.declared.room_event.RoomEvent.{RoomEvent}
use Rattle.room_events.specs.declared.room_event.RoomEvent.TheVariants.{Message}
use Rattle.room_run.specs.Calls.{given, IsBegun}
use Rattle.room_run.specs.Turn.{Added}
use Rattle.room_run.proofs.TurnLemmas.{added_both}
use Rattle.rooms_val.proofs.Truths.{on_err_then}
use Rattle.sync_msgs.specs.declared.out.Out.{Out}
use Rattle.room_run.proofs.running.RunningRoom.converse.Goals as goal

pub returns-in-Ok-clause-err : goal.returns-in-Ok-clause-err
returns-in-Ok-clause-err g c =
    let n = c.args.number in
    let begun = c.args.seat.now.me.0 in
    let mid = c.hear-held.new.seat.me.0 in
    let now = c.drain_out.new.seat.me.0 in
    let heard = subst (λ r. IfOk r (λ _. (reply : Handled) × Added begun mid (Message n c.args.message.now reply ∷ []))) c.in-Ok.is c.hear-held.ensures.ok in
    let first = Message n c.args.message.now heard.0 in
    on_err_then c.drain_out.result.1 ((lost : List Out) × Added mid now (given n lost)) _ c.drain_out.ensures.err
    (λ lost. (first ∷ given n lost.0, inr (heard.0, lost.0, refl), added_both begun mid now (first ∷ []) (given n lost.0) heard.1 lost.1))
