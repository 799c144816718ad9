use Rattle.std.proofs.Common.{rules, ◌≡◌, ◌∷◌, [], None, sym, subst}
use Rattle.room_events.specs.declared.room_event.RoomEvent.TheVariants.{Drain}
use Rattle.room_run.specs.Calls.{given}
use Rattle.room_run.specs.Turn.{Added}
use Rattle.room_run.proofs.TurnLemmas.{added_both, idle_given}
use Rattle.room_run.proofs.running.RunningRoom.look.Goals as goal

pub returns-in-Ok-noted-clause-ok : goal.returns-in-Ok-noted-clause-ok
returns-in-Ok-noted-clause-ok g c =
    let n = c.args.number in
    let begun = c.args.seat.now.me.0 in
    let mid = c.drain_all-held.new.seat.me.0 in
    let now = c.note_nothing-held.new.seat.me.0 in
    let outs = c.in-Ok.outs.items in
    let drained : Added begun mid (given n outs) = search rules in
    let noted : Added mid now (Drain n None ∷ []) = search rules in
    subst (Added begun now) (sym (idle_given n outs (λ none. absurd (search rules)))) (added_both begun mid now (given n outs) (Drain n None ∷ []) drained noted)
