use Rattle.std.proofs.Common.{◌≡◌, ◌∷◌, [], IfOk, ap, subst, ◌∙◌}
use Rattle.room_events.specs.Events.{events_of}
use Rattle.room_events.specs.declared.room_event.RoomEvent.TheVariants.{Enter}
use Rattle.room_run.specs.Rooms.{opening_of}
use Rattle.room_run.specs.Turn.{Added}
use Rattle.room_run.specs.Views.{view_among}
use Rattle.room_run.proofs.TurnLemmas.{enters}
use Rattle.room_run.proofs.running.RunningRoom.pass.Goals as goal

pub returns-in-Ok-clause-entered : goal.returns-in-Ok-clause-entered
returns-in-Ok-clause-entered g c =
    let taken = c.take-held.new.seat.me.0 in
    let after = c.enter-held.new.seat.me.0 in
    let turn = c.enter-held.ensures.turn in
    let told = subst (λ r. IfOk r (λ number. (events_of number taken.seen ≡ []) × Added taken after (Enter number c.args.readonly ∷ []))) c.in-Ok.is c.enter-held.ensures.entered in
    let last = ap view_among c.into_badge-badge.ensures.2 ∙ ap (λ m. m.0) c.give.ensures.given in
    enters (opening_of c.args.self.now) c.in-Ok.session c.args.readonly taken after _ c.enter-held.result.0
    (c.take-held.ensures.seen.1 ∙ ap (λ m. m.0.mine) c.seat-seat.ensures.new) (c.take-held.ensures.seen.0 ∙ ap (λ m. m.0.opening) c.seat-seat.ensures.new)
    told.0 told.1 last turn.2 turn.3 c.give.ensures.legal
