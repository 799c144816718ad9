use Rattle.std.proofs.Common.{inr, sym, ap, ◌∙◌, ◌++◌, ◌∷◌, []}
use Rattle.room_events.specs.Events.{events_of}
use Rattle.room_events.specs.declared.room_event.RoomEvent.TheVariants.{Enter}
use Rattle.room_run.specs.declared.views.Story.{Story}
use Rattle.room_run.proofs.running.RunningRoom.enter.Goals as goal

pub append-requires-clause-turn : goal.append-requires-clause-turn
append-requires-clause-turn c =
    (c.args.held, Enter c.in-Ok.number c.args.readonly, c.requires.turn, c.in-Ok.ensures.entered, inr (c.requires.new, c.in-Ok.ensures.new))

pub returns-in-Ok-clause-entered : goal.returns-in-Ok-clause-entered
returns-in-Ok-clause-entered c =
    let event = Enter c.in-Ok.number c.args.readonly in
    let longer = ap (λ (s : Story). s.pen) c.in-Ok.ensures.entered ∙ ap (λ l. l ++ event ∷ []) (sym c.requires.turn.2) in
    (ap (events_of c.in-Ok.number) c.requires.turn.2 ∙ c.in-Ok.ensures.new, c.append.ensures.added event longer)
