use Rattle.std.proofs.Common.{rules, ◌≡◌, [], ◌∷◌, Option, Some, IfOk, inl, refl, subst}
use Rattle.std.specs.Prelude.{MatchOption}
use Rattle.room_events.specs.declared.room_event.RoomEvent.TheVariants.{Drain}
use Rattle.room_run.specs.Held.{longer, IsDrained}
use Rattle.sync_msgs.specs.declared.out.Out.{Out}
use Rattle.room_run.proofs.TurnLemmas.{ready_after}
use Rattle.room_run.proofs.running.RunningRoom.drain.Goals as goal

pub append-held-requires-clause-turn : goal.append-held-requires-clause-turn
append-held-requires-clause-turn c =
    let told = subst (λ o. MatchOption o ((c.drain.new.self ≡ c.args.held) × IsDrained c.args.number c.args.held)
    (λ copy. (out : Out) × (c.drain.new.self ≡ longer c.args.held (Drain c.args.number (Some out))) × IfOk copy (λ d. d ≡ out))) c.in-Ok-Some.field-0-is c.in-Ok-Some.ensures.ok in
    (c.args.held, Drain c.args.number (Some told.0), c.requires.ready.0, told.1, inl c.requires.ready.1.session)

pub returns-in-Ok-clause-ready : goal.returns-in-Ok-clause-ready
returns-in-Ok-clause-ready c =
    let told = subst (λ o. MatchOption o ((c.drain.new.self ≡ c.args.held) × IsDrained c.args.number c.args.held)
    (λ copy. (out : Out) × (c.drain.new.self ≡ longer c.args.held (Drain c.args.number (Some out))) × IfOk copy (λ d. d ≡ out))) c.in-Ok-Some.field-0-is c.in-Ok-Some.ensures.ok in
    ready_after c.args.number c.args.seat.now.me c.append-held.new.seat.me c.args.held c.drain.new.self c.append-held.result (Drain c.args.number (Some told.0))
    c.requires.ready told.1 refl refl c.append-held.ensures.turn c.append-held.ensures.same c.append-held.ensures.added

pub returns-in-Err-copy-clause-ready : goal.returns-in-Err-copy-clause-ready
returns-in-Err-copy-clause-ready c =
    let told = subst (λ o. MatchOption o ((c.drain.new.self ≡ c.args.held) × IsDrained c.args.number c.args.held)
    (λ copy. (out : Out) × (c.drain.new.self ≡ longer c.args.held (Drain c.args.number (Some out))) × IfOk copy (λ d. d ≡ out))) c.in-Ok-Some.field-0-is c.in-Ok-Some.ensures.ok in
    ready_after c.args.number c.args.seat.now.me c.append-held.new.seat.me c.args.held c.drain.new.self c.append-held.result (Drain c.args.number (Some told.0))
    c.requires.ready told.1 refl refl c.append-held.ensures.turn c.append-held.ensures.same c.append-held.ensures.added

pub returns-in-Err-copy-clause-err : goal.returns-in-Err-copy-clause-err
returns-in-Err-copy-clause-err c =
    let told = subst (λ o. MatchOption o ((c.drain.new.self ≡ c.args.held) × IsDrained c.args.number c.args.held)
    (λ copy. (out : Out) × (c.drain.new.self ≡ longer c.args.held (Drain c.args.number (Some out))) × IfOk copy (λ d. d ≡ out))) c.in-Ok-Some.field-0-is c.in-Ok-Some.ensures.ok in
    (told.0 ∷ [], search rules)
