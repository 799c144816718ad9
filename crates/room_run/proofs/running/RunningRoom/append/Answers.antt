use Rattle.atomic_table.specs.Table.{rest}
use Rattle.std.proofs.Common.{rules, Some, ◌≡◌, ◌+◌, ◌<◌, ◌^◌, List, [], ◌∷◌, ◌++◌, length, length-append, ap, sym, subst, ◌∙◌, arith}
use Rattle.room_events.specs.declared.room_event.RoomEvent.{RoomEvent}
use Rattle.room_run.proofs.StepLemmas.{appends, grown_by}
use Rattle.room_run.specs.Steps.{pen_in, grown}
use Rattle.room_run.specs.Turn.{IsOwn}
use Rattle.room_run.proofs.running.RunningRoom.append.Goals as goal

pub fetch_add-requires : goal.fetch_add-requires
fetch_add-requires c =
    let before = c.requires.turn.0 in
    let event = c.requires.turn.1 in
    let has = c.requires.turn.2 in
    let longer = c.requires.turn.3 in
    let seat = c.exchange.new.seat in
    let view : seat.me.0 ≡ c.args.seat.now.me.0 = ap (λ m. m.0) c.exchange.ensures.3 in
    let seen : seat.me.0.seen ≡ before.pen = ap (λ v. v.seen) view ∙ has.2 in
    let pen : c.args.held.pen ≡ seat.me.0.seen ++ event ∷ [] = ap (λ s. s.pen) longer ∙ ap (λ l. l ++ event ∷ []) (sym seen) in
    let counted : c.len-events.result ≡ length seat.me.0.seen + 1 = c.len-events.ensures ∙ (ap length pen ∙ length-append seat.me.0.seen (event ∷ [])) in
    let range : c.len-events.result < 2 ^ 64 = search rules in
    let fits : length seat.me.0.seen + 1 < 2 ^ 64 = omega (arith, counted, range) in (
      search rules,
      search rules,
      appends _ _ _ seat.me event c.args.held (ap (λ v. v.turn) view ∙ has.0) (search rules) pen (search rules) fits,
    )

pub exchange-requires-2 : goal.exchange-requires-2
exchange-requires-2 c =
    let put = ap (λ m. m.1) c.fetch_add.ensures.2 ∙ ap (λ m. m.1) c.exchange.ensures.3 in
    let whole = Some c.args.held in
    (search rules, (whole, put ∙ ap (λ l. (0, whole) ∷ rest l) (sym put)))

pub returns-clause-added : goal.returns-clause-added
returns-clause-added c = λ event longer.
    let put = c.exchange.ensures.3 in
    let grew : c.fetch_add.new.seat.me.0 ≡ grown c.args.seat.now.me.0 c.args.held.pen =
    ap (λ m. m.0) c.fetch_add.ensures.2 ∙ ap (λ m. grown m.0 (pen_in m.1)) put in
    grown_by c.args.seat.now.me.0 _ c.args.held.pen event (ap (λ m. m.0) c.exchange-2.ensures.3 ∙ grew) longer
