use Rattle.std.proofs.Common.{rules, ap, ◌∙◌}
use Rattle.room_run.proofs.StepLemmas.{gives_turn}
use Rattle.room_run.proofs.running.RunningRoom.give.Goals as goal

pub swap-requires : goal.swap-requires
swap-requires c =
    let has = c.requires.turn in
    let view = ap (λ m. m.0) c.exchange.ensures.3 in
    (search rules, search rules, gives_turn _ _ _ c.exchange.new.seat.me c.args.held (ap (λ v. v.turn) view ∙ has.0) (search rules) (ap (λ v. v.seen) view ∙ has.2) (ap (λ v. v.opening) view ∙ has.3))
