use Rattle.std.proofs.Common.{rules, Some, ◌∷◌, ap, sym, ◌∙◌}
use Rattle.atomic_table.specs.Table.{rest}
use Rattle.room_run.proofs.StepLemmas.{takes_turn}
use Rattle.room_run.specs.Rule.{story}
use Rattle.room_run.proofs.running.RunningRoom.take.Goals as goal

pub compare_exchange-requires : goal.compare_exchange-requires
compare_exchange-requires g c = (search rules, search rules, takes_turn _ _ _ _ (ap (λ m. m.1) c.loop.invariant.1 ∙ c.requires.idle))

pub exchange-requires : goal.exchange-requires
exchange-requires g c =
    let opening = c.args.self.now.table.shared.key in
    let taken = c.compare_exchange.ensures.2.0 c.if-compare_exchange-eq0.true in
    let slot = taken.slot opening (ap (λ m. m.0.opening) c.loop.invariant.1 ∙ c.requires.ours) in
    let whole = Some (story opening c.compare_exchange.new.seat.me.0.seen) in
    (search rules, (whole, slot ∙ ap (λ l. (0, whole) ∷ rest l) (sym slot)))
