use Rattle.std.proofs.Common.{◌∙◌, sym, ap, ◌++◌, [], ◌∷◌, ◌<◌, ◌+◌, ◌-◌, append_assoc, arith}
use Rattle.migrate_seq.specs.declared.place.Place.{Place}
use Rattle.migrate_seq.specs.Plans.{places_from}
use Rattle.migrate_seq.proofs.PlanLemmas.{places_from-less}
use Rattle.migrate_seq.proofs.plan.push_places.Goals as goal

pub loop-migration-preserved : goal.loop-migration-preserved
loop-migration-preserved c =
    let now = c.loop-migration.migration in
    let here : now < c.args.end = omega arith in
    let place : Place = record { sequence = c.args.sequence; migration = now } in
    c.loop-migration.invariant
    ∙ ap (λ ps. c.loop-migration.places.items ++ ps) (places_from-less c.args.sequence now c.args.end here)
    ∙ sym (append_assoc c.loop-migration.places.items (place ∷ []) (places_from c.args.sequence (now + 1) (c.args.end - (now + 1))))
    ∙ ap (λ ps. ps ++ places_from c.args.sequence (now + 1) (c.args.end - (now + 1))) (sym c.in_ok-push.ensures.items)
