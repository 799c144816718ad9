use Rattle.std.proofs.Common.{◌≡◌, ◌-◌, ◌∷◌, [], ◌++◌, take, ap, sym, ◌∙◌, arith}
use Rattle.rooms_val.specs.Maps.{without_key}
use Rattle.client_replica.specs.Stashes.{without_all}
use Rattle.client_replica.proofs.StashLemmas.{forgotten_last, take_next}
use Rattle.client_replica.proofs.stash.Stash.forget.Goals as goal

pub ids-preserved : goal.ids-preserved
ids-preserved c =
    let ids = c.args.ids.now in
    let n = c.ids.left - 1 in
    let x = c.index-ids-left.result in
    let front : take c.ids.left ids ≡ take n ids ++ x ∷ [] = take_next ids n c.ids.left x (omega arith) (omega arith) c.index-ids-left.is in
    record {
      gone = ap (λ s. without_all s (take n ids)) (c.remove.ensures ∙ ap (without_key c.ids.self) c.as_str.ensures.bytes) ∙ sym (forgotten_last c.ids.self (take n ids) x) ∙ sym (ap (without_all c.ids.self) front) ∙ c.ids.invariant.gone;
      within = omega arith;
    }
