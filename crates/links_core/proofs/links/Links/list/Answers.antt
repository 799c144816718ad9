use Rattle.std.proofs.Common.{ℕ, List, ◌++◌, [], ◌∷◌, length, ap, ◌∙◌, arith}
use Rattle.std.proofs.lemmas.List.{length-map}
use Rattle.links_core.proofs.ChangeLemmas.{settled, list_made}
use Rattle.links_core.proofs.links.Links.list.Goals as goal

pub invariant_of-self-2 : goal.invariant_of-self-2
invariant_of-self-2 c = rw c.in_ok-push.ensures.items (settled _ _ _ (list_made _ _ _ c.self.invariant)).0

pub returns-clause-ok : goal.returns-clause-ok
returns-clause-ok c =
    let seen = ap (λ s. s.lists) c.self.view_is in
    (omega (arith, ap length seen, length-map {B = List ℕ} c.self.inside.ends.items), rw c.in_ok-push.ensures.items ((settled _ _ _ (list_made _ _ _ c.self.invariant)).1 ∙ ap (λ ls. ls ++ [] ∷ []) seen))
