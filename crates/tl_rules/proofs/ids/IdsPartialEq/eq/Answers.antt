use Rattle.std.proofs.Common.{◌≡◌, ℕ, List, subst}
use Rattle.std.specs.Bool.{Decides}
use Rattle.std.specs.Cmp.Lexicographic.{pointwise_decides, bytes_decides}
use Rattle.std.proofs.lemmas.Bool.Decides.{same_from_decides}
use Rattle.tl_rules.specs.Ids.{flat, ids_eq}
use Rattle.tl_rules.proofs.ids.IdsPartialEq.eq.Goals as goal

pub returns-then-self-other : goal.returns-then-self-other
returns-then-self-other c =
    same_from_decides c.are_alike.result (ids_eq c.args.self.now c.args.other.now)
    (subst (λ (xs : List (List ℕ)). Decides c.are_alike.result (xs ≡ c.args.other.now)) c.parts.ensures
    (subst (λ (ys : List (List ℕ)). Decides c.are_alike.result (flat c.parts.result.now ≡ ys)) c.parts-then-self-other.ensures c.are_alike.ensures))
    (pointwise_decides bytes_decides c.args.self.now c.args.other.now)
