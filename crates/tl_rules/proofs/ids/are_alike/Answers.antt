use Rattle.std.proofs.Common.{◌∙◌, refl, sym, arith}
use Rattle.tl_rules.specs.Ids.{flat}
use Rattle.tl_rules.proofs.PartLemmas.{same_from_gets}
use Rattle.tl_rules.proofs.ids.are_alike.Goals as goal

pub returns : goal.returns
returns c = (
  λ e. same_from_gets (flat c.args.left.now) (flat c.args.right.now) (sym c.requires.left ∙ c.requires.right) (λ k within. c.places.invariant k (omega (arith, c.requires.left))),
  λ e. refl,
)
