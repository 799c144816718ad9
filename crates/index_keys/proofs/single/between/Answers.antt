use Rattle.std.proofs.Common.{◌≡◌, ◌<◌, true, All, List, ℕ, Result, Some, Ok, IfOk, string_bytes, subst, sym, arith}
use Rattle.std.proofs.lemmas.Grind.{common_steps}
use Rattle.std.specs.Option.{option_copied, option_map}
use Rattle.index_keys.specs.Between.{between, is_key_or_none, is_less_or_open, values_between}
use Rattle.index_keys.specs.Digits.{values_of}
use Rattle.index_keys.specs.Order.{IsBetween}
use Rattle.index_keys.specs.declared.fault.BetweenFault.{BetweenFault}
use Rattle.index_keys.proofs.RelationLemmas.{between-IsBetween, given-digits}
use Rattle.index_keys.proofs.single.between.Goals as goal

pub text_of-requires : goal.text_of-requires
text_of-requires c =
    let below_tested : is_key_or_none (option_copied c.args.below) ≡ true = grind arith in
    let above_tested : is_key_or_none (option_copied c.args.above) ≡ true = grind arith in
    let order : is_less_or_open (option_copied c.args.below) (option_copied c.args.above) ≡ true = grind arith in
    let given : values_between (option_map values_of (option_copied c.args.below)) (option_map values_of (option_copied c.args.above)) ≡ Some c.in-Some.values.items = grind (arith, c.in_ok-values.ensures) in
    subst (λ (vs : List ℕ). All (λ v. v < 62) vs) (sym c.deref.ensures.value) (given-digits (option_copied c.args.below) (option_copied c.args.above) below_tested above_tested order c.in-Some.values.items given)

pub returns-clause-between : goal.returns-clause-between
unfolding between
returns-clause-between c =
    let is : between (option_copied c.args.below) (option_copied c.args.above) ≡ Ok (string_bytes c.in_ok-text_of.field-0) = grind (arith, common_steps) in
    subst (λ (r : Result (List ℕ) BetweenFault). IfOk r (IsBetween (option_copied c.args.below) (option_copied c.args.above))) is (between-IsBetween (option_copied c.args.below) (option_copied c.args.above))
