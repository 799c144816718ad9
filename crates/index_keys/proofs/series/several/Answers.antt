use Rattle.std.proofs.Common.{Option, Some, None, Bor, List, ℕ, IfOk, sym, subst, arith}
use Rattle.std.specs.Option.{option_copied}
use Rattle.index_keys.specs.Answers.{texts}
use Rattle.index_keys.specs.Order.{AreBetween}
use Rattle.index_keys.specs.Several.{rising_from, rising_to}
use Rattle.index_keys.proofs.SeriesLemmas.{IfOk-Gives, rising_from-AreBetween, rising_to-AreBetween, written-AreBetween}
use Rattle.index_keys.proofs.series.several.Goals as goal

pub returns-in_default-None-clause-between : goal.returns-in_default-None-clause-between
returns-in_default-None-clause-between c =
    subst (λ (a : Option (Bor (List ℕ))). IfOk c.rising_from.result (λ keys. AreBetween (option_copied c.args.below) (option_copied a) c.args.n (texts keys.items))) (sym c.in_default-None.is-1)
    (IfOk-Gives (λ keys. texts keys.items) c.rising_from.result (rising_from c.args.n (option_copied c.args.below)) (AreBetween (option_copied c.args.below) None c.args.n) c.rising_from.ensures (rising_from-AreBetween c.args.n (option_copied c.args.below)))

pub returns-in-None-Some-clause-between : goal.returns-in-None-Some-clause-between
returns-in-None-Some-clause-between c =
    subst (λ (b : Option (Bor (List ℕ))). IfOk c.rising_to.result (λ keys. AreBetween (option_copied b) (option_copied c.args.above) c.args.n (texts keys.items))) (sym c.in-None-Some.is-0)
    (subst (λ (a : Option (Bor (List ℕ))). IfOk c.rising_to.result (λ keys. AreBetween None (option_copied a) c.args.n (texts keys.items))) (sym c.in-None-Some.is-1)
    (IfOk-Gives (λ keys. texts keys.items) c.rising_to.result (rising_to c.args.n (Some c.in-None-Some.above.now)) (AreBetween None (Some c.in-None-Some.above.now) c.args.n) c.rising_to.ensures (rising_to-AreBetween c.args.n (Some c.in-None-Some.above.now))))

pub returns-in_ok-push_halves-in-Some-Some-clause-between : goal.returns-in_ok-push_halves-in-Some-Some-clause-between
returns-in_ok-push_halves-in-Some-Some-clause-between c =
    subst (λ (b : Option (Bor (List ℕ))). AreBetween (option_copied b) (option_copied c.args.above) c.args.n (texts c.push_halves.new.keys.items)) (sym c.in-Some-Some.is-0)
    (subst (λ (a : Option (Bor (List ℕ))). AreBetween (Some c.in-Some-Some.below.now) (option_copied a) c.args.n (texts c.push_halves.new.keys.items)) (sym c.in-Some-Some.is-1)
    (written-AreBetween (texts c.new-keys.result.items) (texts c.push_halves.new.keys.items) c.in-Some-Some.below.now c.in-Some-Some.above.now c.args.n (simp c.new-keys.ensures.items) (c.in_ok-push_halves-in-Some-Some.ensures c.args.n (omega arith))))
