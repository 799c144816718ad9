use Rattle.std.proofs.Common.{◌-◌, arith}
use Rattle.std.proofs.lemmas.Bool.Decides.{nat_tests}
use Rattle.index_keys.specs.Between.{is_least}
use Rattle.index_keys.proofs.CarryLemmas.{carrying-begins, carrying-goes_on, carrying-ends}
use Rattle.index_keys.proofs.integer.subtract_one.Goals as goal

pub loop-i-init : goal.loop-i-init
loop-i-init c = carrying-begins is_least 61 (λ digit. digit - 1) c.args.digits.now

pub returns-then-digits-i-gt0 : goal.returns-then-digits-i-gt0
returns-then-digits-i-gt0 c =
    carrying-ends is_least 61 (λ digit. digit - 1) c.args.digits.now c.loop-i.digits c.loop-i.i _
    (omega arith) c.loop-i.invariant (grind (arith, nat_tests))

pub loop-i-preserved : goal.loop-i-preserved
loop-i-preserved c =
    carrying-goes_on is_least 61 (λ digit. digit - 1) c.args.digits.now c.loop-i.digits c.loop-i.i _
    (omega arith) c.loop-i.invariant (grind (arith, nat_tests))
