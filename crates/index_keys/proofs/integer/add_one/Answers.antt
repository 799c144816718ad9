use Rattle.std.proofs.Common.{◌+◌, arith}
use Rattle.std.proofs.lemmas.Bool.Decides.{nat_tests}
use Rattle.index_keys.specs.Between.{is_greatest}
use Rattle.index_keys.proofs.CarryLemmas.{carrying-begins, carrying-goes_on, carrying-ends}
use Rattle.index_keys.proofs.integer.add_one.Goals as goal

pub loop-i-init : goal.loop-i-init
loop-i-init c = carrying-begins is_greatest 0 (λ digit. digit + 1) c.args.digits.now

pub returns-then-digits-i-lt-GREATEST : goal.returns-then-digits-i-lt-GREATEST
returns-then-digits-i-lt-GREATEST c =
    carrying-ends is_greatest 0 (λ digit. digit + 1) c.args.digits.now c.loop-i.digits c.loop-i.i _
    (omega arith) c.loop-i.invariant (grind (arith, nat_tests))

pub loop-i-preserved : goal.loop-i-preserved
loop-i-preserved c =
    carrying-goes_on is_greatest 0 (λ digit. digit + 1) c.args.digits.now c.loop-i.digits c.loop-i.i _
    (omega arith) c.loop-i.invariant (grind (arith, nat_tests))
