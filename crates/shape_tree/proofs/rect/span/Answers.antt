use Rattle.std.proofs.Common.{◌≡◌, ◌+ℤ◌, arith}
use Rattle.std.specs.Int.{int_min, int_max}
use Rattle.std.proofs.lemmas.Int.{ints, clamps}
use Rattle.shape_tree.proofs.rect.span.Goals as goal

pub overflow_sub-result : goal.overflow_sub-result
overflow_sub-result c =
    let start : c.min-start.result ≡ int_min c.args.a c.args.b = omega (arith, ints, clamps, c.min-start.ensures.value) in
    let end : c.max-end.result ≡ int_max (c.args.a +ℤ c.args.a_size) (c.args.b +ℤ c.args.b_size) = omega (arith, ints, clamps, c.max-end.ensures.value) in
    omega (arith, ints, clamps, start, end)

pub returns-clause-size : goal.returns-clause-size
returns-clause-size c =
    let start : c.min-start.result ≡ int_min c.args.a c.args.b = omega (arith, ints, clamps, c.min-start.ensures.value) in
    let end : c.max-end.result ≡ int_max (c.args.a +ℤ c.args.a_size) (c.args.b +ℤ c.args.b_size) = omega (arith, ints, clamps, c.max-end.ensures.value) in
    omega (arith, ints, clamps, start, end)
