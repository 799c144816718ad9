use Rattle.std.proofs.Common.{◌≡◌, Ok, arith}
use Rattle.std.proofs.lemmas.Fmt.{parse-decimal}
use Rattle.wire_text.proofs.piece.count_of.Goals.{else-count-le-MOST_TO_COME-via-then-count-le-MOST_TO_COME+else-is_decimal, else-count-le-MOST_TO_COME-via-else-count-le-MOST_TO_COME}
use Rattle.wire_text.proofs.piece.count_of.Goals as goal

pub returns-in_default : goal.returns-in_default
returns-in_default c = λ n is.
    let read : c.parse.result ≡ Ok n = parse-decimal 32 n c.args.digits.now c.parse.result (omega (arith, is.0)) (omega (arith, is.0)) is.1 c.parse.ensures.value.0 in
    absurd (grind (arith, read, c.in_default.is))

pub returns-else-count-le-MOST_TO_COME : goal.returns-else-count-le-MOST_TO_COME
returns-else-count-le-MOST_TO_COME c = λ n is.
    let read : c.parse.result ≡ Ok n = parse-decimal 32 n c.args.digits.now c.parse.result (omega (arith, is.0)) (omega (arith, is.0)) is.1 c.parse.ensures.value.0 in
    let same : c.in-Ok.count ≡ n = grind (arith, read, c.in-Ok.is) in
    elim c.else-count-le-MOST_TO_COME.branch [
      | else-count-le-MOST_TO_COME-via-then-count-le-MOST_TO_COME+else-is_decimal w ↦ absurd (grind (arith, same, is.1, w.is_decimal.ensures, w.if-is_decimal.false))
      | else-count-le-MOST_TO_COME-via-else-count-le-MOST_TO_COME w ↦ absurd (grind (arith, same, is.0, w.if-count-le-MOST_TO_COME.false))
    ]
