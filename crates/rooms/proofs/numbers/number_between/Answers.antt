use Rattle.std.proofs.Common.{◌≡◌, true, sym, ap, ◌∙◌}
use Rattle.rooms.specs.Numbers.{is_decimal}
use Rattle.rooms.proofs.NumberLemmas.{too_great}
use Rattle.rooms.proofs.numbers.number_between.Goals as goal

pub returns-in-Err-clause-number : goal.returns-in-Err-clause-number
returns-in-Err-clause-number c =
    let is : is_decimal c.args.word.now ≡ true = ap is_decimal (sym c.as_bytes.ensures.value) ∙ sym c.is_decimal.ensures ∙ c.if-not-is_decimal.false in
    too_great c.args.least c.args.most c.args.word.now is c.ranges.most.fits c.in-Err.ensures.value.0
