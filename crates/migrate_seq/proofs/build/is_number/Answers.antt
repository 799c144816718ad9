use Rattle.std.proofs.Common.{◌∙◌, sym, ap, ◌<◌, ◌+◌, ◌*◌, ◌-◌, get_or, arith}
use Rattle.std.specs.Prelude.{nat_eq}
use Rattle.migrate_seq.proofs.BuildLemmas.{too_great}
use Rattle.migrate_seq.proofs.build.is_number.Goals as goal

pub returns-in_default : goal.returns-in_default
returns-in_default c =
    let a = c.in_default.ensures in
    let great : c.args.number < 10 * c.loop-digit.value + (get_or c.args.digits.now c.loop-digit.digit-index 0 - 48) = omega arith in
    too_great c.args.digits.now c.loop-digit.digit-index c.loop-digit.value c.args.number (omega arith) great ∙ ap (λ n. nat_eq n c.args.number) (sym c.loop-digit.invariant)

pub returns-in_default-checked_add : goal.returns-in_default-checked_add
returns-in_default-checked_add c =
    let a = c.in_default-checked_add.ensures in let b = c.in-Some.ensures in let d = c.from-units.ensures in let e = c.saturating_sub.ensures in
    let great : c.args.number < 10 * c.loop-digit.value + (get_or c.args.digits.now c.loop-digit.digit-index 0 - 48) = omega arith in
    too_great c.args.digits.now c.loop-digit.digit-index c.loop-digit.value c.args.number (omega arith) great ∙ ap (λ n. nat_eq n c.args.number) (sym c.loop-digit.invariant)
