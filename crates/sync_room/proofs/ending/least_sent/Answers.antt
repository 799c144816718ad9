use Rattle.std.proofs.Common.{w64, ◌≡◌, ℕ, ℤ, pos, ◌-ℤ◌, int_lt, true, false, sym, ap, subst, ◌∙◌, arith, rules}
use Rattle.std.proofs.lemmas.Int.{to_z-of_z, ints}
use mir.Val.{SFits, to_z, of_z}
use Rattle.sync_room.proofs.SlowLemmas.{start_least, told_least}
use Rattle.sync_room.proofs.ending.least_sent.Goals as goal

pub returns-then-start-told : goal.returns-then-start-told
returns-then-start-told c = λ n s k is now.
    let start = to_z-of_z w64 c.args.start c.ranges.start in
    let clock = to_z-of_z w64 c.args.clock c.ranges.clock in
    let range = c.ranges.clock in
    let low = c.requires in
    let fits : SFits w64 (c.args.clock -ℤ pos 32) = search rules in
    let test = rw (start, clock, to_z-of_z w64 (c.args.clock -ℤ pos 32) fits) at c.if-start-told.true in
    start_least n s k (c.args.clock -ℤ pos 32) (ap (λ z. z -ℤ pos 32) now) (subst (λ z. int_lt z (c.args.clock -ℤ pos 32) ≡ true) is test)
    ∙ ap (int_lt (pos n)) (sym (start ∙ is))

pub returns : goal.returns
returns c = λ n s k is now.
    let start = to_z-of_z w64 c.args.start c.ranges.start in
    let clock = to_z-of_z w64 c.args.clock c.ranges.clock in
    let range = c.ranges.clock in
    let low = c.requires in
    let fits : SFits w64 (c.args.clock -ℤ pos 32) = search rules in
    let test = rw (start, clock, to_z-of_z w64 (c.args.clock -ℤ pos 32) fits) at c.if-start-told.false in
    let told = ap (λ z. to_z w64 (of_z w64 (z -ℤ pos 32))) clock ∙ to_z-of_z w64 (c.args.clock -ℤ pos 32) fits in
    told_least n s k (c.args.clock -ℤ pos 32) (ap (λ z. z -ℤ pos 32) now) (subst (λ z. int_lt z (c.args.clock -ℤ pos 32) ≡ false) is test)
    ∙ ap (int_lt (pos n)) (sym told)
