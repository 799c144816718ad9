use Rattle.std.proofs.Common.{◌∙◌, sym, ap, get_or, arith}
use Rattle.std.specs.Ordering.{is_lt, nat_cmp}
use Rattle.std.specs.Cmp.Lexicographic.{slice_cmp}
use Rattle.migrate_seq.proofs.BuildLemmas.{inserted_at, inserted_last}
use Rattle.migrate_seq.proofs.build.place_for.Goals as goal

pub returns-then-lt-clause-place : goal.returns-then-lt-clause-place
returns-then-lt-clause-place c s is =
    let list = c.args.sorted.now in
    let x = c.index-sorted-place.result in
    let id = is ∙ sym c.as_str.ensures.bytes in
    let other = sym c.as_str-in-loop-place.ensures.bytes in
    inserted_at s list c.loop-place.place x (omega arith) (λ k e less. ap (λ i. is_lt (slice_cmp nat_cmp i (get_or list k e).id)) is ∙ c.loop-place.invariant k e less)
    ((λ i. is_lt (slice_cmp nat_cmp (id i) (other i))) ∙ sym c.lt.ensures ∙ c.if-lt.true)

pub returns-clause-place : goal.returns-clause-place
returns-clause-place c s is =
    inserted_last s c.args.sorted.now (λ k e less. ap (λ i. is_lt (slice_cmp nat_cmp i (get_or c.args.sorted.now k e).id)) is ∙ c.loop-place.invariant k e (omega arith))
