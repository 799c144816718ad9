use Rattle.std.proofs.Common.{◌<◌, length, ap, sym, ◌∙◌, arith}
use Rattle.std.proofs.lemmas.List.{get_or_default}
use Rattle.migrate_seq.specs.Order.{is_free}
use Rattle.migrate_seq.specs.Plans.{follows}
use Rattle.migrate_seq.proofs.OrderLemmas.{picked_at, picked_none}
use Rattle.migrate_seq.proofs.order.first_free.Goals as goal

pub returns-then-is_free-clause-picked : goal.returns-then-is_free-clause-picked
returns-then-is_free-clause-picked c d =
    let free = is_free (follows c.args.sequences.now) c.args.left.now in
    let within : c.loop-index.index < length c.args.left.now = omega arith in
    let same = get_or_default c.args.left.now c.loop-index.index d _ within in
    picked_at free c.args.left.now c.loop-index.index d within c.loop-index.invariant (ap free same ∙ sym c.is_free.ensures ∙ c.if-is_free.true)

pub returns-clause-picked : goal.returns-clause-picked
returns-clause-picked c _ =
    picked_none (is_free (follows c.args.sequences.now) c.args.left.now) c.args.left.now (λ k d low. c.loop-index.invariant k d (omega arith))
