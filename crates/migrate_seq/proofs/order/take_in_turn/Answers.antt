use Rattle.std.proofs.Common.{◌≡◌, suc, ◌∙◌, sym, ap, ◌++◌, ◌<◌, length, append-nil, arith}
use Rattle.migrate_seq.specs.Order.{taken_and_left}
use Rattle.migrate_seq.specs.Plans.{follows}
use Rattle.migrate_seq.proofs.OrderLemmas.{taken_more, length-picked, taken-none}
use Rattle.migrate_seq.proofs.order.take_in_turn.Goals as goal

pub places-smaller : goal.places-smaller
places-smaller c =
    let one : length c.places.left.items ≡ suc (length c.take_free.new.left.items) = length-picked _ _ _ (sym c.in-Some.ensures.picked) in
    let less : length c.take_free.new.left.items < length c.places.left.items = omega arith in less

pub places-preserved : goal.places-preserved
places-preserved c =
    let rest = taken_and_left (follows c.args.sequences.now) (length c.take_free.new.left.items) c.take_free.new.left.items in
    c.places.invariant ∙ taken_more (follows c.args.sequences.now) c.places.taken.items c.places.left.items c.take_free.new.left.items c.in-Some.place c.in-Some.ensures.picked
    ∙ ap (λ l. (l ++ rest.0, rest.1)) (sym c.in_ok-push.ensures.items)

pub returns-clause-taken : goal.returns-clause-taken
returns-clause-taken c =
    let done = taken-none (follows c.args.sequences.now) (length c.places.left.items) c.places.left.items (sym c.in_default.ensures.picked) in
    sym (append-nil c.places.taken.items) ∙ sym (ap (λ r. r.0) (c.places.invariant ∙ ap (λ r. (c.places.taken.items ++ r.0, r.1)) done))

pub returns-clause-left : goal.returns-clause-left
returns-clause-left c =
    let done = taken-none (follows c.args.sequences.now) (length c.places.left.items) c.places.left.items (sym c.in_default.ensures.picked) in
    c.in_default.ensures.none ∙ sym (ap (λ r. r.1) (c.places.invariant ∙ ap (λ r. (c.places.taken.items ++ r.0, r.1)) done))
