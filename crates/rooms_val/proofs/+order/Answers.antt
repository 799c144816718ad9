use Rattle.std.proofs.Common.{◌+◌, slice_get, sym, ap, ◌∙◌, arith}
use Rattle.std.specs.Ordering.{nat_cmp, ordering_then}
use Rattle.rooms_val.specs.Data.{items_of, members_of}
use Rattle.rooms_val.specs.Maps.{order}
use Rattle.rooms_val.specs.Order.{data_cmp, items_cmp, members_cmp}
use Rattle.rooms_val.specs.Shared.{shared_items}
use Rattle.rooms_val.specs.View.{data_of, items_view, pairs_view}
use Rattle.rooms_val.proofs.OrderLemmas.{decided, no_items_before, no_members_before, items_left, items_more, items_longer, items_shorter, members_left, members_more, members_longer, members_shorter}
use Rattle.rooms_val.proofs.+order.Goals as goal

pub vals::Vals::compare-returns-in_default-at : goal.vals::Vals::compare-returns-in_default-at
vals::Vals::compare-returns-in_default-at t c =
    let none = c.in_default-at.ensures ∙ ap (slice_get c.args.other.now) c.items.invariant.place in
    sym (c.items.invariant.left ∙ items_longer c.deref-item-items.result.now c.args.other.now c.items.item-index c.item-item.result c.items-test.true c.item-item.is none)

pub vals::Vals::compare-returns-in_default-compare : goal.vals::Vals::compare-returns-in_default-compare
vals::Vals::compare-returns-in_default-compare t c =
    let there = c.in-Some-at.ensures ∙ ap (slice_get c.args.other.now) c.items.invariant.place in
    let more = items_more c.deref-item-items.result.now c.args.other.now c.items.item-index c.item-item.result (data_of c.in-Some-at.theirs.now) c.items-test.true c.item-item.is there in
    c.compare.ensures ∙ sym (c.items.invariant.left ∙ more ∙ decided _ _ (λ is. c.in_default-compare.not-Equal (c.compare.ensures ∙ is)))

pub vals::Vals::compare-items-preserved : goal.vals::Vals::compare-items-preserved
vals::Vals::compare-items-preserved t c =
    let there = c.in-Some-at.ensures ∙ ap (slice_get c.args.other.now) c.items.invariant.place in
    let more = items_more c.deref-item-items.result.now c.args.other.now c.items.item-index c.item-item.result (data_of c.in-Some-at.theirs.now) c.items-test.true c.item-item.is there in
    record {
      place = ap (λ n. n + 1) c.items.invariant.place;
      left = c.items.invariant.left ∙ more ∙ ap (λ o. ordering_then o (items_left c.deref-item-items.result.now c.args.other.now (c.items.item-index + 1))) (sym c.compare.ensures ∙ c.in-Equal.is);
    }

pub vals::Vals::compare-returns-then-place-len : goal.vals::Vals::compare-returns-then-place-len
vals::Vals::compare-returns-then-place-len t c =
    sym (c.items.invariant.left ∙ items_shorter c.deref-item-items.result.now c.args.other.now c.items.item-index c.items-test.false (omega (arith, c.items.invariant.place, c.if-place-len.true, c.len-2.ensures.count)))

pub fields::Fields::compare-returns-in_default-at : goal.fields::Fields::compare-returns-in_default-at
fields::Fields::compare-returns-in_default-at t c =
    let none = c.in_default-at.ensures ∙ ap (slice_get c.args.other.now) c.fields.invariant.place in
    sym (c.fields.invariant.left ∙ members_longer c.deref-key-items.result.now c.args.other.now c.fields.key-index c.fields-item.result c.fields-test.true c.fields-item.is none)

pub fields::Fields::compare-returns-in_default-cmp : goal.fields::Fields::compare-returns-in_default-cmp
fields::Fields::compare-returns-in_default-cmp t c =
    let there = c.in-Some-at.ensures ∙ ap (slice_get c.args.other.now) c.fields.invariant.place in
    let more = members_more c.deref-key-items.result.now c.args.other.now c.fields.key-index c.fields-item.result (c.in-Some-at.their_key.now, data_of c.in-Some-at.theirs.now) c.fields-test.true c.fields-item.is there in
    let keys = c.cmp-in-fields.ensures ∙ (λ i. order (c.as_str.ensures.bytes i) (c.as_str-in-fields.ensures.bytes i)) in
    keys ∙ sym (c.fields.invariant.left ∙ more ∙ decided _ _ (λ is. c.in_default-cmp.not-Equal (keys ∙ is)))

pub fields::Fields::compare-returns-in_default-compare : goal.fields::Fields::compare-returns-in_default-compare
fields::Fields::compare-returns-in_default-compare t c =
    let there = c.in-Some-at.ensures ∙ ap (slice_get c.args.other.now) c.fields.invariant.place in
    let more = members_more c.deref-key-items.result.now c.args.other.now c.fields.key-index c.fields-item.result (c.in-Some-at.their_key.now, data_of c.in-Some-at.theirs.now) c.fields-test.true c.fields-item.is there in
    let keys = c.cmp-in-fields.ensures ∙ (λ i. order (c.as_str.ensures.bytes i) (c.as_str-in-fields.ensures.bytes i)) in
    let left = members_left c.deref-key-items.result.now c.args.other.now (c.fields.key-index + 1) in
    let vals = data_cmp (data_of c.fields-item.result.1) (data_of c.in-Some-at.theirs.now) in
    let one_key = more ∙ ap (λ o. ordering_then o (ordering_then vals left)) (sym keys ∙ c.in-Equal.is) in
    c.compare.ensures ∙ sym (c.fields.invariant.left ∙ one_key ∙ decided vals left (λ is. c.in_default-compare.not-Equal (c.compare.ensures ∙ is)))

pub fields::Fields::compare-fields-preserved : goal.fields::Fields::compare-fields-preserved
fields::Fields::compare-fields-preserved t c =
    let there = c.in-Some-at.ensures ∙ ap (slice_get c.args.other.now) c.fields.invariant.place in
    let more = members_more c.deref-key-items.result.now c.args.other.now c.fields.key-index c.fields-item.result (c.in-Some-at.their_key.now, data_of c.in-Some-at.theirs.now) c.fields-test.true c.fields-item.is there in
    let keys = c.cmp-in-fields.ensures ∙ (λ i. order (c.as_str.ensures.bytes i) (c.as_str-in-fields.ensures.bytes i)) in
    let left = members_left c.deref-key-items.result.now c.args.other.now (c.fields.key-index + 1) in
    let vals = data_cmp (data_of c.fields-item.result.1) (data_of c.in-Some-at.theirs.now) in
    let one_key = more ∙ ap (λ o. ordering_then o (ordering_then vals left)) (sym keys ∙ c.in-Equal.is) in
    record {
      place = ap (λ n. n + 1) c.fields.invariant.place;
      left = c.fields.invariant.left ∙ one_key ∙ ap (λ o. ordering_then o left) (sym c.compare.ensures ∙ c.in-Equal-compare.is);
    }

pub fields::Fields::compare-returns-then-place-len : goal.fields::Fields::compare-returns-then-place-len
fields::Fields::compare-returns-then-place-len t c =
    sym (c.fields.invariant.left ∙ members_shorter c.deref-key-items.result.now c.args.other.now c.fields.key-index c.fields-test.false (omega (arith, c.fields.invariant.place, c.if-place-len.true, c.len-2.ensures.count)))

pub vals::Vals::compare-returns-in_default : goal.vals::Vals::compare-returns-in_default
vals::Vals::compare-returns-in_default t c =
    let none = sym c.self.view_is ∙ ap (λ o. items_view (shared_items o)) c.in_default.is in
    c.cmp.ensures ∙ ap (nat_cmp 0) c.len.ensures.count ∙ no_items_before c.args.other.now ∙ ap (λ ds. items_cmp (items_of ds) (items_of c.args.other.now)) (sym none)

pub fields::Fields::compare-returns-in_default : goal.fields::Fields::compare-returns-in_default
fields::Fields::compare-returns-in_default t c =
    let none = sym c.self.view_is ∙ ap (λ o. pairs_view (shared_items o)) c.in_default.is in
    c.cmp.ensures ∙ ap (nat_cmp 0) c.len.ensures.count ∙ no_members_before c.args.other.now ∙ ap (λ ps. members_cmp (members_of ps) (members_of c.args.other.now)) (sym none)
