use Rattle.std.proofs.Common.{sym, ap, ◌∙◌, arith}
use Rattle.std.proofs.lemmas.List.{at_drop_all}
use Rattle.rooms_val.specs.Data.{items_of, members_of}
use Rattle.rooms_val.specs.Shared.{shared_items}
use Rattle.rooms_val.specs.View.{items_view, pairs_view}
use Rattle.rooms_val.specs.Weight.{items_weight, members_weight}
use Rattle.rooms_val.proofs.+weight.Goals as goal

pub vals::Vals::weight-returns : goal.vals::Vals::weight-returns
vals::Vals::weight-returns t c =
    let none = at_drop_all (λ vs. items_weight (items_of (items_view vs))) c.deref-item-items.result.now c.loop-item.item-index c.loop-item-test.false in
    let slice = c.deref-item-items.ensures.value ∙ ap (λ v. v.items) c.deref.ensures ∙ sym (ap shared_items c.in-Some.is) in
    let seen = ap (λ vs. items_weight (items_of (items_view vs))) slice ∙ ap (λ ds. items_weight (items_of ds)) c.self.view_is in
    let sum = c.loop-item.invariant.1 in
    rw (← seen) (omega (arith, none, sum))

pub fields::Fields::weight-returns : goal.fields::Fields::weight-returns
fields::Fields::weight-returns t c =
    let none = at_drop_all (λ es. members_weight (members_of (pairs_view es))) c.deref-key-items.result.now c.loop-key.key-index c.loop-key-test.false in
    let slice = c.deref-key-items.ensures.value ∙ ap (λ v. v.items) c.deref.ensures ∙ sym (ap shared_items c.in-Some.is) in
    let seen = ap (λ es. members_weight (members_of (pairs_view es))) slice ∙ ap (λ ps. members_weight (members_of ps)) c.self.view_is in
    let sum = c.loop-key.invariant.1 in
    rw (← seen) (omega (arith, none, sum))
