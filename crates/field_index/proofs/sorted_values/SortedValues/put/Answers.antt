use Rattle.std.proofs.Common.{◌≡◌, Option, Some, true, false, cond, ap, sym, subst, ◌∙◌}
use Rattle.rooms_val.specs.Maps.{value_at, with_key}
use Rattle.rooms_val.specs.View.{data_of, pairs_view}
use Rattle.rooms_val.specs.declared.val.Val.{Val}
use Rattle.rooms_val.proofs.MapsLemmas.{seen-with_key}
use Rattle.field_index.specs.declared.place.Place.{Place}
use Rattle.field_index.specs.Places.{place_at, place_order, is_among, is_place_of, ArePlaces}
use Rattle.field_index.proofs.TreeLemmas.{lookup_is, insert_is}
use Rattle.field_index.proofs.PlacesLemmas.{was_there, was_absent, val_from_data, put_same, put_other, put_back}
use Rattle.field_index.proofs.sorted_values.SortedValues.put.Goals as goal

pub returns-then-not-branch-clause-ok : goal.returns-then-not-branch-clause-ok
returns-then-not-branch-clause-ok c =
    let es = c.self.inside.by_id.entries in
    let ks = c.self.inside.by_value.keys in
    let there : is_among ks (place_at c.args.value.now c.args.id.now) ≡ true = ap (is_among ks) (sym c.in_ok-place.ensures) ∙ was_there (is_among ks c.in_ok-place.place) c.in_ok-insert.field-0 c.in_ok-insert.ensures.added c.if-not-branch.true in
    ap pairs_view (sym (put_same es ks c.self.invariant c.args.id.now c.args.value.now there))
    ∙ seen-with_key data_of es c.args.id.now c.args.value.now
    ∙ ap (λ m. with_key m c.args.id.now (data_of c.args.value.now)) c.self.view_is

pub invariant_of-self-in-Ok : goal.invariant_of-self-in-Ok
invariant_of-self-in-Ok c =
    let es = c.self.inside.by_id.entries in
    let ks = c.self.inside.by_value.keys in
    let new = c.take_place.new.places.keys in
    let id = c.args.id.now in
    let v = c.args.value.now in
    let added = c.insert.new.self.keys in
    let adds : (p : Place) → is_among added p ≡ cond (is_place_of (Some v) id p) true (is_among ks p) = subst (λ (pl : Place). (p : Place) → is_among added p ≡ cond (is_place_of (Some pl.value) pl.id p) true (is_among ks p)) c.in_ok-place.ensures c.in_ok-insert.ensures.updates.0 in
    let absent : is_among ks (place_at v id) ≡ false = ap (is_among ks) (sym c.in_ok-place.ensures) ∙ was_absent (is_among ks c.in_ok-place.place) c.in_ok-insert.field-0 c.in_ok-insert.ensures.added c.if-not-branch.false in
    let was : c.in-Ok.old ≡ value_at es id = c.in-Ok.ensures.old ∙ lookup_is es c.in_ok-key.key ∙ ap (value_at es) c.in_ok-key.ensures in
    let removes : (p : Place) → is_among new p ≡ cond (is_place_of (value_at es id) id p) false (is_among added p) = λ p. c.take_place.ensures.rest p ∙ (λ i. cond (is_place_of (was i) (c.in_ok-gone.ensures i) p) false (is_among added p)) in
    let entries : c.insert-2.new.self.entries ≡ with_key es id v = c.in-Ok.ensures.entries ∙ insert_is es c.in_ok-key.key c.in_ok-copy.copy ∙ (λ i. with_key es (c.in_ok-key.ensures i) (val_from_data c.in_ok-copy.copy v c.in_ok-copy.ensures i)) in
    subst (λ fs. ArePlaces fs new) (sym entries)
    (put_other es ks c.self.invariant id v absent added adds new (c.take_place.ensures.ordered c.in_ok-insert.ensures.ordered) removes)

pub invariant_of-self-in-Err : goal.invariant_of-self-in-Err
invariant_of-self-in-Err c =
    let es = c.self.inside.by_id.entries in
    let ks = c.self.inside.by_value.keys in
    let new = c.take_refused.new.places.keys in
    let id = c.args.id.now in
    let v = c.args.value.now in
    let added = c.insert.new.self.keys in
    let adds : (p : Place) → is_among added p ≡ cond (is_place_of (Some v) id p) true (is_among ks p) = subst (λ (pl : Place). (p : Place) → is_among added p ≡ cond (is_place_of (Some pl.value) pl.id p) true (is_among ks p)) c.in_ok-place.ensures c.in_ok-insert.ensures.updates.0 in
    let absent : is_among ks (place_at v id) ≡ false = ap (is_among ks) (sym c.in_ok-place.ensures) ∙ was_absent (is_among ks c.in_ok-place.place) c.in_ok-insert.field-0 c.in_ok-insert.ensures.added c.if-not-branch.false in
    let copied = ap (λ e. e.1) c.in-Err.ensures.value_returned ∙ val_from_data c.in_ok-copy.copy v c.in_ok-copy.ensures in
    let key = ap (λ e. e.0) c.in-Err.ensures.value_returned ∙ c.in_ok-key.ensures in
    let removes : (p : Place) → is_among new p ≡ cond (is_place_of (Some v) id p) false (is_among added p) = λ p. c.take_refused.ensures.rest p ∙ (λ i. cond (is_place_of (Some (copied i)) (key i) p) false (is_among added p)) in
    subst (λ fs. ArePlaces fs new) (sym c.in-Err.ensures.err)
    (put_back es ks c.self.invariant id v absent added adds new (c.take_refused.ensures.ordered c.in_ok-insert.ensures.ordered) removes)

pub returns-in-Ok-clause-ok : goal.returns-in-Ok-clause-ok
returns-in-Ok-clause-ok c =
    let es = c.self.inside.by_id.entries in
    let copied = val_from_data c.in_ok-copy.copy c.args.value.now c.in_ok-copy.ensures in
    ap pairs_view (c.in-Ok.ensures.entries ∙ insert_is es c.in_ok-key.key c.in_ok-copy.copy)
    ∙ seen-with_key data_of es c.in_ok-key.key c.in_ok-copy.copy
    ∙ (λ i. with_key (c.self.view_is i) (c.in_ok-key.ensures i) (c.in_ok-copy.ensures i))
