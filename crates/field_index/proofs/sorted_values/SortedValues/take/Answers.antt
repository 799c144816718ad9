use Rattle.std.proofs.Common.{◌≡◌, Option, false, cond, ap, sym, subst, ◌∙◌}
use Rattle.rooms_val.specs.Maps.{value_at, without_key}
use Rattle.rooms_val.specs.View.{data_of, pairs_view}
use Rattle.rooms_val.specs.declared.val.Val.{Val}
use Rattle.rooms_val.proofs.MapsLemmas.{seen-without_key}
use Rattle.field_index.specs.declared.place.Place.{Place}
use Rattle.field_index.specs.Places.{is_among, is_place_of, ArePlaces}
use Rattle.field_index.proofs.TreeLemmas.{lookup_is, remove_is}
use Rattle.field_index.proofs.PlacesLemmas.{taken}
use Rattle.field_index.proofs.sorted_values.SortedValues.take.Goals as goal

pub invariant_of-self : goal.invariant_of-self
invariant_of-self c =
    let es = c.self.inside.by_id.entries in
    let ks = c.self.inside.by_value.keys in
    let new = c.take_place.new.places.keys in
    let id = c.in_ok-id.id in
    let was : c.remove-old.result ≡ value_at es id = c.remove-old.ensures.value ∙ lookup_is es id in
    let removes = subst (λ (o : Option Val). (p : Place) → is_among new p ≡ cond (is_place_of o id p) false (is_among ks p)) was c.take_place.ensures.rest in
    subst (λ fs. ArePlaces fs new) (sym (c.remove-old.ensures.entries ∙ remove_is es id c.self.invariant.rising))
    (taken es ks c.self.invariant id new (c.take_place.ensures.ordered c.self.invariant.ordered) removes)

pub returns-clause-ok : goal.returns-clause-ok
returns-clause-ok c =
    let es = c.self.inside.by_id.entries in
    ap pairs_view (c.remove-old.ensures.entries ∙ remove_is es c.in_ok-id.id c.self.invariant.rising)
    ∙ seen-without_key data_of es c.in_ok-id.id
    ∙ (λ i. without_key (c.self.view_is i) (c.in_ok-id.ensures i))
