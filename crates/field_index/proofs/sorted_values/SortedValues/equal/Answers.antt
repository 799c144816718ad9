use Rattle.std.proofs.Common.{◌≡◌, List, [], ◌∷◌, ◌++◌, map, refl, sym, ap, subst, ◌∙◌}
use Rattle.std.specs.Prelude.{filter}
use Rattle.std.proofs.lemmas.List.{append-nil}
use Rattle.rooms_val.specs.View.{data_of}
use Rattle.field_index.specs.declared.place.Place.{Place}
use Rattle.field_index.specs.Index.{ids_equal}
use Rattle.field_index.proofs.PlacesLemmas.{was_there, was_absent}
use Rattle.field_index.proofs.EqualLemmas.{is_one, is_from, EndsOnce, ends_once, equal_is, ranged, one_more, no_more}
use Rattle.field_index.proofs.sorted_values.SortedValues.equal.Goals as goal

pub places-init : goal.places-init
places-init c =
    let v = c.args.value.now in
    let ks = c.self.inside.by_value.keys in
    let all : c.into_iter-place-iterator.result ≡ filter (is_from v) ks = c.into_iter-place-iterator.ensures.into_iter_gives ∙ c.range-place-items.ensures.between tt ∙ ranged v ks c.in_ok-first.first c.in_ok-first.ensures in
    record {
      so_far = ap (λ ids. ids ++ map (λ q. q.id) (filter (is_one v) c.into_iter-place-iterator.result)) c.new-ids.ensures.items;
      ends = subst (EndsOnce v) (sym all) (ends_once v ks c.self.invariant.ordered);
    }

pub places-preserved : goal.places-preserved
places-preserved c =
    let v = c.args.value.now in
    let p = c.in-Some.place.now in
    let is = was_there (is_one v p) c.ne.result c.ne.ensures c.if-ne.false in
    record {
      so_far =
          ap (λ ids. ids ++ map (λ q. q.id) (filter (is_one v) c.next.new.self)) (c.in_ok-push.ensures.items ∙ ap (λ id. c.places.ids.items ++ id ∷ []) c.in_ok-copy.ensures)
          ∙ one_more v c.places.ids.items p c.next.new.self is
          ∙ ap (λ ps. c.places.ids.items ++ map (λ q. q.id) (filter (is_one v) ps)) (sym c.in-Some.ensures.steps)
          ∙ c.places.invariant.so_far;
      ends = (subst (EndsOnce v) c.in-Some.ensures.steps c.places.invariant.ends).1;
    }

pub returns-then-ne : goal.returns-then-ne
returns-then-ne c =
    let v = c.args.value.now in
    let ks = c.self.inside.by_value.keys in
    let p = c.in-Some.place.now in
    let other = was_absent (is_one v p) c.ne.result c.ne.ensures c.if-ne.true in
    sym (no_more v c.places.ids.items p c.next.new.self other (subst (EndsOnce v) c.in-Some.ensures.steps c.places.invariant.ends))
    ∙ ap (λ ps. c.places.ids.items ++ map (λ q. q.id) (filter (is_one v) ps)) (sym c.in-Some.ensures.steps)
    ∙ c.places.invariant.so_far
    ∙ ap (λ ps. map (λ q. q.id) (filter (is_one v) ps)) (c.into_iter-place-iterator.ensures.into_iter_gives ∙ c.range-place-items.ensures.between tt ∙ ranged v ks c.in_ok-first.first c.in_ok-first.ensures)
    ∙ equal_is v c.self.inside.by_id.entries ks c.self.invariant
    ∙ ap (ids_equal (data_of v)) c.self.view_is

pub returns : goal.returns
returns c =
    let v = c.args.value.now in
    let ks = c.self.inside.by_value.keys in
    sym (append-nil c.places.ids.items)
    ∙ ap (λ ps. c.places.ids.items ++ map (λ (q : Place). q.id) (filter (is_one v) ps)) (sym c.in-None.ensures.steps.0)
    ∙ c.places.invariant.so_far
    ∙ ap (λ ps. map (λ q. q.id) (filter (is_one v) ps)) (c.into_iter-place-iterator.ensures.into_iter_gives ∙ c.range-place-items.ensures.between tt ∙ ranged v ks c.in_ok-first.first c.in_ok-first.ensures)
    ∙ equal_is v c.self.inside.by_id.entries ks c.self.invariant
    ∙ ap (ids_equal (data_of v)) c.self.view_is
