use Rattle.std.proofs.Common.{◌≡◌, ℕ, List, [], ◌∷◌, ◌||◌, true, cond, ap, sym, subst, ◌∙◌, ℤ, to_z, of_z, w64}
use Rattle.std.specs.Prelude.{filter}
use Rattle.std.proofs.Common.{rules, ◌+ℤ◌, pos, FitsSigned}
use Rattle.std.specs.Int.{saturate_signed}
use Rattle.std.specs.BTreeMap.Range.{range_contains}
use Rattle.std.specs.declared.ops.Bound.TheVariants.{Included, Excluded}
use Rattle.rooms_val.specs.declared.val.Val.TheVariants as v
use Rattle.field_index.specs.Places.{place_at, place_order}
use Rattle.std.proofs.lemmas.Int.{to_z-of_z}
use Rattle.rooms_val.specs.Maps.{ties}
use Rattle.rooms_val.specs.View.{data_of}
use Rattle.field_index.specs.declared.place.Place.{Place}
use Rattle.field_index.specs.Index.{is_greater, ids_greater}
use Rattle.field_index.proofs.AnswerLemmas.{has, ids_at, answer_is}
use Rattle.field_index.proofs.GreaterLemmas.{is_ranged, ids_in_range, next_reached, or_false, adds_one, adds_none}
use Rattle.field_index.proofs.sorted_values.SortedValues.greater.Goals as goal

-- the number, as the loop keeps it
unfoldable kept : ℤ → ℤ
kept number = to_z w64 (of_z w64 number)

pub places-init : goal.places-init
unfolding kept
places-init c = record {
  ordered = c.new-ids.ensures.ordered;
  so_far = λ q. ap (λ ids. has ids q || has (ids_at (is_greater (kept c.args.number)) c.into_iter-place-iterator.result) q) c.new-ids.ensures.empty;
}

pub places-preserved-then-is_greater : goal.places-preserved-then-is_greater
unfolding kept
places-preserved-then-is_greater c = record {
  ordered = c.in_ok-insert.ensures.ordered;
  so_far = λ q.
      let adds = c.in_ok-insert.ensures.updates.0 q ∙ ap (λ id. cond (ties id q) true (has c.places.ids.keys q)) c.in_ok-copy.ensures in
      adds_one (is_greater (kept c.args.number)) c.in-Some.place.now c.next.new.self q c.places.ids.keys c.insert.new.self.keys (sym c.is_greater.ensures ∙ c.if-is_greater.true) adds
      ∙ ap (λ ps. has c.places.ids.keys q || has (ids_at (is_greater (kept c.args.number)) ps) q) (sym c.in-Some.ensures.steps)
      ∙ c.places.invariant.so_far q;
}

pub places-preserved : goal.places-preserved
unfolding kept
places-preserved c = record {
  ordered = c.places.invariant.ordered;
  so_far = λ q.
      adds_none (is_greater (kept c.args.number)) c.in-Some.place.now c.next.new.self q c.places.ids.keys (sym c.is_greater.ensures ∙ c.if-is_greater.false)
      ∙ ap (λ ps. has c.places.ids.keys q || has (ids_at (is_greater (kept c.args.number)) ps) q) (sym c.in-Some.ensures.steps)
      ∙ c.places.invariant.so_far q;
}

pub returns : goal.returns
unfolding kept
returns c =
    let n = c.args.number in
    let ks = c.self.inside.by_value.keys in
    let found = c.places.ids.keys in
    let least = c.saturating_add.result in
    let next : least ≡ saturate_signed w64 (n +ℤ pos 1) = c.saturating_add.ensures ∙ ap (λ z. saturate_signed w64 (z +ℤ pos 1)) (to_z-of_z w64 n c.ranges.number) in
    let reached = λ (z : ℤ). next_reached n least z next c.ranges.number in
    let items : c.in_ok-collect.field-0.items ≡ found = search rules in
    let fits : FitsSigned w64 least = search rules in
    let first : c.in_ok-first.first ≡ place_at (v.Int least) [] = c.in_ok-first.ensures ∙ ap (λ z. place_at (v.Int z) []) (to_z-of_z w64 least fits) in
    let end : c.in_ok-end.end ≡ place_at (v.Text []) [] = c.in_ok-end.ensures ∙ ap (λ t. place_at (v.Text t) []) c.in_ok-of.ensures in
    let all : c.into_iter-place-iterator.result ≡ filter (is_ranged n least reached) ks =
    c.into_iter-place-iterator.ensures.into_iter_gives ∙ c.range-place-items.ensures.between tt ∙ (λ i. filter (range_contains place_order (Included (first i)) (Excluded (end i))) ks) in
    let same = λ (q : List ℕ).
    sym (or_false (has found q))
    ∙ ap (λ ps. has found q || has (ids_at (is_greater (kept n)) ps) q) (sym c.in-None.ensures.steps.0)
    ∙ c.places.invariant.so_far q
    ∙ (λ i. has (ids_at (is_greater (to_z-of_z w64 n c.ranges.number i)) (all i)) q)
    ∙ ap (λ ids. has ids q) (ids_in_range n least reached ks) in
    items ∙ answer_is (is_greater n) c.self.inside.by_id.entries ks c.self.invariant found c.places.invariant.ordered same ∙ ap (ids_greater n) c.self.view_is
