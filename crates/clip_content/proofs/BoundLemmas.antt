-- The bindings at what is pasted.
use Rattle.std.proofs.Common.{◌≡◌, ℕ, ◌<◌, Bool, true, false, ◌&&◌, ◌||◌, List, [], ◌∷◌, length, map, refl, sym, ap, ◌∙◌}
use Rattle.std.specs.Prelude.{filter, is_some, bytes_eq, codes}
use Rattle.std.proofs.lemmas.Map.Text.{is_eq-slice_cmp}
use Rattle.rooms_val.specs.Data.{Data, Pairs, text}
use Rattle.rooms_val.specs.Kinds.{as_map}
use Rattle.rooms_val.specs.Maps.{ties}
use Rattle.shape_tree.specs.Records.{is_binding}
use Rattle.side_effects.specs.Records.{from_of, to_of, has}
use Rattle.rooms_val.proofs.Truths.{and_left, and_right}
use Rattle.shape_tree.specs.Trees.{bound}
use Rattle.room_model.specs.Clips.{ClipTree, TargetTree, is_prefix}
use Rattle.clip_content.specs.Copied.{is_within}
use Rattle.clip_content.specs.Pasted.{new_shape, new_binding, with_field, pasted_binding, pasted_bindings}
use Rattle.clip_content.proofs.FieldLemmas.{IsMap, map_kept, text_set, text_kept, no_field}
use Rattle.clip_content.proofs.IdLemmas.{new_binding_id}
use Rattle.clip_content.proofs.ChildLemmas.{new_ties, filter_map}
use Rattle.clip_content.proofs.TopLemmas.{Each, each-weaker}

same_ties : (a b c d : List ℕ) → ties a b ≡ ties c d → bytes_eq a b ≡ bytes_eq c d
same_ties a b c d same = sym (is_eq-slice_cmp a b) ∙ same ∙ is_eq-slice_cmp c d

module _ (clip : ClipTree) (target : TargetTree) (few : length clip.shapes < 10000) (prefix : is_prefix target.prefix ≡ true) (none : has clip.shapes [] ≡ false) (id : List ℕ) (there : has clip.shapes id ≡ true) where
  abbrev as_bound : List ℕ × Data → List ℕ × Data
  as_bound e = (new_binding clip target e.0, pasted_binding clip target e)

  abbrev has_end : List ℕ → Data → Bool
  has_end q d = bytes_eq (from_of d) q || bytes_eq (to_of d) q

  -- a binding between copied shapes is a map
  bound_map : (d : Data) → has clip.shapes (from_of d) ≡ true → IsMap d
  bound_map d is = elim (is_some (as_map d)) as (λ b. is_some (as_map d) ≡ b → b ≡ true) [
    | true ↦ λ _. refl
    | false ↦ λ isnt. sym none ∙ ap (has clip.shapes) (sym (no_field d (codes "fromId") isnt)) ∙ is
  ] refl

  end_by : (e : List ℕ × Data) → is_within clip.shapes e.1 ≡ true → has_end (new_shape clip target id) (pasted_binding clip target e) ≡ has_end id e.1
  end_by e within =
      let from_there = and_left (has clip.shapes (from_of e.1)) (has clip.shapes (to_of e.1)) within in
      let to_there = and_right (has clip.shapes (from_of e.1)) (has clip.shapes (to_of e.1)) within in
      let named = with_field (codes "id") (text (new_binding clip target e.0)) e.1 in
      let begun = with_field (codes "fromId") (text (new_shape clip target (from_of e.1))) named in
      let named_map : IsMap named = map_kept (codes "id") (text (new_binding clip target e.0)) e.1 ∙ bound_map e.1 from_there in
      let begun_map : IsMap begun = map_kept (codes "fromId") (text (new_shape clip target (from_of e.1))) named ∙ named_map in
      let from_is : from_of (pasted_binding clip target e) ≡ new_shape clip target (from_of e.1) =
      text_kept (codes "toId") (text (new_shape clip target (to_of e.1))) begun (codes "fromId") refl ∙ text_set (codes "fromId") (new_shape clip target (from_of e.1)) named named_map in
      let to_is : to_of (pasted_binding clip target e) ≡ new_shape clip target (to_of e.1) = text_set (codes "toId") (new_shape clip target (to_of e.1)) begun begun_map in
      let from_same : bytes_eq (from_of (pasted_binding clip target e)) (new_shape clip target id) ≡ bytes_eq (from_of e.1) id =
      ap (λ q. bytes_eq q (new_shape clip target id)) from_is ∙ same_ties (new_shape clip target (from_of e.1)) (new_shape clip target id) (from_of e.1) id (new_ties clip target few prefix [] (from_of e.1) id from_there there) in
      let to_same : bytes_eq (to_of (pasted_binding clip target e)) (new_shape clip target id) ≡ bytes_eq (to_of e.1) id =
      ap (λ q. bytes_eq q (new_shape clip target id)) to_is ∙ same_ties (new_shape clip target (to_of e.1)) (new_shape clip target id) (to_of e.1) id (new_ties clip target few prefix [] (to_of e.1) id to_there there) in
      λ i. from_same i || to_same i

  bound_by : (e : List ℕ × Data) → (is_binding e.0 && is_within clip.shapes e.1) ≡ true
      → (is_binding (new_binding clip target e.0) && has_end (new_shape clip target id) (pasted_binding clip target e)) ≡ (is_binding e.0 && has_end id e.1)
  bound_by e is =
      ap (λ b. b && has_end (new_shape clip target id) (pasted_binding clip target e)) (new_binding_id target.prefix clip.bindings e.0 prefix)
      ∙ end_by e (and_right (is_binding e.0) (is_within clip.shapes e.1) is)
      ∙ sym (ap (λ b. b && has_end id e.1) (and_left (is_binding e.0) (is_within clip.shapes e.1) is))

  ids_bound : (es : Pairs) → map (λ e. e.0) (map as_bound es) ≡ map (new_binding clip target) (map (λ e. e.0) es)
  ids_bound [] = refl
  ids_bound (e ∷ es) = ap (λ ids. new_binding clip target e.0 ∷ ids) (ids_bound es)

  -- the added bindings at a pasted shape
  pub bound_in_clip : Each (λ e. (is_binding e.0 && is_within clip.shapes e.1) ≡ true) clip.bindings
      → bound (pasted_bindings clip target) (new_shape clip target id) ≡ map (new_binding clip target) (bound clip.bindings id)
  bound_in_clip all =
      ap (map (λ (e : List ℕ × Data). e.0)) (filter_map as_bound (λ e. is_binding e.0 && has_end (new_shape clip target id) e.1) (λ e. is_binding e.0 && has_end id e.1) clip.bindings (each-weaker _ _ bound_by clip.bindings all))
      ∙ ids_bound (filter (λ e. is_binding e.0 && has_end id e.1) clip.bindings)
