-- Fields of records after one of them was set.
use Rattle.std.proofs.Common.{◌≡◌, ℕ, true, false, cond, List, [], Some, refl, sym, ap, ◌∙◌}
use Rattle.std.specs.Prelude.{is_some, unwrap_or, option_and_then, codes}
use Rattle.std.specs.Ordering.{is_eq}
use Rattle.rooms_val.specs.Data.{Data, Pairs, null, boolean, whole, text, list, map, pairs_of, members_of}
use Rattle.rooms_val.specs.Kinds.{as_map, as_text, field}
use Rattle.rooms_val.specs.Maps.{value_at, with_key, ties}
use Rattle.rooms_val.proofs.DataLemmas.{pairs_of-members_of}
use Rattle.rooms_val.proofs.MapsLemmas.{at-with_key, order_itself}
use Rattle.shape_tree.specs.Records.{text_or_empty}
use Rattle.side_effects.specs.Records.{parent_of, index_of}
use Rattle.clip_content.specs.Pasted.{with_field, with_place, moved_by}
use Rattle.std.proofs.Common.{ℤ}

abbrev pub IsMap : Data → Type 0
IsMap d = is_some (as_map d) ≡ true

no_map : {A : Type 0} → false ≡ true → A
no_map never = absurd (cc)

field_set : (key : List ℕ) (v d : Data) (q : List ℕ) → IsMap d → field (with_field key v d) q ≡ cond (ties q key) (Some v) (field d q)
field_set key v (map ms) q is = ap (λ ps. value_at ps q) (pairs_of-members_of (with_key (pairs_of ms) key v)) ∙ at-with_key (pairs_of ms) key q v
field_set key v null q is = no_map is
field_set key v (boolean b) q is = no_map is
field_set key v (whole z) q is = no_map is
field_set key v (text t) q is = no_map is
field_set key v (list ds) q is = no_map is

field_kept : (key : List ℕ) (v d : Data) (q : List ℕ) → ties q key ≡ false → field (with_field key v d) q ≡ field d q
field_kept key v (map ms) q apart =
    ap (λ ps. value_at ps q) (pairs_of-members_of (with_key (pairs_of ms) key v)) ∙ at-with_key (pairs_of ms) key q v
    ∙ ap (λ b. cond b (Some v) (value_at (pairs_of ms) q)) apart
field_kept key v null q apart = refl
field_kept key v (boolean b) q apart = refl
field_kept key v (whole z) q apart = refl
field_kept key v (text t) q apart = refl
field_kept key v (list ds) q apart = refl

pub map_kept : (key : List ℕ) (v d : Data) → is_some (as_map (with_field key v d)) ≡ is_some (as_map d)
map_kept key v (map ms) = refl
map_kept key v null = refl
map_kept key v (boolean b) = refl
map_kept key v (whole z) = refl
map_kept key v (text t) = refl
map_kept key v (list ds) = refl

pub text_set : (key t : List ℕ) (d : Data) → IsMap d → text_or_empty (with_field key (text t) d) key ≡ t
text_set key t d is =
    ap (λ o. unwrap_or (option_and_then as_text o) []) (field_set key (text t) d key is ∙ ap (λ o. cond (is_eq o) (Some (text t)) (field d key)) (order_itself key))

pub text_kept : (key : List ℕ) (v d : Data) (q : List ℕ) → ties q key ≡ false → text_or_empty (with_field key v d) q ≡ text_or_empty d q
text_kept key v d q apart = ap (λ o. unwrap_or (option_and_then as_text o) []) (field_kept key v d q apart)

-- what is no map has no fields
pub no_field : (d : Data) (key : List ℕ) → is_some (as_map d) ≡ false → text_or_empty d key ≡ []
no_field (map ms) key isnt = no_map (sym isnt)
no_field null key isnt = refl
no_field (boolean b) key isnt = refl
no_field (whole z) key isnt = refl
no_field (text t) key isnt = refl
no_field (list ds) key isnt = refl

module _ (id parent : List ℕ) (d : Data) where
  pub placed_map : is_some (as_map (with_place id parent d)) ≡ is_some (as_map d)
  placed_map = map_kept (codes "parentId") (text parent) (with_field (codes "id") (text id) d) ∙ map_kept (codes "id") (text id) d

  pub placed_parent : IsMap d → parent_of (with_place id parent d) ≡ parent
  placed_parent is = text_set (codes "parentId") parent (with_field (codes "id") (text id) d) (map_kept (codes "id") (text id) d ∙ is)

  pub placed_index : index_of (with_place id parent d) ≡ index_of d
  placed_index = text_kept (codes "parentId") (text parent) (with_field (codes "id") (text id) d) (codes "index") refl ∙ text_kept (codes "id") (text id) d (codes "index") refl

pub moved_map : (dx dy : ℤ) (d : Data) → is_some (as_map (moved_by dx dy d)) ≡ is_some (as_map d)
moved_map dx dy d = map_kept (codes "y") _ (with_field (codes "x") _ d) ∙ map_kept (codes "x") _ d

-- a map whose field was set, from its fields
pub field_in : (fields new : Pairs) (d v : Data) (key k : List ℕ) → map (members_of fields) ≡ d → k ≡ key → new ≡ with_key fields k v → map (members_of new) ≡ with_field key v d
field_in fields new d v key k is same done =
    ap (λ ps. map (members_of ps)) (done ∙ ap (λ q. with_key fields q v) same)
    ∙ ap (λ ps. map (members_of (with_key ps key v))) (sym (pairs_of-members_of fields))
    ∙ ap (λ x. with_field key v x) is
