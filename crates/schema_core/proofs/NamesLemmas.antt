-- The types of some rows by their names, and the first name that stood before.
use Rattle.std.proofs.Common.{◌≡◌, ℕ, suc, ◌<◌, Bool, true, false, ◌||◌, cond, List, [], ◌∷◌, ◌++◌, length, get_or, drop, fold, Option, Some, option_map, is_some, is_eq, refl, sym, ap, ◌∙◌, add-one}
use Rattle.std.specs.Ordering.{eq_by_cmp}
use Rattle.std.specs.Str.{bytes_eq}
use Rattle.std.specs.FinMap.Entries.{find, find-put}
use Rattle.std.proofs.lemmas.Cmp.{nat_list_cmp_total}
use Rattle.std.proofs.lemmas.List.{map-append, length_push}
use Rattle.std.proofs.lemmas.List.Sums.{fold-append}
use Rattle.std.proofs.lemmas.Map.Text.{is_eq-slice_cmp}
use Rattle.std.proofs.Math.Seq.{drop-cons}
use Rattle.rooms_val.specs.Maps.{order, with_key, keys_of}
use Rattle.rooms_val.proofs.PlacesLemmas.{find_at_place, find_in_gap}
use Rattle.rooms_val.specs.Places.{IsPlace, IsGap}
use Rattle.record_valid.specs.Parts.{is_listed}
use Rattle.rooms_val.proofs.MapsLemmas.{at-seen, is_eq-reverse}
use Rattle.schema_core.specs.Tree.{TypeTree, Types}
use Rattle.schema_core.specs.View.{type_tree, types_view, row_tree, rows_view}
use Rattle.schema_core.specs.Builds.{doubled_after, by_name}
use Rattle.schema_core.specs.declared.row.RecordType.{RecordType}
use Rattle.schema_core.specs.declared.row.TypeRow.{TypeRow}

tied : (x y : List ℕ) → eq_by_cmp order x y ≡ bytes_eq y x
tied x y = ap is_eq (nat_list_cmp_total.antisymm x y) ∙ is_eq-reverse (order y x) ∙ is_eq-slice_cmp y x

abbrev with_row : Types → List ℕ × TypeTree → Types
with_row types r = with_key types r.0 r.1

known_later : (a b : Bool) (v : TypeTree) (o : Option TypeTree) → (b || is_some (cond a (Some v) o)) ≡ ((a || b) || is_some o)
known_later true true v o = refl
known_later true false v o = refl
known_later false b v o = refl

known_from : (rows types : Types) (name : List ℕ) → is_some (find order name (fold with_row types rows)) ≡ (is_listed (keys_of rows) name || is_some (find order name types))
known_from [] types name = refl
known_from (r ∷ rows) types name =
    known_from rows (with_row types r) name
    ∙ ap (λ o. is_listed (keys_of rows) name || is_some o) (find-put order nat_list_cmp_total name r.0 r.1 types ∙ ap (λ b. cond b (Some r.1) (find order name types)) (tied name r.0))
    ∙ known_later (bytes_eq r.0 name) (is_listed (keys_of rows) name) r.1 (find order name types)

nothing_more : (b : Bool) → (b || false) ≡ b
nothing_more true = refl
nothing_more false = refl

abbrev pub names : List TypeRow → List (List ℕ)
names rows = keys_of (rows_view rows)

-- a type is found by its name exactly where a row so far has the name
known : (rows : List TypeRow) (name : List ℕ) → is_some (find order name (by_name (rows_view rows))) ≡ is_listed (names rows) name
known rows name = known_from (rows_view rows) [] name ∙ nothing_more _

names-push : (rows : List TypeRow) (r : TypeRow) → names (rows ++ r ∷ []) ≡ names rows ++ r.name ∷ []
names-push [] r = refl
names-push (x ∷ rows) r = ap (λ ns. x.name ∷ ns) (names-push rows r)

pub by_name-push : (rows : List TypeRow) (r : TypeRow) → by_name (rows_view (rows ++ r ∷ [])) ≡ with_key (by_name (rows_view rows)) r.name (row_tree r).1
by_name-push rows r = ap by_name (map-append row_tree rows (r ∷ [])) ∙ fold-append with_row [] (rows_view rows) (row_tree r ∷ [])

-- what is found among the entries of the rows so far
module _ (es : List (List ℕ × RecordType)) (rows : List TypeRow) (so_far : types_view es ≡ by_name (rows_view rows)) (name : List ℕ) (p : ℕ) where
  listed : is_listed (names rows) name ≡ is_some (find order name (types_view es))
  listed = sym (known rows name) ∙ ap (λ ts. is_some (find order name ts)) (sym so_far)

  pub listed_at_place : RecordType → IsPlace es name p → is_listed (names rows) name ≡ true
  listed_at_place d at = listed ∙ ap is_some (at-seen type_tree es name ∙ ap (λ o. option_map type_tree o) (find_at_place es name p (name, d) at))

  pub listed_in_gap : IsGap es name p → is_listed (names rows) name ≡ false
  listed_in_gap at = listed ∙ ap is_some (at-seen type_tree es name ∙ ap (λ o. option_map type_tree o) (find_in_gap es name p at))

module _ (all rows : List TypeRow) (r : TypeRow) (within : length rows < length all) (is : r ≡ get_or all (length rows) r) where
  left : names (drop (length rows) all) ≡ r.name ∷ names (drop (suc (length rows)) all)
  left = ap names (drop-cons all (length rows) r within) ∙ ap (λ x. x.name ∷ names (drop (suc (length rows)) all)) (sym is)

  -- a row whose name stood before
  pub doubled_here : is_listed (names rows) r.name ≡ true → doubled_after (names rows) (names (drop (length rows) all)) ≡ Some r.name
  doubled_here found = ap (doubled_after (names rows)) left ∙ ap (λ b. cond b (Some r.name) (doubled_after (names rows ++ r.name ∷ []) (names (drop (suc (length rows)) all)))) found

  -- a row whose name didn't
  pub doubled_later : is_listed (names rows) r.name ≡ false
      → doubled_after (names rows) (names (drop (length rows) all)) ≡ doubled_after (names (rows ++ r ∷ [])) (names (drop (length (rows ++ r ∷ [])) all))
  doubled_later none =
      ap (doubled_after (names rows)) left
      ∙ ap (λ b. cond b (Some r.name) (doubled_after (names rows ++ r.name ∷ []) (names (drop (suc (length rows)) all)))) none
      ∙ (λ i. doubled_after (sym (names-push rows r) i) (names (drop (sym (length_push rows r ∙ add-one (length rows)) i) all)))
