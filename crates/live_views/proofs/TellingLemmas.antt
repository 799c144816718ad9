-- How answers are told: what is told of the plain answer is what the view tells, and answers of one kind that are told alike are the same.
use Rattle.std.proofs.Common.{◌≡◌, ℕ, ◌≤◌, List, [], ◌∷◌, ℤ, pos, min, map, length, take, codes, Option, Some, None, refl, sym, ap, subst, ◌∙◌, arith}
use Rattle.std.specs.Prelude as std
use Rattle.std.specs.Option.{option_and_then, unwrap_or}
use Rattle.std.proofs.lemmas.List.{length-take}
use Rattle.rooms_val.specs.Data.{Data, Pairs, null, whole, text, list, items_of, list_of, no_items}
use Rattle.rooms_val.specs.Kinds.{as_whole, as_text, as_items, field}
use Rattle.rooms_val.proofs.DataLemmas.{list_of-items_of}
use Rattle.shape_tree.specs.Trees.{tree, count, most_shapes, descendants, most_levels}
use Rattle.shape_tree.specs.Views.{told, box_data, ids_data}
use Rattle.shape_tree.specs.declared.rect.Rect.{Rect}
use Rattle.shape_tree.specs.declared.view.View.{View}
use Rattle.shape_tree.specs.declared.view.View.TheVariants as view
use Rattle.tl_rules.specs.declared.key.TlKey.{TlKey}
use Rattle.tl_rules.specs.declared.value.TlValue.{TlValue}
use Rattle.tl_rules.specs.declared.value.TlValue.TheVariants as value
use Rattle.record_store.specs.Plain.{plain}
use Rattle.live_views.specs.Telling.{key_of, told_of, Answers}

least_of : (a b : ℕ) → min a b ≤ a
least_of a b = omega arith

few_of : (n : ℕ) (xs : List (List ℕ)) → length (take n xs) ≤ n
few_of n xs = subst (λ k. k ≤ n) (sym (length-take n xs)) (least_of n (length xs))

few : (m : Pairs) (page : List ℕ) → count m page ≤ most_shapes
few m page = few_of most_shapes (descendants most_levels m page)

pub answers : (m : Pairs) (v : View) → Answers v (plain m (key_of v))
answers m (view.Box id) = (_, refl)
answers m (view.Tree page) = (_, refl)
answers m (view.Bound id) = (_, refl)
answers m (view.Count page) = (count m page, refl, few m page)

within_least : (n k : ℕ) → n ≤ k → min n k ≡ n
within_least n k within = omega (arith, within)

least : (n : ℕ) → n ≤ most_shapes → min n most_shapes ≡ n
least n within = within_least n most_shapes within

pub told_is : (m : Pairs) (v : View) → told_of (plain m (key_of v)) ≡ told m v
told_is m (view.Box id) = refl
told_is m (view.Tree page) = refl
told_is m (view.Bound id) = refl
told_is m (view.Count page) = ap (λ n. whole (pos n)) (least (count m page) (few m page))

-- a value by which the plain answer is told is what the view tells
pub told_so : (m : Pairs) (v : View) (d : Data) (answer : TlValue) (k : TlKey) → d ≡ told_of answer → answer ≡ plain m k → k ≡ key_of v → d ≡ told m v
told_so m v d answer k is plainly asked = is ∙ ap told_of plainly ∙ ap (λ key. told_of (plain m key)) asked ∙ told_is m v

-- the number under a key
abbrev number_at : List ℕ → Data → ℤ
number_at key d = unwrap_or (option_and_then as_whole (field d key)) (pos 0)

same_rect : (a b : Rect) → box_data (Some a) ≡ box_data (Some b) → a ≡ b
same_rect a b is i = record {
  x = number_at (codes "x") (is i);
  y = number_at (codes "y") (is i);
  w = number_at (codes "w") (is i);
  h = number_at (codes "h") (is i);
}

same_box : (a b : Option Rect) → box_data a ≡ box_data b → a ≡ b
same_box None None is = refl
same_box None (Some b) is = cc
same_box (Some a) None is = cc
same_box (Some a) (Some b) is = ap Some (same_rect a b is)

-- the texts of a list
abbrev texts : List Data → List (List ℕ)
texts ds = map (λ d. unwrap_or (as_text d) []) ds

texts-text : (ids : List (List ℕ)) → texts (std.map text ids) ≡ ids
texts-text [] = refl
texts-text (id ∷ ids) = ap (λ rest. id ∷ rest) (texts-text ids)

abbrev ids_in : Data → List (List ℕ)
ids_in d = texts (list_of (unwrap_or (as_items d) no_items))

ids_in-data : (ids : List (List ℕ)) → ids_in (ids_data ids) ≡ ids
ids_in-data ids = ap texts (list_of-items_of (std.map text ids)) ∙ texts-text ids

same_ids : (a b : List (List ℕ)) → ids_data a ≡ ids_data b → a ≡ b
same_ids a b is = sym (ids_in-data a) ∙ ap ids_in is ∙ ids_in-data b

abbrev absolute : ℤ → ℕ
absolute (pos n) = n
absolute z = 0

same_count : (a b : ℕ) → a ≤ most_shapes → b ≤ most_shapes → whole (pos (min a most_shapes)) ≡ whole (pos (min b most_shapes)) → a ≡ b
same_count a b few more is = sym (least a few) ∙ ap (λ d. absolute (unwrap_or (as_whole d) (pos 0))) is ∙ least b more

-- answers of one kind that are told alike are the same
pub same_answer : (v : View) (a b : TlValue) → Answers v a → Answers v b → told_of a ≡ told_of b → a ≡ b
same_answer (view.Box id) a b one two is =
    one.1 ∙ ap value.Rect (same_box one.0 two.0 (sym (ap told_of one.1) ∙ is ∙ ap told_of two.1)) ∙ sym two.1
same_answer (view.Tree page) a b one two is =
    one.1 ∙ ap value.Ids (same_ids one.0 two.0 (sym (ap told_of one.1) ∙ is ∙ ap told_of two.1)) ∙ sym two.1
same_answer (view.Bound id) a b one two is =
    one.1 ∙ ap value.Ids (same_ids one.0 two.0 (sym (ap told_of one.1) ∙ is ∙ ap told_of two.1)) ∙ sym two.1
same_answer (view.Count page) a b one two is =
    one.1 ∙ ap value.Number (same_count one.0 two.0 one.2 two.2 (sym (ap told_of one.1) ∙ is ∙ ap told_of two.1)) ∙ sym two.1
