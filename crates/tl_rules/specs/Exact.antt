-- Keys that compare as equal are the same, and so are values.
use Rattle.std.proofs.Common.{◌≡◌, ℕ, List, [], ◌∷◌, Bool, true, false, ◌&&◌, Option, Some, None, Ordering, Less, Equal, Greater, is_eq, refl, sym, ap, ◌∙◌}
use Rattle.std.specs.Prelude.{nat_eq}
use Rattle.std.specs.Cmp.{unsigned_Decides, signed_Decides}
use Rattle.std.specs.Cmp.Lexicographic.{pointwise, pointwise_decides, bytes_decides}
use Rattle.std.specs.FinMap.{nat_cmp-IsAntisymmetric, slice_cmp-IsAntisymmetric}
use Rattle.std.specs.Option.{option_eq}
use Rattle.std.specs.Ordering.{nat_cmp, int_eq, ordering_then, eq_by_cmp, on}
use Rattle.rooms_val.specs.Maps.{order}
use Rattle.rooms_val.specs.Order.{data_cmp}
use Rattle.rooms_val.specs.OrderLaws.{same_data}
use Rattle.rooms_val.specs.Data.{Data, Pairs, items_of, list_of, members_of, pairs_of}
use Rattle.rooms_val.specs.View.{data_of, val_of}
use Rattle.rooms_val.specs.declared.val.Val.{Val}
use Rattle.rooms_val.specs.declared.val.Val.TheVariants as v
use Rattle.shape_tree.specs.declared.rect.Rect.{Rect}
use Rattle.tl_rules.specs.declared.key.TlKey.{TlKey}
use Rattle.tl_rules.specs.declared.key.TlKey.TheVariants as key
use Rattle.tl_rules.specs.declared.value.TlValue.{TlValue}
use Rattle.tl_rules.specs.declared.value.TlValue.TheVariants as value
use Rattle.tl_rules.specs.contracts.key.TlKeyOrd.TheImpl as key_ord
use Rattle.tl_rules.specs.contracts.value.TlValuePartialEq.TheImpl as value_eq

-- the order of keys, and the test of two values
abbrev pub key_cmp : TlKey → TlKey → Ordering
key_cmp = (key_ord.ghosts).cmp

abbrev pub values_eq : TlValue → TlValue → Bool
values_eq = (value_eq.ghosts).eq

same_text : (a b : List ℕ) → order a b ≡ Equal → a ≡ b
same_text = slice_cmp-IsAntisymmetric nat_cmp-IsAntisymmetric

then_level : (a b : Ordering) → ordering_then a b ≡ Equal → (a ≡ Equal) × (b ≡ Equal)
then_level Less b is = cc
then_level Equal b is = (refl, is)
then_level Greater b is = cc

pub same_keys : (a b : TlKey) → key_cmp a b ≡ Equal → a ≡ b
same_keys (key.Rec a) (key.Rec b) is = ap key.Rec (same_text a b is)
same_keys (key.ByParent a) (key.ByParent b) is = ap key.ByParent (same_text a b is)
same_keys (key.BoundFrom a) (key.BoundFrom b) is = ap key.BoundFrom (same_text a b is)
same_keys (key.BoundTo a) (key.BoundTo b) is = ap key.BoundTo (same_text a b is)
same_keys (key.Bound a) (key.Bound b) is = ap key.Bound (same_text a b is)
same_keys (key.Tree a) (key.Tree b) is = ap key.Tree (same_text a b is)
same_keys (key.Count a) (key.Count b) is = ap key.Count (same_text a b is)
same_keys (key.Box a l) (key.Box b n) is =
    let parts = then_level (order a b) (nat_cmp l n) is in
    λ i. key.Box (same_text a b parts.0 i) (nat_cmp-IsAntisymmetric l n parts.1 i)
same_keys a b is = cc

both_true : (a b : Bool) → (a && b) ≡ true → (a ≡ true) × (b ≡ true)
both_true true b is = (refl, is)
both_true false b is = cc

level_from_test : (o : Ordering) → is_eq o ≡ true → o ≡ Equal
level_from_test Less is = cc
level_from_test Equal is = refl
level_from_test Greater is = cc

list_of-items_of : (ds : List Data) → list_of (items_of ds) ≡ ds
list_of-items_of [] = refl
list_of-items_of (d ∷ ds) = ap (λ rest. d ∷ rest) (list_of-items_of ds)

pairs_of-members_of : (ps : Pairs) → pairs_of (members_of ps) ≡ ps
pairs_of-members_of [] = refl
pairs_of-members_of (p ∷ ps) = ap (λ rest. p ∷ rest) (pairs_of-members_of ps)

val_of-data_of : (x : Val) → val_of (data_of x) ≡ x
val_of-data_of v.Null = refl
val_of-data_of (v.Bool b) = refl
val_of-data_of (v.Int z) = refl
val_of-data_of (v.Text s) = refl
val_of-data_of (v.List ds) = ap v.List (list_of-items_of ds)
val_of-data_of (v.Map ps) = ap v.Map (pairs_of-members_of ps)

-- values that stand for the same are the same
pub val_from_data : (a b : Val) → data_of a ≡ data_of b → a ≡ b
val_from_data a b is = sym (val_of-data_of a) ∙ ap val_of is ∙ val_of-data_of b

same_val : (a b : Val) → eq_by_cmp (on data_of data_cmp) a b ≡ true → a ≡ b
same_val a b is = val_from_data a b (same_data (data_of a) (data_of b) (level_from_test (data_cmp (data_of a) (data_of b)) is))

same_record : (a b : Option Val) → option_eq (eq_by_cmp (on data_of data_cmp)) a b ≡ true → a ≡ b
same_record None None is = refl
same_record None (Some b) is = cc
same_record (Some a) None is = cc
same_record (Some a) (Some b) is = ap Some (same_val a b is)

same_ids : (a b : List (List ℕ)) → pointwise (pointwise nat_eq) a b ≡ true → a ≡ b
same_ids a b is = (pointwise_decides bytes_decides a b).0 is

same_rect : (a b : Rect) → (int_eq a.x b.x && (int_eq a.y b.y && (int_eq a.w b.w && int_eq a.h b.h))) ≡ true → a ≡ b
same_rect a b is =
    let x = both_true (int_eq a.x b.x) (int_eq a.y b.y && (int_eq a.w b.w && int_eq a.h b.h)) is in
    let y = both_true (int_eq a.y b.y) (int_eq a.w b.w && int_eq a.h b.h) x.1 in
    let w = both_true (int_eq a.w b.w) (int_eq a.h b.h) y.1 in
    λ i. record {
      x = (signed_Decides a.x b.x).0 x.0 i;
      y = (signed_Decides a.y b.y).0 y.0 i;
      w = (signed_Decides a.w b.w).0 w.0 i;
      h = (signed_Decides a.h b.h).0 w.1 i;
    }

same_box : (a b : Option Rect) → option_eq (λ (r s : Rect). int_eq r.x s.x && (int_eq r.y s.y && (int_eq r.w s.w && int_eq r.h s.h))) a b ≡ true → a ≡ b
same_box None None is = refl
same_box None (Some b) is = cc
same_box (Some a) None is = cc
same_box (Some a) (Some b) is = ap Some (same_rect a b is)

pub same_values : (a b : TlValue) → values_eq a b ≡ true → a ≡ b
same_values (value.Rec a) (value.Rec b) is = ap value.Rec (same_record a b is)
same_values (value.Ids a) (value.Ids b) is = ap value.Ids (same_ids a b is)
same_values (value.Number a) (value.Number b) is = ap value.Number ((unsigned_Decides a b).0 is)
same_values (value.Rect a) (value.Rect b) is = ap value.Rect (same_box a b is)
same_values a b is = cc
