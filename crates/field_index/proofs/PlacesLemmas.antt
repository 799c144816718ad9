-- The places of the values of a map, after a change of one value.
use Rattle.std.proofs.Common.{◌≡◌, ℕ, List, [], ◌∷◌, Bool, true, false, not, cond, Option, Some, None, Ordering, Less, Equal, Greater, is_eq, refl, sym, ap, subst, ◌∙◌}
use Rattle.std.specs.Cmp.{IsTotalOrder, Equal-is, tied_itself}
use Rattle.std.specs.Cmp.Lexicographic.{nat_list_cmp_total}
use Rattle.std.specs.List.{list_any}
use Rattle.std.specs.List.Sorted.{IsStrictlySortedBy}
use Rattle.std.specs.Option.{option_map_or}
use Rattle.std.specs.Ordering.{ordering_then, eq_by_cmp}
use Rattle.std.proofs.lemmas.Cmp.{on_total, then_total}
use Rattle.rooms_val.proofs.Truths.{both_Equal}
use Rattle.rooms_val.specs.Data.{Data}
use Rattle.rooms_val.specs.Maps.{order, ties, AreRising, value_at, with_key, set_at}
use Rattle.rooms_val.specs.Order.{data_cmp}
use Rattle.rooms_val.specs.OrderLaws.{same_data, data_total}
use Rattle.rooms_val.specs.View.{data_of}
use Rattle.rooms_val.specs.declared.val.Val.{Val}
use Rattle.rooms_val.proofs.MapsLemmas.{same_key, is_eq-reverse, order_itself, ties_same, ties_flip, at-set_at, rising-set_at, with_key-known}
use Rattle.rooms_val.proofs.OrderLemmas.{same_vals}
use Rattle.shape_tree.specs.Queries.{is_same}
use Rattle.field_index.specs.declared.place.Place.{Place}
use Rattle.field_index.specs.Places.{place_at, place_order, is_among, is_place_of, is_value, ArePlaces}

pub place_total : IsTotalOrder place_order
place_total = then_total (on_total (λ p. data_of p.value) data_total) (on_total (λ p. p.id) nat_list_cmp_total)

-- what the opposite of a truth says of the truth
pub was_there : (b r : Bool) → r ≡ not b → r ≡ false → b ≡ true
was_there true r is off = refl
was_there false r is off = cc

pub was_absent : (b r : Bool) → r ≡ not b → r ≡ true → b ≡ false
was_absent true r is on = cc
was_absent false r is on = refl

-- values that stand for the same are the same
pub val_from_data : (a b : Val) → data_of a ≡ data_of b → a ≡ b
val_from_data a b is = (same_vals a b).0 (ap (λ d. is_eq (data_cmp (data_of a) d)) (sym is) ∙ ap is_eq (tied_itself data_total (data_of a)))

pub same_place : (p q : Place) → place_order p q ≡ Equal → p ≡ q
same_place p q is =
    let parts = both_Equal (data_cmp (data_of p.value) (data_of q.value)) (order p.id q.id) is in
    let value = (same_vals p.value q.value).0 ((Equal-is (data_cmp (data_of p.value) (data_of q.value))).1 parts.0) in
    let id = same_key p.id q.id parts.1 in
    λ i. record { value = value i; id = id i }

level_end : (a b : Ordering) → b ≡ Equal → is_eq (ordering_then a b) ≡ is_eq a
level_end Less b is = refl
level_end Equal b is = ap is_eq is
level_end Greater b is = refl

level_no : (a b : Ordering) → is_eq b ≡ false → is_eq (ordering_then a b) ≡ false
level_no Less b is = refl
level_no Equal b is = is
level_no Greater b is = refl

-- a place of an id, if there is one, against another of the same id, and of another id
at_id : (o : Option Val) (id : List ℕ) (p : Place) → id ≡ p.id → is_place_of o id p ≡ is_value o p
at_id None id p same = refl
at_id (Some v) id p same = level_end (data_cmp (data_of v) (data_of p.value)) (order id p.id) (ap (order id) (sym same) ∙ order_itself id)

not_at_id : (o : Option Val) (id : List ℕ) (p : Place) → ties id p.id ≡ false → is_place_of o id p ≡ false
not_at_id None id p apart = refl
not_at_id (Some v) id p apart = level_no (data_cmp (data_of v) (data_of p.value)) (order id p.id) apart

pub same_value : (x y : Data) → is_same x y ≡ true → x ≡ y
same_value x y is = same_data x y ((Equal-is (data_cmp x y)).0 is)

is_same_flip : (x y : Data) → is_same x y ≡ is_same y x
is_same_flip x y = ap is_eq (data_total.antisymm x y) ∙ is_eq-reverse (data_cmp y x)

found_same : (o : Option Val) (v : Val) (id : List ℕ) → is_value o (place_at v id) ≡ true → Some v ≡ o
found_same None v id is = cc
found_same (Some w) v id is = ap Some (sym ((same_vals w v).0 is))

-- of an old value and another, the old one taken away, the other is left
only_one : (old : Option Val) (v : Val) (p : Place) (id : List ℕ) → is_value old (place_at v id) ≡ false → cond (is_value old p) false (cond (is_value (Some v) p) true (is_value old p)) ≡ is_value (Some v) p
only_one None v p id apart = elim (is_value (Some v) p) as (λ b. cond b true false ≡ b) [ true ↦ refl | false ↦ refl ]
only_one (Some w) v p id apart =
    elim (is_value (Some w) p) as (λ s. is_value (Some w) p ≡ s → cond s false (cond (is_value (Some v) p) true s) ≡ is_value (Some v) p) [
      | true ↦ λ is. sym apart ∙ ap (λ x. is_same x (data_of v)) (same_value (data_of w) (data_of p.value) is) ∙ is_same_flip (data_of p.value) (data_of v)
      | false ↦ λ is. elim (is_value (Some v) p) as (λ t. cond t true false ≡ t) [ true ↦ refl | false ↦ refl ]
    ] refl

module _ (es : List (List ℕ × Val)) (ks : List Place) (was : ArePlaces es ks) (id : List ℕ) where
  -- places are those of the map with this or nothing at an id, if they are so at the id, and as they were elsewhere
  changed : (o : Option Val) (new : List Place) → IsStrictlySortedBy place_order new
      → ((p : Place) → id ≡ p.id → is_among new p ≡ is_value o p) → ((p : Place) → ties id p.id ≡ false → is_among new p ≡ is_among ks p) → ArePlaces (set_at es id o) new
  changed o new ordered here there = record {
    rising = rising-set_at es id o was.rising;
    ordered = ordered;
    same = λ p.
        let set : (t : Bool) → ties id p.id ≡ t → value_at (set_at es id o) p.id ≡ cond t o (value_at es p.id) = λ t is. at-set_at es id p.id o ∙ ap (λ t. cond t o (value_at es p.id)) (ties_flip p.id id ∙ is) in
        elim (ties id p.id) as (λ t. ties id p.id ≡ t → is_among new p ≡ is_value (value_at (set_at es id o) p.id) p) [
          | true ↦ λ is. here p (ties_same id p.id is) ∙ ap (λ w. is_value w p) (sym (set true is))
          | false ↦ λ is. there p is ∙ was.same p ∙ ap (λ w. is_value w p) (sym (set false is))
        ] refl;
  }

  -- what is among the places of the id
  held_at : (p : Place) → id ≡ p.id → is_among ks p ≡ is_value (value_at es id) p
  held_at p same = was.same p ∙ ap (λ k. is_value (value_at es k) p) (sym same)

  -- the place of what the id had was taken away
  pub taken : (new : List Place) → IsStrictlySortedBy place_order new → ((p : Place) → is_among new p ≡ cond (is_place_of (value_at es id) id p) false (is_among ks p)) → ArePlaces (set_at es id None) new
  taken new ordered removes = changed None new ordered
      (λ p same.
      removes p
      ∙ (λ i. cond (at_id (value_at es id) id p same i) false (held_at p same i))
      ∙ elim (is_value (value_at es id) p) as (λ b. cond b false b ≡ false) [ true ↦ refl | false ↦ refl ])
      (λ p other. removes p ∙ ap (λ t. cond t false (is_among ks p)) (not_at_id (value_at es id) id p other))

  module _ (v : Val) where
    -- a place that is there already is that of what the id has
    pub put_same : is_among ks (place_at v id) ≡ true → with_key es id v ≡ es
    put_same there = with_key-known es id v was.rising (found_same (value_at es id) v id (sym (held_at (place_at v id) refl) ∙ there))

    module _ (absent : is_among ks (place_at v id) ≡ false) (added : List Place) (adds : (p : Place) → is_among added p ≡ cond (is_place_of (Some v) id p) true (is_among ks p)) (new : List Place) (ordered : IsStrictlySortedBy place_order new) where
      -- a place was added, and that of what the id had taken away
      pub put_other : ((p : Place) → is_among new p ≡ cond (is_place_of (value_at es id) id p) false (is_among added p)) → ArePlaces (with_key es id v) new
      put_other removes = changed (Some v) new ordered
          (λ p same.
          removes p
          ∙ ap (cond (is_place_of (value_at es id) id p) false) (adds p)
          ∙ (λ i. cond (at_id (value_at es id) id p same i) false (cond (at_id (Some v) id p same i) true (held_at p same i)))
          ∙ only_one (value_at es id) v p id (sym (held_at (place_at v id) refl) ∙ absent))
          (λ p other.
          removes p
          ∙ ap (cond (is_place_of (value_at es id) id p) false) (adds p)
          ∙ (λ i. cond (not_at_id (value_at es id) id p other i) false (cond (not_at_id (Some v) id p other i) true (is_among ks p))))

      restored : (p : Place) → cond (is_place_of (Some v) id p) false (cond (is_place_of (Some v) id p) true (is_among ks p)) ≡ is_among ks p
      restored p = elim (place_order (place_at v id) p) as (λ o. place_order (place_at v id) p ≡ o → cond (is_eq o) false (cond (is_eq o) true (is_among ks p)) ≡ is_among ks p) [
        | Less ↦ λ is. refl
        | Equal ↦ λ is. sym absent ∙ ap (is_among ks) (same_place (place_at v id) p is)
        | Greater ↦ λ is. refl
      ] refl

      -- a place was added and taken away again
      pub put_back : ((p : Place) → is_among new p ≡ cond (is_place_of (Some v) id p) false (is_among added p)) → ArePlaces es new
      put_back removes = record {
        rising = was.rising;
        ordered = ordered;
        same = λ p. removes p ∙ ap (cond (is_place_of (Some v) id p) false) (adds p) ∙ restored p ∙ was.same p;
      }
