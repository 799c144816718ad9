-- How two lists or two maps stand, by what is left of both from a place on; and that equal values are the same.
use Rattle.std.proofs.Common.{◌≡◌, ℕ, ◌+◌, ◌<◌, ◌≤◌, List, [], ◌∷◌, length, get_or, drop, drop-cons, Some, None, slice_get, Ordering, Less, Equal, Greater, is_eq, suc, lt-ltb, arith, refl, sym, ap, ◌∙◌}
use Rattle.std.specs.Prelude.{IsTrue, ◌↔◌}
use Rattle.std.specs.Cmp.{IsTotalOrder, Equal-is, tied_itself}
use Rattle.std.specs.Ordering.{nat_cmp, ordering_then, eq_by_cmp, on}
use Rattle.std.proofs.lemmas.List.{drop_all}
use Rattle.rooms_val.specs.Data.{Data, null, boolean, whole, text, list, map, Pairs, no_items, no_members, items_of, list_of, members_of, pairs_of}
use Rattle.rooms_val.specs.Maps.{order}
use Rattle.rooms_val.specs.Order.{data_cmp, items_cmp, members_cmp}
use Rattle.rooms_val.specs.OrderLaws.{same_data, same_items, same_members, data_total, items_total, members_total}
use Rattle.rooms_val.specs.View.{data_of, items_view, pairs_view}
use Rattle.rooms_val.specs.declared.val.Val.{Val}
use Rattle.rooms_val.specs.declared.val.Val.TheVariants as v
use Rattle.rooms_val.proofs.DataLemmas.{list_of-items_of, pairs_of-members_of}
use Rattle.rooms_val.proofs.ListLemmas.{one_off, one_off_at, none_left}

-- what isn't level decides
pub decided : (o p : Ordering) → (o ≡ Equal → ⊥) → ordering_then o p ≡ o
decided Less p apart = refl
decided Equal p apart = absurd (apart refl)
decided Greater p apart = refl

-- nothing stands to a list or a map as its length does to that
pub no_items_before : (ds : List Data) → nat_cmp 0 (length ds) ≡ items_cmp no_items (items_of ds)
no_items_before [] = refl
no_items_before (d ∷ ds) = rw (lt-ltb 0 (suc (length ds)) (omega arith)) refl

pub no_members_before : (ps : Pairs) → nat_cmp 0 (length ps) ≡ members_cmp no_members (members_of ps)
no_members_before [] = refl
no_members_before (p ∷ ps) = rw (lt-ltb 0 (suc (length ps)) (omega arith)) refl

abbrev pub items_left : List Val → List Data → ℕ → Ordering
items_left vs ds i = items_cmp (items_of (items_view (drop i vs))) (items_of (drop i ds))

module _ (vs : List Val) (ds : List Data) (i : ℕ) where
  pub items_more : (x : Val) (d : Data) → i < length vs → x ≡ get_or vs i x → Some d ≡ slice_get ds i → items_left vs ds i ≡ ordering_then (data_cmp (data_of x) d) (items_left vs ds (i + 1))
  items_more x d within here there j = items_cmp (items_of (items_view (one_off vs i x within here j))) (items_of (one_off_at ds i d there j))

  pub items_longer : (x : Val) → i < length vs → x ≡ get_or vs i x → None ≡ slice_get ds i → items_left vs ds i ≡ Greater
  items_longer x within here none j = items_cmp (items_of (items_view (one_off vs i x within here j))) (items_of (none_left ds i none j))

  pub items_shorter : length vs ≤ i → i < length ds → items_left vs ds i ≡ Less
  items_shorter ended within j = items_cmp (items_of (items_view (drop_all i vs ended j))) (items_of (drop-cons ds i null within j))

abbrev pub members_left : List (List ℕ × Val) → Pairs → ℕ → Ordering
members_left es ps i = members_cmp (members_of (pairs_view (drop i es))) (members_of (drop i ps))

module _ (es : List (List ℕ × Val)) (ps : Pairs) (i : ℕ) where
  pub members_more : (e : List ℕ × Val) (p : List ℕ × Data) → i < length es → e ≡ get_or es i e → Some p ≡ slice_get ps i
      → members_left es ps i ≡ ordering_then (order e.0 p.0) (ordering_then (data_cmp (data_of e.1) p.1) (members_left es ps (i + 1)))
  members_more e p within here there j = members_cmp (members_of (pairs_view (one_off es i e within here j))) (members_of (one_off_at ps i p there j))

  pub members_longer : (e : List ℕ × Val) → i < length es → e ≡ get_or es i e → None ≡ slice_get ps i → members_left es ps i ≡ Greater
  members_longer e within here none j = members_cmp (members_of (pairs_view (one_off es i e within here j))) (members_of (none_left ps i none j))

  pub members_shorter : length es ≤ i → i < length ps → members_left es ps i ≡ Less
  members_shorter ended within j = members_cmp (members_of (pairs_view (drop_all i es ended j))) (members_of (drop-cons ps i ([], null) within j))

-- the value of what a `Val` stands for
val_of : Data → Val
val_of null = v.Null
val_of (boolean b) = v.Bool b
val_of (whole z) = v.Int z
val_of (text s) = v.Text s
val_of (list ds) = v.List (list_of ds)
val_of (map ms) = v.Map (pairs_of ms)

val_of-data_of : (val : Val) → val_of (data_of val) ≡ val
unfolding val_of
val_of-data_of v.Null = refl
val_of-data_of (v.Bool b) = refl
val_of-data_of (v.Int z) = refl
val_of-data_of (v.Text s) = refl
val_of-data_of (v.List ds) = ap v.List (list_of-items_of ds)
val_of-data_of (v.Map ps) = ap v.Map (pairs_of-members_of ps)

-- where an order is level at the same alone, and what is ordered can be read back, equal is the same
module _ {A B : Type 0} (R : B → B → Ordering) (total : IsTotalOrder R) (same : (x y : B) → R x y ≡ Equal → x ≡ y) (f : A → B) (back : B → A) (back-f : (a : A) → back (f a) ≡ a) where
  equal_is_same : (a b : A) → IsTrue (eq_by_cmp (on f R) a b) ↔ (a ≡ b)
  equal_is_same a b = (
    λ is. sym (back-f a) ∙ ap back (same (f a) (f b) ((Equal-is (R (f a) (f b))).0 is)) ∙ back-f b,
    λ is. ap (λ x. eq_by_cmp (on f R) a x) (sym is) ∙ ap is_eq (tied_itself total (f a)),
  )

pub same_vals : (a b : Val) → IsTrue (eq_by_cmp (on data_of data_cmp) a b) ↔ (a ≡ b)
same_vals = equal_is_same data_cmp data_total same_data data_of val_of val_of-data_of

pub same_lists : (a b : List Data) → IsTrue (eq_by_cmp (on items_of items_cmp) a b) ↔ (a ≡ b)
same_lists = equal_is_same items_cmp items_total same_items items_of list_of list_of-items_of

pub same_maps : (a b : Pairs) → IsTrue (eq_by_cmp (on members_of members_cmp) a b) ↔ (a ≡ b)
same_maps = equal_is_same members_cmp members_total same_members members_of pairs_of pairs_of-members_of
