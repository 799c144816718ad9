-- The order of values is total, and level exactly at two values that are the same.
use Rattle.std.proofs.Common.{◌≡◌, ℕ, List, Bool, true, false, Ordering, Less, Equal, Greater, refl, sym, ap, ◌∙◌, arith}
use Rattle.std.specs.Cmp.{IsTotalOrder, then_flip, ranked, int_ranked, nat_cmp_total, int_cmp_total, bool_cmp_total}
use Rattle.std.specs.FinMap.{nat_cmp-IsAntisymmetric, slice_cmp-IsAntisymmetric}
use Rattle.std.specs.Ordering.{nat_cmp, bool_cmp, ordering_then, ordering_reverse}
use Rattle.std.proofs.lemmas.Cmp.{nat_list_cmp_total}
use Rattle.rooms_val.specs.Data.{Data, null, boolean, whole, text, list, map, Items, no_items, item, Members, no_members, member}
use Rattle.rooms_val.specs.Maps.{order}
use Rattle.rooms_val.specs.Order.{rank, data_cmp, items_cmp, members_cmp}

same_key : (x y : List ℕ) → order x y ≡ Equal → x ≡ y
same_key = slice_cmp-IsAntisymmetric nat_cmp-IsAntisymmetric

then_level : (a b : Ordering) → ordering_then a b ≡ Equal → (a ≡ Equal) × (b ≡ Equal)
then_level Less b is = cc
then_level Equal b is = (refl, is)
then_level Greater b is = cc

same_truth : (a b : Bool) → bool_cmp a b ≡ Equal → a ≡ b
same_truth true true is = refl
same_truth true false is = cc
same_truth false true is = cc
same_truth false false is = refl

mutual
  pub same_data : (d e : Data) → data_cmp d e ≡ Equal → d ≡ e
  same_data null null is = refl
  same_data (boolean a) (boolean b) is = ap boolean (same_truth a b is)
  same_data (whole y) (whole z) is = ap whole (int_ranked y z Equal (sym is))
  same_data (text s) (text t) is = ap text (same_key s t is)
  same_data (list ds) (list es) is = ap list (same_items ds es is)
  same_data (map ms) (map ns) is = ap map (same_members ms ns is)
  same_data d e is = cc

  pub same_items : (ds es : Items) → items_cmp ds es ≡ Equal → ds ≡ es
  same_items no_items no_items is = refl
  same_items no_items (item e es) is = cc
  same_items (item d ds) no_items is = cc
  same_items (item d ds) (item e es) is =
      let parts = then_level (data_cmp d e) (items_cmp ds es) is in
      λ i. item (same_data d e parts.0 i) (same_items ds es parts.1 i)

  pub same_members : (ms ns : Members) → members_cmp ms ns ≡ Equal → ms ≡ ns
  same_members no_members no_members is = refl
  same_members no_members (member l e ns) is = cc
  same_members (member k d ms) no_members is = cc
  same_members (member k d ms) (member l e ns) is =
      let parts = then_level (order k l) (ordering_then (data_cmp d e) (members_cmp ms ns)) is in
      let rest = then_level (data_cmp d e) (members_cmp ms ns) parts.1 in
      λ i. member (same_key k l parts.0 i) (same_data d e rest.0 i) (same_members ms ns rest.1 i)

mutual
  data_turned : (d e : Data) → data_cmp d e ≡ ordering_reverse (data_cmp e d)
  data_turned null null = refl
  data_turned (boolean a) (boolean b) = bool_cmp_total.antisymm a b
  data_turned (whole y) (whole z) = int_cmp_total.antisymm y z
  data_turned (text s) (text t) = nat_list_cmp_total.antisymm s t
  data_turned (list ds) (list es) = items_turned ds es
  data_turned (map ms) (map ns) = members_turned ms ns
  data_turned d e = refl

  items_turned : (ds es : Items) → items_cmp ds es ≡ ordering_reverse (items_cmp es ds)
  items_turned no_items no_items = refl
  items_turned no_items (item e es) = refl
  items_turned (item d ds) no_items = refl
  items_turned (item d ds) (item e es) = (λ i. ordering_then (data_turned d e i) (items_turned ds es i)) ∙ then_flip (data_cmp e d) (items_cmp es ds)

  members_turned : (ms ns : Members) → members_cmp ms ns ≡ ordering_reverse (members_cmp ns ms)
  members_turned no_members no_members = refl
  members_turned no_members (member l e ns) = refl
  members_turned (member k d ms) no_members = refl
  members_turned (member k d ms) (member l e ns) =
      (λ i. ordering_then (nat_list_cmp_total.antisymm k l i) (((λ j. ordering_then (data_turned d e j) (members_turned ms ns j)) ∙ then_flip (data_cmp e d) (members_cmp ns ms)) i))
      ∙ then_flip (order l k) (ordering_then (data_cmp e d) (members_cmp ns ms))

-- one step of 'first by R, then by the rest', where R is level at the same alone
module _ {K : Type 0} (R : K → K → Ordering) (x y z : K) (p q r : Ordering) (rest : p ≡ Less → q ≡ Less → r ≡ Less)
    (same_xy : R x y ≡ Equal → x ≡ y) (same_yz : R y z ≡ Equal → y ≡ z) (chain : R x y ≡ Less → R y z ≡ Less → R x z ≡ Less) where
  then_chain_by : (a b : Ordering) → R x y ≡ a → R y z ≡ b → ordering_then a p ≡ Less → ordering_then b q ≡ Less → ordering_then (R x z) r ≡ Less
  then_chain_by Less Less s t h k = ap (λ o. ordering_then o r) (chain s t)
  then_chain_by Less Equal s t h k = ap (λ o. ordering_then o r) (ap (R x) (sym (same_yz t)) ∙ s)
  then_chain_by Less Greater s t h k = cc
  then_chain_by Equal Less s t h k = ap (λ o. ordering_then o r) (ap (λ w. R w z) (same_xy s) ∙ t)
  then_chain_by Equal Equal s t h k = ap (λ o. ordering_then o r) (ap (λ w. R w z) (same_xy s) ∙ t) ∙ rest h k
  then_chain_by Equal Greater s t h k = cc
  then_chain_by Greater b s t h k = cc

  then_chain : ordering_then (R x y) p ≡ Less → ordering_then (R y z) q ≡ Less → ordering_then (R x z) r ≡ Less
  then_chain = then_chain_by (R x y) (R y z) refl refl

-- a value of an earlier kind comes first
by_rank : (d e : Data) → nat_cmp (rank d) (rank e) ≡ Less → data_cmp d e ≡ Less
by_rank null null is = is
by_rank (boolean a) (boolean b) is = cc
by_rank (whole y) (whole z) is = cc
by_rank (text s) (text t) is = cc
by_rank (list ds) (list es) is = cc
by_rank (map ms) (map ns) is = cc
by_rank d e is = is

never_back : (d e : Data) → data_cmp d e ≡ Less → nat_cmp (rank d) (rank e) ≡ Greater → ⊥
never_back null null h is = cc
never_back (boolean a) (boolean b) h is = cc
never_back (whole y) (whole z) h is = cc
never_back (text s) (text t) h is = cc
never_back (list ds) (list es) h is = cc
never_back (map ms) (map ns) h is = cc
never_back d e h is = cc

module _ (d e f : Data) (one_kind : rank d ≡ rank e → rank e ≡ rank f → data_cmp d e ≡ Less → data_cmp e f ≡ Less → data_cmp d f ≡ Less) where
  chain_by : (a b : Ordering) → nat_cmp (rank d) (rank e) ≡ a → nat_cmp (rank e) (rank f) ≡ b → data_cmp d e ≡ Less → data_cmp e f ≡ Less → data_cmp d f ≡ Less
  chain_by Less Less s t h k = by_rank d f (nat_cmp_total.trans (rank d) (rank e) (rank f) s t)
  chain_by Less Equal s t h k = by_rank d f (ap (λ n. nat_cmp (rank d) n) (sym (ranked (rank e) (rank f) Equal (sym t))) ∙ s)
  chain_by Equal Less s t h k = by_rank d f (ap (λ n. nat_cmp n (rank f)) (ranked (rank d) (rank e) Equal (sym s)) ∙ t)
  chain_by Equal Equal s t h k = one_kind (ranked (rank d) (rank e) Equal (sym s)) (ranked (rank e) (rank f) Equal (sym t)) h k
  chain_by Greater b s t h k = absurd (never_back d e h s)
  chain_by a Greater s t h k = absurd (never_back e f k t)

  by_kinds : data_cmp d e ≡ Less → data_cmp e f ≡ Less → data_cmp d f ≡ Less
  by_kinds = chain_by (nat_cmp (rank d) (rank e)) (nat_cmp (rank e) (rank f)) refl refl

mutual
  data_chain : (d e f : Data) → data_cmp d e ≡ Less → data_cmp e f ≡ Less → data_cmp d f ≡ Less
  data_chain null null null h k = cc
  data_chain (boolean a) (boolean b) (boolean c) h k = bool_cmp_total.trans a b c h k
  data_chain (whole x) (whole y) (whole z) h k = int_cmp_total.trans x y z h k
  data_chain (text s) (text t) (text u) h k = nat_list_cmp_total.trans s t u h k
  data_chain (list ds) (list es) (list fs) h k = items_chain ds es fs h k
  data_chain (map ms) (map ns) (map os) h k = members_chain ms ns os h k
  data_chain d e f h k = by_kinds d e f (λ r s p q. absurd (omega (arith, r, s))) h k

  items_chain : (ds es fs : Items) → items_cmp ds es ≡ Less → items_cmp es fs ≡ Less → items_cmp ds fs ≡ Less
  items_chain no_items es no_items h k = elim es as (λ es. items_cmp no_items es ≡ Less → items_cmp es no_items ≡ Less → Equal ≡ Less) [ no_items ↦ λ h k. cc | (item e es) ↦ λ h k. cc ] h k
  items_chain no_items es (item f fs) h k = refl
  items_chain (item d ds) no_items fs h k = cc
  items_chain (item d ds) (item e es) no_items h k = cc
  items_chain (item d ds) (item e es) (item f fs) h k =
      then_chain data_cmp d e f (items_cmp ds es) (items_cmp es fs) (items_cmp ds fs) (items_chain ds es fs) (same_data d e) (same_data e f) (data_chain d e f) h k

  members_chain : (ms ns os : Members) → members_cmp ms ns ≡ Less → members_cmp ns os ≡ Less → members_cmp ms os ≡ Less
  members_chain no_members ns no_members h k = elim ns as (λ ns. members_cmp no_members ns ≡ Less → members_cmp ns no_members ≡ Less → Equal ≡ Less) [ no_members ↦ λ h k. cc | (member l e ns) ↦ λ h k. cc ] h k
  members_chain no_members ns (member m f os) h k = refl
  members_chain (member k d ms) no_members os g h = cc
  members_chain (member k d ms) (member l e ns) no_members g h = cc
  members_chain (member k d ms) (member l e ns) (member m f os) g h =
      then_chain order k l m (ordering_then (data_cmp d e) (members_cmp ms ns)) (ordering_then (data_cmp e f) (members_cmp ns os)) (ordering_then (data_cmp d f) (members_cmp ms os))
      (then_chain data_cmp d e f (members_cmp ms ns) (members_cmp ns os) (members_cmp ms os) (members_chain ms ns os) (same_data d e) (same_data e f) (data_chain d e f))
      (same_key k l) (same_key l m) (nat_list_cmp_total.trans k l m) g h

pub data_total : IsTotalOrder data_cmp
data_total = record { antisymm = data_turned; trans = data_chain; congr = λ d e f is. ap (λ x. data_cmp x f) (same_data d e is) }

pub items_total : IsTotalOrder items_cmp
items_total = record { antisymm = items_turned; trans = items_chain; congr = λ ds es fs is. ap (λ x. items_cmp x fs) (same_items ds es is) }

pub members_total : IsTotalOrder members_cmp
members_total = record { antisymm = members_turned; trans = members_chain; congr = λ ms ns os is. ap (λ x. members_cmp x os) (same_members ms ns is) }
