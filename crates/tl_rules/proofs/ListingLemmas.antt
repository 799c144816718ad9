-- A list beside the records, as the places of its entries in order; and what a record that comes or goes does to it.
use Rattle.std.proofs.Common.{◌≡◌, ◌≢◌, ℕ, List, [], ◌∷◌, map, filter, Bool, true, false, cond, ◌&&◌, T, Option, Some, None, is_some, insert, refl, sym, ap, ◌∙◌, subst, codes, unwrap_or}
use Rattle.std.specs.List.{AllByRecursion}
use Rattle.std.specs.List.Sorted.{IsPartitionedBy}
use Rattle.std.specs.Option.{option_map_or}
use Rattle.std.specs.Cmp.{IsTotalOrder}
use Rattle.std.specs.Cmp.Lexicographic.{nat_list_cmp_total}
use Rattle.std.specs.FinMap.Entries.{below_all}
use Rattle.std.specs.Ordering.{is_lt, is_eq, ordering_then}
use Rattle.std.specs.declared.cmp.Ordering.{Ordering}
use Rattle.std.specs.declared.cmp.Ordering.TheVariants.{Less, Equal, Greater}
use Rattle.std.proofs.lemmas.Cmp.{on_total, then_total}
use Rattle.std.proofs.lemmas.Map.Text.{is_eq-slice_cmp}
use Rattle.rooms_val.proofs.Truths.{both_Equal, none_some}
use Rattle.rooms_val.specs.Data.{Data, null, Pairs}
use Rattle.rooms_val.specs.Maps.{order, ties, AreRising, value_at, with_key, without_key}
use Rattle.rooms_val.proofs.MapsLemmas.{first, second, less, same_key, order_itself, flipped, by_tie, at-without_key, rising-with_key, rising-without_key, rising_rest, none_later, with_key-known}
use Rattle.shape_tree.specs.Records.{text_or_empty, is_binding}
use Rattle.shape_tree.specs.Trees.{Sibling, sibling_order}
use Rattle.shape_tree.specs.Sorting.{inserted, in_order}
use Rattle.shape_tree.specs.Index.{AreNotLess, Rises}
use Rattle.tl_rules.specs.Atoms.{bindings}
use Rattle.tl_rules.specs.declared.listing.Listing.{Listing}
use Rattle.tl_rules.specs.declared.listing.Listing.TheVariants.{Children, BoundFrom, BoundTo}
use Rattle.tl_rules.specs.Listings.{lists, owner_field, owner_of, place_of, listed, is_before}
use Rattle.tl_rules.specs.ListLaws.{IsPlaceAmong, IsTakenOut}
use Rattle.tl_rules.proofs.InsertionLemmas.{each_map, Cuts, in_order_same, inserted_at, taken_at, AreFound, cuts_from, in_order_parted, inserted_if, chosen, chosen_with, each_chosen}

pub total : IsTotalOrder sibling_order
total = then_total (on_total (λ s. s.index) nat_list_cmp_total) (on_total (λ s. s.id) nat_list_cmp_total)

pub same : (s t : Sibling) → sibling_order s t ≡ Equal → s ≡ t
same s t e =
    let both = both_Equal (order s.index t.index) (order s.id t.id) e in
    let index = same_key s.index t.index both.0 in
    let id = same_key s.id t.id both.1 in
    λ i. record { index = index i; id = id i }

-- the entry is listed under an owner
abbrev pub under : Listing → List ℕ → List ℕ × Data → Bool
under l owner e = lists l e.0 && ties (text_or_empty e.1 (owner_field l)) owner

-- the places of those entries, in order
abbrev pub places : Listing → Pairs → List ℕ → List Sibling
places l m owner = chosen total same (under l owner) (place_of l) m

abbrev pub ids_of : List Sibling → List (List ℕ)
ids_of = map (λ s. s.id)

-- the place of the record under an id
abbrev pub place_at : Listing → Pairs → List ℕ → Sibling
place_at l m id = place_of l (id, unwrap_or (value_at m id) null)

-- bindings stand by id, as in the map
abbrev place_by_id : List ℕ × Data → Sibling
place_by_id e = record { index = []; id = e.0 }

module _ (p : List ℕ × Data → Bool) where
  above_first : (e : List ℕ × Data) (m : Pairs) → T (below_all order e.0 m) → AreNotLess sibling_order (place_by_id e) (map place_by_id (filter p m))
  above_first e [] below = tt
  above_first e (f ∷ m) below =
      let rest = above_first e m (second _ _ below) in
      elim (p f) as (λ b. AreNotLess sibling_order (place_by_id e) (map place_by_id (cond b (f ∷ filter p m) (filter p m)))) [
        | true ↦ (ap is_lt (flipped e.0 f.0 Less (less _ (first _ _ below))), rest)
        | false ↦ rest
      ]

  rises_by_id : (m : Pairs) → AreRising m → Rises sibling_order (map place_by_id (filter p m))
  rises_by_id [] rising = tt
  rises_by_id (e ∷ m) rising =
      let rest = rises_by_id m (rising_rest e m rising) in
      elim (p e) as (λ b. Rises sibling_order (map place_by_id (cond b (e ∷ filter p m) (filter p m)))) [
        | true ↦ (above_first e m (first _ _ rising), rest)
        | false ↦ rest
      ]

ids_by_id : (es : Pairs) → map (λ e. e.0) es ≡ ids_of (map place_by_id es)
ids_by_id [] = refl
ids_by_id (e ∷ es) = ap (λ ids. e.0 ∷ ids) (ids_by_id es)

bindings_are : (end : List ℕ) (m : Pairs) (owner : List ℕ) → AreRising m
    → bindings end m owner ≡ ids_of (in_order sibling_order (map place_by_id (filter (λ e. is_binding e.0 && ties (text_or_empty e.1 end) owner) m)))
bindings_are end m owner rising =
    let kept = filter (λ (e : List ℕ × Data). is_binding e.0 && ties (text_or_empty e.1 end) owner) m in
    (λ i. map (λ e. e.0) (filter (λ e. is_binding e.0 && sym (is_eq-slice_cmp (text_or_empty e.1 end) owner) i) m))
    ∙ ids_by_id kept
    ∙ ap ids_of (sym (in_order_same total same (map place_by_id kept) (rises_by_id (λ e. is_binding e.0 && ties (text_or_empty e.1 end) owner) m rising)))

-- a list is the ids at its places
pub listed_are : (l : Listing) (m : Pairs) (owner : List ℕ) → AreRising m → listed l m owner ≡ ids_of (places l m owner)
listed_are Children m owner rising = refl
listed_are BoundFrom m owner rising = bindings_are (codes "fromId") m owner rising
listed_are BoundTo m owner rising = bindings_are (codes "toId") m owner rising

-- each entry is found under its key
abbrev pub AreKnown : Pairs → Pairs → Type 0
AreKnown m = AllByRecursion (λ e. value_at m e.0 ≡ Some e.1)

pub known : (m : Pairs) → AreRising m → AreKnown m m
known [] rising = tt
known (e ∷ m) rising = (
  ap (λ w. cond (is_eq w) (Some e.1) (value_at m e.0)) (order_itself e.0),
  each_map (λ f is. by_tie (λ b. cond b (Some e.1) (value_at m f.0) ≡ Some f.1) f.0 e.0 (λ there. absurd (none_some f.1 (sym (none_later e m rising) ∙ ap (value_at m) (sym there) ∙ is))) is)
      m (known m (rising_rest e m rising)),
)

under_none : (b : Bool) (o : Option Data) (d : Data) → cond b None o ≡ Some d → o ≡ Some d
under_none true o d is = absurd (none_some d is)
under_none false o d is = is

pub known_without : (m : Pairs) (id : List ℕ) → AreRising m → AreKnown m (without_key m id)
known_without m id rising =
    each_map (λ f is. under_none (ties f.0 id) (value_at m f.0) f.1 (sym (at-without_key m id f.0) ∙ is)) (without_key m id) (known (without_key m id) (rising-without_key m id rising))

module _ (l : Listing) (m : Pairs) (owner : List ℕ) where
  found : (es : Pairs) → AreKnown m es → AreFound total same (λ s. s.id) (place_at l m) (places l es owner)
  found es all = each_chosen total same (under l owner) (place_of l) (λ s. place_at l m s.id ≡ s) es (each_map (λ e is. ap (λ o. place_of l (e.0, unwrap_or o null)) is) es all)

  -- any place parts the list of some entries of the map
  pub parted : (place : Sibling) (es : Pairs) → AreRising es → AreKnown m es → IsPartitionedBy (is_before l m place) (listed l es owner)
  parted place es rising all =
      subst (IsPartitionedBy (is_before l m place)) (sym (listed_are l es owner rising))
      (in_order_parted total same (λ s. s.id) (place_at l m) place (map (place_of l) (filter (under l owner) es)) (found es all))

  cuts : (place : Sibling) (es : Pairs) (n : ℕ) → AreRising es → AreKnown m es → IsPlaceAmong l m place (listed l es owner) n → Cuts total same place (places l es owner) n
  cuts place es n rising all point =
      cuts_from total same (λ s. s.id) (place_at l m) place (places l es owner) n (found es all)
      (subst (λ ids. IsPlaceAmong l m place ids n) (listed_are l es owner rising) point)

  under_is : (e : List ℕ × Data) → under l owner e ≡ option_map_or (λ q. ties q owner) (owner_of l e) false
  under_is e = elim (lists l e.0) as (λ b. (b && ties (text_or_empty e.1 (owner_field l)) owner) ≡ option_map_or (λ q. ties q owner) (cond b (Some (text_or_empty e.1 (owner_field l))) None) false) [ true ↦ refl | false ↦ refl ]

  under_its_owner : (e : List ℕ × Data) → owner_of l e ≡ Some owner → under l owner e ≡ true
  under_its_owner e is = under_is e ∙ ap (λ o. option_map_or (λ q. ties q owner) o false) is ∙ ap is_eq (order_itself owner)

  under_another : (e : List ℕ × Data) → owner_of l e ≢ Some owner → under l owner e ≡ false
  under_another e apart =
      under_is e ∙ (elim (owner_of l e) as (λ o. owner_of l e ≡ o → option_map_or (λ q. ties q owner) o false ≡ false) [
        | None ↦ λ is. refl
        | Some q ↦ λ is. by_tie (λ b. b ≡ false) q owner (λ there. absurd (apart (is ∙ ap Some there))) refl
      ]) refl

module _ (l : Listing) (m : Pairs) (id : List ℕ) (d : Data) (owner : List ℕ) (rising : AreRising m) where
  rest_rises : AreRising (without_key m id)
  rest_rises = rising-without_key m id rising

  -- the list with the record is that without it, with its place put in if it is listed there
  with_is : listed l (with_key m id d) owner ≡ ids_of (inserted_if total same (under l owner (id, d)) (place_of l (id, d)) (places l (without_key m id) owner))
  with_is = listed_are l (with_key m id d) owner (rising-with_key m id d rising) ∙ ap ids_of (chosen_with total same (under l owner) (place_of l) m id d rising)

  with_owner : owner_of l (id, d) ≡ Some owner → listed l (with_key m id d) owner ≡ ids_of (inserted sibling_order (place_of l (id, d)) (places l (without_key m id) owner))
  with_owner is = with_is ∙ ap (λ b. ids_of (inserted_if total same b (place_of l (id, d)) (places l (without_key m id) owner))) (under_its_owner l m owner (id, d) is)

  pub put_in : (n : ℕ) → owner_of l (id, d) ≡ Some owner → IsPlaceAmong l m (place_of l (id, d)) (listed l (without_key m id) owner) n
      → listed l (with_key m id d) owner ≡ insert (listed l (without_key m id) owner) n id
  put_in n is point =
      with_owner is
      ∙ inserted_at total same (λ s. s.id) (place_of l (id, d)) (places l (without_key m id) owner) n (cuts l m owner (place_of l (id, d)) (without_key m id) n rest_rises (known_without m id rising) point)
      ∙ ap (λ ids. insert ids n id) (sym (listed_are l (without_key m id) owner rest_rises))

  pub coming : owner_of l (id, d) ≢ Some owner → listed l (with_key m id d) owner ≡ listed l (without_key m id) owner
  coming apart =
      with_is ∙ ap (λ b. ids_of (inserted_if total same b (place_of l (id, d)) (places l (without_key m id) owner))) (under_another l m owner (id, d) apart)
      ∙ sym (listed_are l (without_key m id) owner rest_rises)

  module _ (there : value_at m id ≡ Some d) where
    whole : with_key m id d ≡ m
    whole = with_key-known m id d rising (sym there)

    pub going : owner_of l (id, d) ≢ Some owner → listed l (without_key m id) owner ≡ listed l m owner
    going apart = sym (coming apart) ∙ ap (λ es. listed l es owner) whole

    pub taken_out : (n : ℕ) → owner_of l (id, d) ≡ Some owner → IsPlaceAmong l m (place_of l (id, d)) (listed l m owner) n
        → IsTakenOut id n (listed l m owner) (listed l (without_key m id) owner)
    taken_out n is point =
        let place = place_of l (id, d) in
        let rest = places l (without_key m id) owner in
        let all : places l m owner ≡ inserted sibling_order place rest =
        ap (λ es. places l es owner) (sym whole) ∙ chosen_with total same (under l owner) (place_of l) m id d rising ∙ ap (λ b. inserted_if total same b place rest) (under_its_owner l m owner (id, d) is) in
        let cut = subst (λ xs. Cuts total same place xs n) all (cuts l m owner place m n rising (known m rising) point) in
        subst (λ ids. IsTakenOut id n ids (listed l (without_key m id) owner)) (sym (listed_are l m owner rising ∙ ap ids_of all))
        (subst (IsTakenOut id n (ids_of (inserted sibling_order place rest))) (sym (listed_are l (without_key m id) owner rest_rises)) (taken_at total same (λ s. s.id) place rest n cut))

    pub stays : (e : Data) → owner_of l (id, d) ≡ owner_of l (id, e) → place_of l (id, d) ≡ place_of l (id, e) → listed l (with_key m id e) owner ≡ listed l m owner
    stays e owners places_are =
        let rest = places l (without_key m id) owner in
        listed_are l (with_key m id e) owner (rising-with_key m id e rising)
        ∙ ap ids_of (chosen_with total same (under l owner) (place_of l) m id e rising)
        ∙ ap (λ b. ids_of (inserted_if total same b (place_of l (id, e)) rest))
        (under_is l m owner (id, e) ∙ ap (λ o. option_map_or (λ q. ties q owner) o false) (sym owners) ∙ sym (under_is l m owner (id, d)))
        ∙ ap (λ place. ids_of (inserted_if total same (under l owner (id, d)) place rest)) (sym places_are)
        ∙ sym with_is
        ∙ ap (λ es. listed l es owner) whole
