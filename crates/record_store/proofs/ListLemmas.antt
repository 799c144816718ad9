-- The lists of a board, once an id was taken out of one or put into one.
use Rattle.std.proofs.Common.{◌≡◌, ◌≢◌, ◌⊎◌, ℕ, ◌<◌, Bool, true, false, List, length, Option, None, Some, insert, inl, inr, refl, sym, ap, subst, ◌∙◌}
use Rattle.std.specs.List.{remove}
use Rattle.std.specs.List.Sorted.{IsPartitionedBy}
use Rattle.rooms_val.specs.Data.{Data, Pairs}
use Rattle.rooms_val.specs.Maps.{AreRising, value_at, with_key, without_key}
use Rattle.rooms_val.proofs.MapsLemmas.{rising-without_key}
use Rattle.tl_rules.specs.Answers.{ids_in, record_in}
use Rattle.tl_rules.specs.declared.key.TlKey.{TlKey}
use Rattle.tl_rules.specs.declared.key.TlKey.TheVariants as key
use Rattle.tl_rules.specs.declared.value.TlValue.TheVariants as value
use Rattle.tl_rules.specs.declared.listing.Listing.{Listing}
use Rattle.tl_rules.specs.declared.listing.Listing.TheVariants.{Children, BoundFrom, BoundTo}
use Rattle.tl_rules.specs.ListLaws.{IsPlaceAmong}
use Rattle.tl_rules.specs.Listings.{owner_of, index_of, place_of, listed, key_of, is_before}
use Rattle.tl_rules.proofs.ListingLemmas.{parted, known, known_without, put_in, coming, going, taken_out, stays}
use Rattle.record_store.specs.Lists.{Board, atoms_of, records_of, place_at, HasRecords, AreLists, IsListOf, IsMoved, ChangesOnly}
use Rattle.record_store.specs.Seen.{Keys, AreKeys}
use Rattle.record_store.proofs.RecordLemmas.{by_same, same_records}

same_owner : (l : Listing) (a b : List ℕ) → key_of l a ≡ key_of l b → a ≡ b
same_owner Children a b e = cc
same_owner BoundFrom a b e = cc
same_owner BoundTo a b e = cc

pub no_record : (l : Listing) (owner q : List ℕ) → key.Rec q ≡ key_of l owner → ⊥
no_record Children owner q e = cc
no_record BoundFrom owner q e = cc
no_record BoundTo owner q e = cc

-- the lists of all but one owner stay, and that of the owner is as it is to be
pub lists_but_one : (l : Listing) (old new : Board) (m n : Pairs) (owner : List ℕ) → AreLists l old m → ChangesOnly (λ k. k ≡ key_of l owner) old new
    → atoms_of new (key_of l owner) ≡ value.Ids (listed l n owner) → ((other : List ℕ) → other ≢ owner → listed l n other ≡ listed l m other) → AreLists l new n
lists_but_one l old new m n owner lists change here others = λ other.
    by_same (λ _. atoms_of new (key_of l other) ≡ value.Ids (listed l n other)) other owner
    (λ same. subst (λ o. atoms_of new (key_of l o) ≡ value.Ids (listed l n o)) (sym same) here)
    (λ apart. change.others (key_of l other) (λ e. apart (same_owner l other owner e)) ∙ lists other ∙ ap value.Ids (sym (others other apart)))

kinds : (l k : Listing) (a b : List ℕ) → key_of l a ≡ key_of k b → l ≡ k
kinds Children Children a b e = refl
kinds BoundFrom BoundFrom a b e = refl
kinds BoundTo BoundTo a b e = refl
kinds Children BoundFrom a b e = cc
kinds Children BoundTo a b e = cc
kinds BoundFrom Children a b e = cc
kinds BoundFrom BoundTo a b e = cc
kinds BoundTo Children a b e = cc
kinds BoundTo BoundFrom a b e = cc

-- the ids in an atom of a list
pub ids_are : (l : Listing) (board : Board) (m : Pairs) (owner : List ℕ) (k : TlKey) (ids : List (List ℕ)) → AreLists l board m → k ≡ key_of l owner
    → ids ≡ ids_in (atoms_of board k) → ids ≡ listed l m owner
ids_are l board m owner k ids lists is e = e ∙ ap (λ x. ids_in (atoms_of board x)) is ∙ ap ids_in (lists owner)

-- the atoms of records have a map's records still, where they stay
pub has_still : (IsChanged : TlKey → Type 0) (old new : Board) (m n : Pairs) → ((q : List ℕ) → IsChanged (key.Rec q) → ⊥) → ChangesOnly IsChanged old new → n ≡ m → HasRecords old m → HasRecords new n
has_still IsChanged old new m n apart change same has q = ap record_in (change.others (key.Rec q) (apart q)) ∙ has q ∙ ap (λ ps. value_at ps q) (sym same)

-- records stay where lists change
pub records_apart : (l : Listing) (id q : List ℕ) (o : Option Data) → IsListOf l id o (key.Rec q) → ⊥
records_apart l id q None h = h
records_apart l id q (Some d) h = no_record l h.0 q h.2

pub records_unmoved : (l : Listing) (id q : List ℕ) (before after : Option Data) → IsMoved l id before after (key.Rec q) → ⊥
records_unmoved l id q before after h = at h.1
  where
    at : IsListOf l id before (key.Rec q) ⊎ IsListOf l id after (key.Rec q) → ⊥
    at (inl one) = records_apart l id q before one
    at (inr one) = records_apart l id q after one

-- a list of another kind stays
list_apart : (l k : Listing) (id owner : List ℕ) (o : Option Data) → (l ≢ k) → IsListOf l id o (key_of k owner) → ⊥
list_apart l k id owner None apart h = h
list_apart l k id owner (Some d) apart h = apart (sym (kinds k l owner h.0 h.2))

pub lists_unmoved : (l k : Listing) (id : List ℕ) (before after : Option Data) (old new : Board) (m : Pairs) → (l ≢ k) → AreLists k old m
    → ChangesOnly (IsMoved l id before after) old new → AreLists k new m
lists_unmoved l k id before after old new m apart lists change owner =
    change.others (key_of k owner) (λ moved. away moved.1) ∙ lists owner
  where
    away : IsListOf l id before (key_of k owner) ⊎ IsListOf l id after (key_of k owner) → ⊥
    away (inl h) = list_apart l k id owner before apart h
    away (inr h) = list_apart l k id owner after apart h

module _ (l : Listing) (m : Pairs) (id : List ℕ) (d : Data) (rising : AreRising m) where
  -- where a place was found
  at_place : (index : List ℕ) (ids xs : List (List ℕ)) (n : ℕ) → index ≡ index_of l d → ids ≡ xs → IsPartitionedBy (is_before l m (place_of l (id, d))) xs
      → (IsPartitionedBy (is_before l m (place_at index id)) ids → IsPlaceAmong l m (place_at index id) ids n) → IsPlaceAmong l m (place_of l (id, d)) xs n
  at_place index ids xs n i e parted_ clause =
      subst (λ (ys : List (List ℕ)). IsPlaceAmong l m (place_of l (id, d)) ys n) e
      (subst (λ (x : List ℕ). IsPartitionedBy (is_before l m (place_at x id)) ids → IsPlaceAmong l m (place_at x id) ids n) i clause
      (subst (IsPartitionedBy (is_before l m (place_of l (id, d)))) (sym e) parted_))

  pub place_to_leave : (owner index : List ℕ) (ids : List (List ℕ)) (n : ℕ) → index ≡ index_of l d → ids ≡ listed l m owner
      → (IsPartitionedBy (is_before l m (place_at index id)) ids → IsPlaceAmong l m (place_at index id) ids n) → IsPlaceAmong l m (place_of l (id, d)) (listed l m owner) n
  place_to_leave owner index ids n i e clause = at_place index ids (listed l m owner) n i e (parted l m owner (place_of l (id, d)) m rising (known m rising)) clause

  pub place_to_join : (owner index : List ℕ) (ids : List (List ℕ)) (n : ℕ) → index ≡ index_of l d → ids ≡ listed l (without_key m id) owner
      → (IsPartitionedBy (is_before l m (place_at index id)) ids → IsPlaceAmong l m (place_at index id) ids n) → IsPlaceAmong l m (place_of l (id, d)) (listed l (without_key m id) owner) n
  place_to_join owner index ids n i e clause =
      at_place index ids (listed l (without_key m id) owner) n i e (parted l m owner (place_of l (id, d)) (without_key m id) (rising-without_key m id rising) (known_without m id rising)) clause

  pub within_list : (owner : List ℕ) (n : ℕ) → value_at m id ≡ Some d → owner_of l (id, d) ≡ Some owner → IsPlaceAmong l m (place_of l (id, d)) (listed l m owner) n → n < length (listed l m owner)
  within_list owner n there is point = (taken_out l m id d owner rising there n is point).within

  pub unmoved : (board : Board) (e : Data) → AreLists l board m → value_at m id ≡ Some d → owner_of l (id, d) ≡ owner_of l (id, e) → index_of l d ≡ index_of l e
      → AreLists l board (with_key m id e)
  unmoved board e lists there owners indices owner = lists owner ∙ ap value.Ids (sym (stays l m id d owner rising there e owners (ap (λ i. place_at i id) indices)))

  -- a record without an owner is in no list
  not_listed : owner_of l (id, d) ≡ None → (other : List ℕ) → owner_of l (id, d) ≢ Some other
  not_listed none other e = cc

  not_another : (owner other : List ℕ) → owner_of l (id, d) ≡ Some owner → other ≢ owner → owner_of l (id, d) ≢ Some other
  not_another owner other is apart e = apart (cc)

  pub unlisted_nowhere : (board : Board) → AreLists l board m → value_at m id ≡ Some d → owner_of l (id, d) ≡ None → AreLists l board (without_key m id)
  unlisted_nowhere board lists there none = λ other. lists other ∙ ap value.Ids (sym (going l m id d other rising there (not_listed none other)))

  pub unlisted : (old new : Board) (owner : List ℕ) (n : ℕ) → AreLists l old m → value_at m id ≡ Some d → owner_of l (id, d) ≡ Some owner
      → IsPlaceAmong l m (place_of l (id, d)) (listed l m owner) n → ChangesOnly (λ k. k ≡ key_of l owner) old new
      → atoms_of new (key_of l owner) ≡ value.Ids (remove (listed l m owner) n) → AreLists l new (without_key m id)
  unlisted old new owner n lists there is point change here =
      lists_but_one l old new m (without_key m id) owner lists change
      (here ∙ ap value.Ids (sym (taken_out l m id d owner rising there n is point).rest_is))
      (λ other apart. going l m id d other rising there (not_another owner other is apart))

  pub enlisted_nowhere : (board : Board) → AreLists l board (without_key m id) → owner_of l (id, d) ≡ None → AreLists l board (with_key m id d)
  enlisted_nowhere board lists none = λ other. lists other ∙ ap value.Ids (sym (coming l m id d other rising (not_listed none other)))

  pub enlisted : (old new : Board) (owner : List ℕ) (n : ℕ) → AreLists l old (without_key m id) → owner_of l (id, d) ≡ Some owner
      → IsPlaceAmong l m (place_of l (id, d)) (listed l (without_key m id) owner) n → ChangesOnly (λ k. k ≡ key_of l owner) old new
      → atoms_of new (key_of l owner) ≡ value.Ids (insert (listed l (without_key m id) owner) n id) → AreLists l new (with_key m id d)
  enlisted old new owner n lists is point change here =
      lists_but_one l old new (without_key m id) (with_key m id d) owner lists change
      (here ∙ ap value.Ids (sym (put_in l m id d owner rising n is point)))
      (λ other apart. coming l m id d other rising (not_another owner other is apart))

-- where lists change, records are as they were
pub same_after : (keys : Keys) → AreKeys keys → (old new : Board) (P : TlKey → Type 0) → ((q : List ℕ) → P (key.Rec q) → ⊥) → ChangesOnly P old new
    → records_of keys new ≡ records_of keys old
same_after keys are old new P apart change = same_records keys are (atoms_of new) (atoms_of old) (λ q. change.others (key.Rec q) (apart q))

pub same_moved : (keys : Keys) → AreKeys keys → (old new : Board) (l : Listing) (id : List ℕ) (before after : Option Data) → ChangesOnly (IsMoved l id before after) old new
    → records_of keys new ≡ records_of keys old
same_moved keys are old new l id before after change = same_after keys are old new (IsMoved l id before after) (λ q h. records_unmoved l id q before after h) change

-- and so the atoms of records have the board's records still
pub has_moved : (keys : Keys) → AreKeys keys → (old new : Board) (l : Listing) (id : List ℕ) (before after : Option Data) → ChangesOnly (IsMoved l id before after) old new
    → HasRecords old (records_of keys old) → HasRecords new (records_of keys new)
has_moved keys are old new l id before after change =
    has_still (IsMoved l id before after) old new (records_of keys old) (records_of keys new) (λ q h. records_unmoved l id q before after h) change (same_moved keys are old new l id before after change)

pub each_kind : (P : Listing → Type 0) → P Children → P BoundFrom → P BoundTo → (l : Listing) → P l
each_kind P c f t Children = c
each_kind P c f t BoundFrom = f
each_kind P c f t BoundTo = t

-- what is not found to stand alike doesn't
pub not_alike : {A : Type 0} (b : Bool) → (A → b ≡ true) → b ≡ false → A → ⊥
not_alike b finds is a = let yes_ = finds a in cc

-- the kinds are apart
pub children_from : Children ≢ BoundFrom
children_from e = cc

pub children_to : Children ≢ BoundTo
children_to e = cc

pub from_to : BoundFrom ≢ BoundTo
from_to e = cc

pub from_children : BoundFrom ≢ Children
from_children e = cc

pub to_children : BoundTo ≢ Children
to_children e = cc

pub to_from : BoundTo ≢ BoundFrom
to_from e = cc
