-- What the laws say of one list, each the contract of a function of `list_laws.rt`.
use Rattle.std.specs.Prelude.{◌≡◌, ℕ, ◌<◌, List, length, true, false, slice_index_or}
use Rattle.std.specs.List.{remove}
use Rattle.std.specs.List.Sorted.{IsPartitionPoint}
use Rattle.rooms_val.specs.Data.{Pairs}
use Rattle.shape_tree.specs.Trees.{Sibling}
use Rattle.tl_rules.specs.declared.listing.Listing.{Listing}
use Rattle.tl_rules.specs.Listings.{is_before}

-- so many of the ids stand before a place, and those after them don't
abbrev pub IsPlaceAmong : Listing → Pairs → Sibling → List (List ℕ) → ℕ → Type 0
IsPlaceAmong l m place = IsPartitionPoint (λ x. is_before l m place x ≡ true) (λ x. is_before l m place x ≡ false)

-- the id stands at a place among some ids, and the others are left without it
pub record IsTakenOut (id : List ℕ) (n : ℕ) (all rest : List (List ℕ)) : Type 0 where
  pub within : n < length all
  pub item : (d : List ℕ) → slice_index_or all n d ≡ id
  pub rest_is : rest ≡ remove all n
