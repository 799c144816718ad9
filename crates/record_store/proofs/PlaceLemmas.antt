-- A place that is found by halves.
use Rattle.std.proofs.Common.{◌≡◌, ℕ, ◌+◌, ◌<◌, ◌≤◌, List, length, get_or, Bool, true, false, Option, Some, sym, ap, ◌∙◌, arith, true≢false}
use Rattle.std.specs.List.{slice_get, AllWithin}
use Rattle.std.specs.List.Sorted.{IsPartitionedBy, IsPartitionPoint}
use Rattle.std.proofs.lemmas.Option.{get_or_from_slice_get}
use Rattle.rooms_val.specs.Data.{Data, Pairs}
use Rattle.rooms_val.specs.Maps.{value_at}
use Rattle.tl_rules.specs.declared.listing.Listing.{Listing}
use Rattle.tl_rules.specs.Listings.{stands_before, is_before}
use Rattle.record_store.specs.Lists.{place_at}

module _ {X : Type 0} (p : X → Bool) (xs : List X) where
  -- the place is between two others, if it is to be found at all
  pub record IsBetween (low high : ℕ) : Type 0 where
    pub order : low ≤ high
    pub within : high ≤ length xs
    pub before : IsPartitionedBy p xs → AllWithin (λ x. p x ≡ true) xs 0 low
    pub after : IsPartitionedBy p xs → AllWithin (λ x. p x ≡ false) xs high (length xs)

  pub starts : IsBetween 0 (length xs)
  starts = record { order = omega arith; within = omega arith; before = λ parted k d least most. absurd (omega arith); after = λ parted k d least most. absurd (omega arith) }

  module _ (low high : ℕ) (between : IsBetween low high) where
    -- so it is found
    pub found_place : high ≤ low → IsPartitionedBy p xs → IsPartitionPoint (λ x. p x ≡ true) (λ x. p x ≡ false) xs low
    found_place none parted =
        let order = between.order in
        (between.before parted, λ k d least most. between.after parted k d (omega arith) most)

    module _ (middle : ℕ) (x : X) (there : Some x ≡ slice_get xs middle) (least : low ≤ middle) (most : middle < high) where
      pub goes_up : true ≡ p x → IsBetween (middle + 1) high
      goes_up passes =
          let within = between.within in
          record {
            order = omega arith;
            within = within;
            before = λ parted k d first last. parted k middle d (omega arith) (omega arith) (ap p (get_or_from_slice_get xs middle x d (sym there)) ∙ sym passes);
            after = between.after;
          }

      stays_false : (k : ℕ) (d : X) → IsPartitionedBy p xs → middle ≤ k → k < length xs → false ≡ p x → (b : Bool) → p (get_or xs k d) ≡ b → b ≡ false
      stays_false k d parted first last fails false is = λ i. false
      stays_false k d parted first last fails true is =
          absurd (true≢false (sym (parted middle k d first last is) ∙ ap p (get_or_from_slice_get xs middle x d (sym there)) ∙ sym fails))

      pub goes_down : false ≡ p x → IsBetween low middle
      goes_down fails =
          let within = between.within in
          record {
            order = least;
            within = omega arith;
            before = between.before;
            after = λ parted k d first last. stays_false k d parted first last fails (p (get_or xs k d)) (λ i. p (get_or xs k d));
          }

-- the test of an id, whose record was looked up
pub tested : (l : Listing) (m : Pairs) (index id : List ℕ) (r : Bool) (found : Option Data) (looked named x : List ℕ) → looked ≡ x → named ≡ x → found ≡ value_at m looked
    → r ≡ stands_before l named found (place_at index id) → r ≡ is_before l m (place_at index id) x
tested l m index id r found looked named x looked_is named_is there is =
    is ∙ λ i. stands_before l (named_is i) ((there ∙ ap (value_at m) looked_is) i) (place_at index id)
