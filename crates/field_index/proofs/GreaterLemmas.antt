-- The places with a greater whole number are among those of a range.
use Rattle.std.proofs.Common.{◌≡◌, ℕ, List, [], ◌∷◌, Bool, true, false, ◌||◌, ◌&&◌, not, cond, map, Ordering, Less, Equal, Greater, refl, sym, ap, ◌∙◌, ℤ, arith}
use Rattle.std.specs.Prelude.{filter, int_lt}
use Rattle.std.specs.BTreeMap.Range.{range_contains}
use Rattle.std.specs.Ordering.{is_le, int_cmp, ordering_then}
use Rattle.std.specs.declared.ops.Bound.TheVariants.{Included, Excluded}
use Rattle.std.specs.Int.{saturate_signed, w64}
use Rattle.std.proofs.Common.{◌+ℤ◌, pos, FitsSigned}
use Rattle.std.proofs.lemmas.Int.{ints}
use Rattle.rooms_val.specs.Data.{Data, null, boolean, whole, text, list, map as map_data}
use Rattle.rooms_val.specs.Maps.{order, ties}
use Rattle.rooms_val.specs.Order.{data_cmp}
use Rattle.rooms_val.specs.View.{data_of}
use Rattle.rooms_val.specs.declared.val.Val.TheVariants as v
use Rattle.rooms_val.proofs.MapsLemmas.{ties_flip}
use Rattle.field_index.specs.declared.place.Place.{Place}
use Rattle.field_index.specs.Index.{is_greater}
use Rattle.field_index.specs.Places.{place_at, place_order}
use Rattle.field_index.proofs.AnswerLemmas.{has, ids_at, filter_within, least_id}

-- what is greater than a number is at least the next one, or the greatest one where there is no next
pub next_reached : (number least z : ℤ) → least ≡ saturate_signed w64 (number +ℤ pos 1) → FitsSigned w64 number → int_lt number z ≡ true → int_cmp least z ≡ Greater → ⊥
next_reached number least z is fits below above = grind (arith, ints)

pub or_false : (b : Bool) → (b || false) ≡ b
or_false true = refl
or_false false = refl

module _ (number least : ℤ) (reached : (z : ℤ) → int_lt number z ≡ true → int_cmp least z ≡ Greater → ⊥) where
  -- whether a place is in the range: from the least number on, and before each text
  abbrev pub is_ranged : Place → Bool
  is_ranged = range_contains place_order (Included (place_at (v.Int least) [])) (Excluded (place_at (v.Text []) []))

  in_range : (d : Data) (id : List ℕ) → is_greater number d ≡ true
      → (is_le (ordering_then (data_cmp (whole least) d) (order [] id)) && not (is_le (ordering_then (data_cmp (text []) d) (order [] id)))) ≡ true
  in_range null id is = cc
  in_range (boolean b) id is = cc
  in_range (whole z) id is =
      elim (int_cmp least z) as (λ o. (o ≡ Greater → ⊥) → (is_le (ordering_then o (order [] id)) && true) ≡ true) [
        | Less ↦ λ within. refl
        | Equal ↦ λ within. ap (λ b. b && true) (least_id id)
        | Greater ↦ λ within. absurd (within refl)
      ] (reached z is)
  in_range (text s) id is = cc
  in_range (list ds) id is = cc
  in_range (map_data ms) id is = cc

  pub ids_in_range : (ks : List Place) → ids_at (is_greater number) (filter is_ranged ks) ≡ ids_at (is_greater number) ks
  ids_in_range ks = ap (map (λ (p : Place). p.id)) (filter_within (λ p. is_greater number (data_of p.value)) is_ranged (λ p is. in_range (data_of p.value) p.id is) ks)

moved : (t a b : Bool) → (cond t true a || b) ≡ (a || (t || b))
moved true true b = refl
moved true false b = refl
moved false a b = refl

-- a walk over places adds one more id to a set, or none
module _ (test : Data → Bool) (p : Place) (rest : List Place) (q : List ℕ) (old : List (List ℕ)) where
  pub adds_one : (new : List (List ℕ)) → test (data_of p.value) ≡ true → has new q ≡ cond (ties p.id q) true (has old q) → (has new q || has (ids_at test rest) q) ≡ (has old q || has (ids_at test (p ∷ rest)) q)
  adds_one new passes adds =
      ap (λ b. b || has (ids_at test rest) q) (adds ∙ ap (λ t. cond t true (has old q)) (ties_flip p.id q))
      ∙ moved (ties q p.id) (has old q) (has (ids_at test rest) q)
      ∙ ap (λ b. has old q || has (map (λ (p : Place). p.id) (cond b (p ∷ filter (λ p. test (data_of p.value)) rest) (filter (λ p. test (data_of p.value)) rest))) q) (sym passes)

  pub adds_none : test (data_of p.value) ≡ false → (has old q || has (ids_at test rest) q) ≡ (has old q || has (ids_at test (p ∷ rest)) q)
  adds_none fails = ap (λ b. has old q || has (map (λ (p : Place). p.id) (cond b (p ∷ filter (λ p. test (data_of p.value)) rest) (filter (λ p. test (data_of p.value)) rest))) q) (sym fails)
