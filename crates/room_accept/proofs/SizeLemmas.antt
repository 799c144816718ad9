-- How large a document is after one of its records becomes another.
use Rattle.std.proofs.Common.{◌≡◌, ℕ, ◌+◌, ◌-◌, ◌≤◌, ◌^◌, min, nat_le, Bool, true, false, ◌&&◌, not, cond, is_eq, List, [], ◌∷◌, length, map, sum, Option, Some, None, Less, Equal, Greater, refl, sym, ap, ◌∙◌, arith}
use Rattle.std.specs.FinMap.Entries.{by_order}
use Rattle.std.proofs.lemmas.Bool.Decides.{nat_tests}
use Rattle.std.proofs.lemmas.List.Sums.{sum_by-cons}
use Rattle.rooms_val.specs.Data.{Data, Pairs}
use Rattle.rooms_val.specs.Maps.{order, ties, AreRising, value_at, with_key, without_key, set_at}
use Rattle.rooms_val.specs.Weight.{weight}
use Rattle.rooms_val.proofs.MapsLemmas.{ties_same, by_tie, none_later, rising_rest, rising-set_at, at-set_at, same_pairs, taken_lower, without_absent}
use Rattle.room_model.specs.Schemas.{records_with}
use Rattle.rooms_val.proofs.Truths.{and_left, and_right}
use Rattle.room_model.proofs.LookUpLemmas.{at-filter, rising-filter}
use Rattle.room_accept.specs.Measures.{count_of, weight_of}
use Rattle.room_accept.specs.Sizes.{size_of, size_after, is_within}
use Rattle.room_accept.specs.declared.size.DocumentSize.{DocumentSize}

-- what a record that may be there adds to a total
abbrev pub adds : (Data → ℕ) → Option Data → ℕ
adds f None = 0
adds f (Some d) = f d

-- a total of what each record adds
pub record IsTotal (f : Data → ℕ) (total : Pairs → ℕ) : Type 0 where
  pub none : total [] ≡ 0
  pub more : (e : List ℕ × Data) (es : Pairs) → total (e ∷ es) ≡ f e.1 + total es

module _ (f : Data → ℕ) (total : Pairs → ℕ) (is : IsTotal f total) where
  total-without : (es : Pairs) (k : List ℕ) → AreRising es → total (without_key es k) + adds f (value_at es k) ≡ total es
  total-without [] k rising = omega arith
  total-without (e ∷ es) k rising =
      elim (ties k e.0) as (λ b. ties k e.0 ≡ b → total (cond (not b) (e ∷ without_key es k) (without_key es k)) + adds f (cond b (Some e.1) (value_at es k)) ≡ total (e ∷ es)) [
        | true ↦ λ same.
            let gone : without_key es k ≡ es = without_absent es k (ap (value_at es) (ties_same k e.0 same) ∙ none_later e es rising) in
            rw gone (omega (arith, is.more e es))
        | false ↦ λ apart. omega (arith, is.more e es, is.more e (without_key es k), total-without es k (rising_rest e es rising))
      ] refl

  total-with : (es : Pairs) (k : List ℕ) (d : Data) → AreRising es → total (with_key es k d) + adds f (value_at es k) ≡ total es + f d
  total-with [] k d rising = omega (arith, is.none, is.more (k, d) [])
  total-with (e ∷ es) k d rising =
      elim (order k e.0) as (λ o. order k e.0 ≡ o → total (by_order o ((k, d) ∷ e ∷ es) ((e.0, d) ∷ es) (e ∷ with_key es k d)) + adds f (cond (is_eq o) (Some e.1) (value_at es k)) ≡ total (e ∷ es) + f d) [
        | Less ↦ λ lower.
            let absent : value_at es k ≡ None = sym (ap (λ o. cond (is_eq o) (Some e.1) (value_at es k)) lower) ∙ sym (taken_lower k e es rising lower).found_is in
            rw absent (omega (arith, is.more (k, d) (e ∷ es)))
        | Equal ↦ λ same. omega (arith, is.more e es, is.more (e.0, d) es)
        | Greater ↦ λ above. omega (arith, is.more e es, is.more e (with_key es k d), total-with es k d (rising_rest e es rising))
      ] refl

  -- what was there is taken back, and what is there then is added
  pub total-set_at : (es : Pairs) (k : List ℕ) (o : Option Data) → AreRising es → total (set_at es k o) + adds f (value_at es k) ≡ total es + adds f o
  total-set_at es k None rising = omega (arith, total-without es k rising)
  total-set_at es k (Some d) rising = total-with es k d rising

  -- what is there is a part of the total
  pub is_part : (es : Pairs) (k : List ℕ) → AreRising es → adds f (value_at es k) ≤ total es
  is_part es k rising = omega (arith, total-without es k rising)

  pub total-after : (es : Pairs) (k : List ℕ) (o : Option Data) → AreRising es → total (set_at es k o) ≡ (total es - adds f (value_at es k)) + adds f o
  total-after es k o rising = omega (arith, total-set_at es k o rising, is_part es k rising)

pub length_total : IsTotal (λ d. 1) length
length_total = record { none = refl; more = λ e es. omega arith }

pub weight_total : IsTotal weight (λ es. sum (map (λ p. weight p.1) es))
weight_total = record { none = refl; more = λ e es. sum_by-cons (λ x. x) (weight e.1) (map (λ p. weight p.1) es) }

-- maps that are the same where a test passes have the same records that pass it
pub same_records : (test : List ℕ → Bool) (m n : Pairs) → AreRising m → AreRising n → ((q : List ℕ) → test q ≡ true → value_at m q ≡ value_at n q) → records_with test m ≡ records_with test n
same_records test m n m-rises n-rises same =
    same_pairs _ _ (rising-filter test m m-rises) (rising-filter test n n-rises) (λ q.
    at-filter test m q
    ∙ elim (test q) as (λ b. test q ≡ b → cond b (value_at m q) None ≡ cond b (value_at n q) None) [ true ↦ λ is. same q is | false ↦ λ is. refl ] refl
    ∙ sym (at-filter test n q))

-- what passes a test changes as the map does, at an id that passes it
pub records-set_at : (test : List ℕ → Bool) (m : Pairs) (id : List ℕ) (o : Option Data) → AreRising m → test id ≡ true → records_with test (set_at m id o) ≡ set_at (records_with test m) id o
records-set_at test m id o rising passes =
    same_pairs _ _ (rising-filter test (set_at m id o) (rising-set_at m id o rising)) (rising-set_at (records_with test m) id o (rising-filter test m rising)) (λ q.
    at-filter test (set_at m id o) q
    ∙ ap (λ r. cond (test q) r None) (at-set_at m id q o)
    ∙ by_tie (λ t. cond (test q) (cond t o (value_at m q)) None ≡ cond t o (cond (test q) (value_at m q) None)) q id
    (λ same. ap (λ b. cond b o None) (ap test same ∙ passes)) refl
    ∙ ap (cond (ties q id) o) (sym (at-filter test m q))
    ∙ sym (at-set_at (records_with test m) id q o))

pub records_at : (test : List ℕ → Bool) (m : Pairs) (id : List ℕ) → test id ≡ true → value_at (records_with test m) id ≡ value_at m id
records_at test m id passes = at-filter test m id ∙ ap (λ b. cond b (value_at m id) None) passes

held_adds : (o : Option Data) → count_of o ≡ adds (λ d. 1) o
held_adds None = refl
held_adds (Some d) = refl

weight_adds : (o : Option Data) → weight_of o ≡ adds weight o
weight_adds None = refl
weight_adds (Some d) = refl

module _ (test : List ℕ → Bool) (m : Pairs) (id : List ℕ) (o : Option Data) (rising : AreRising m) (passes : test id ≡ true) where
  after_total : (f : Data → ℕ) (total : Pairs → ℕ) → IsTotal f total → total (records_with test (set_at m id o)) ≡ (total (records_with test m) - adds f (value_at m id)) + adds f o
  after_total f total is =
      ap total (records-set_at test m id o rising passes)
      ∙ total-after f total is (records_with test m) id o (rising-filter test m rising)
      ∙ ap (λ r. (total (records_with test m) - adds f r) + adds f o) (records_at test m id passes)

  -- how large a document is after one of its records becomes another
  pub size-set_at : size_of test (set_at m id o) ≡ size_after (size_of test m) (value_at m id) o
  size-set_at = λ i. record {
    count = (after_total (λ d. 1) length length_total ∙ (λ j. (length (records_with test m) - sym (held_adds (value_at m id)) j) + sym (held_adds o) j)) i;
    weight = (after_total weight (λ es. sum (map (λ p. weight p.1) es)) weight_total ∙ (λ j. (sum (map (λ p. weight p.1) (records_with test m)) - sym (weight_adds (value_at m id)) j) + sym (weight_adds o) j)) i;
  }

-- a number that is clamped at the greatest is within a limit as it is itself
within_held : (n most : ℕ) → most ≤ 2 ^ 64 - 2 → nat_le (min n (2 ^ 64 - 1)) most ≡ nat_le n most
within_held n most low = grind (arith, nat_tests)

-- so is a size whose numbers are clamped
pub within_same : (size clamped : DocumentSize) → clamped.count ≡ min size.count (2 ^ 64 - 1) → clamped.weight ≡ min size.weight (2 ^ 64 - 1) → is_within clamped ≡ is_within size
within_same size clamped count weight =
    (λ i. nat_le (count i) 16384 && nat_le (weight i) 2097152) ∙ (λ i. within_held size.count 16384 (omega arith) i && within_held size.weight 2097152 (omega arith) i)

exact : (n h most : ℕ) → h ≡ min n (2 ^ 64 - 1) → most ≤ 2 ^ 64 - 2 → nat_le h most ≡ true → h ≡ n
exact n h most is low within = grind (arith, nat_tests)

-- and a clamped size within the limits is the size itself
pub exact_within : (size clamped : DocumentSize) → clamped.count ≡ min size.count (2 ^ 64 - 1) → clamped.weight ≡ min size.weight (2 ^ 64 - 1) → is_within clamped ≡ true → clamped ≡ size
exact_within size clamped count weight within =
    let few : clamped.count ≡ size.count = exact size.count clamped.count 16384 count (omega arith) (and_left _ _ within) in
    let light : clamped.weight ≡ size.weight = exact size.weight clamped.weight 2097152 weight (omega arith) (and_right _ _ within) in
    λ i. record { count = few i; weight = light i }
