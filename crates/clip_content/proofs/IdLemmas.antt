-- New ids are ids.
use Rattle.std.proofs.Common.{◌≡◌, ℕ, ◌/◌, ◌<◌, ◌≤◌, true, false, ◌&&◌, cond, List, ◌++◌, append_assoc, length, Some, None, nat_le, refl, ap, ◌∙◌, arith}
use Rattle.std.specs.Prelude.{nat_lt, codes}
use Rattle.std.specs.List.{list_all}
use Rattle.std.specs.Option.{option_map_or}
use Rattle.std.specs.Str.{bytes_eq}
use Rattle.std.proofs.lemmas.Bool.{and_from, or_left}
use Rattle.std.proofs.lemmas.Bool.Decides.{nat_tests}
use Rattle.std.proofs.lemmas.List.{length-append}
use Rattle.std.proofs.lemmas.List.Folds.{list_all-append}
use Rattle.std.specs.Int.{is_in_range}
use Rattle.rooms_val.specs.Data.{Pairs}
use Rattle.record_valid.specs.Ids.{is_unique_byte, is_unique}
use Rattle.shape_tree.specs.Records.{is_shape, is_binding}
use Rattle.rooms_val.proofs.Truths.{and_left, and_right}
use Rattle.clip_content.specs.Pasted.{place_in, last_digit, four_digits, new_id}
use Rattle.room_model.specs.Clips.{is_prefix}
use Rattle.index_keys.proofs.KeyLemmas.{le_from_test, test_from_le}

in_digits : (b : ℕ) → 48 ≤ b → b ≤ 57 → is_in_range 48 57 b ≡ true
in_digits b low high = grind (arith, nat_tests)

digit_unique : (n : ℕ) → is_unique_byte (last_digit n) ≡ true
digit_unique n = or_left _ _ (or_left _ _ (or_left _ _ (in_digits (last_digit n) (omega arith) (omega arith))))

digits_unique : (n : ℕ) → list_all is_unique_byte (four_digits n) ≡ true
digits_unique n = and_from _ _ (digit_unique (n / 1000)) (and_from _ _ (digit_unique (n / 100)) (and_from _ _ (digit_unique (n / 10)) (and_from _ _ (digit_unique n) refl)))

test_from_lt : (m n : ℕ) → m < n → nat_lt m n ≡ true
test_from_lt m n enough = grind (arith, nat_tests)

unique_part : (prefix : List ℕ) (n : ℕ) → is_prefix prefix ≡ true → is_unique (prefix ++ four_digits n) ≡ true
unique_part prefix n is =
    let rest = and_right (nat_lt 0 (length prefix)) (nat_le (length prefix) 60 && list_all is_unique_byte prefix) is in
    let short = le_from_test (length prefix) 60 (and_left (nat_le (length prefix) 60) (list_all is_unique_byte prefix) rest) in
    let bytes = and_right (nat_le (length prefix) 60) (list_all is_unique_byte prefix) rest in
    let long = length-append prefix (four_digits n) in
    and_from _ _ (test_from_lt 0 (length (prefix ++ four_digits n)) (omega arith))
    (and_from _ _ (test_from_le (length (prefix ++ four_digits n)) 64 (omega arith))
    (list_all-append is_unique_byte prefix (four_digits n) ∙ and_from _ _ bytes (digits_unique n)))

shape_id : (part : List ℕ) → is_unique part ≡ true → is_shape (codes "shape:" ++ part) ≡ true
shape_id part is = ap (λ b. option_map_or (λ name. bytes_eq name (codes "shape")) (cond b (Some (codes "shape")) None) false) is

binding_id : (part : List ℕ) → is_unique part ≡ true → is_binding (codes "binding:" ++ part) ≡ true
binding_id part is = ap (λ b. option_map_or (λ name. bytes_eq name (codes "binding")) (cond b (Some (codes "binding")) None) false) is

module _ (prefix : List ℕ) (m : Pairs) (id : List ℕ) (is : is_prefix prefix ≡ true) where
  pub new_shape_id : is_shape (new_id (codes "shape:") prefix m id) ≡ true
  new_shape_id = ap is_shape (append_assoc (codes "shape:") prefix (four_digits (place_in m id))) ∙ shape_id (prefix ++ four_digits (place_in m id)) (unique_part prefix (place_in m id) is)

  pub new_binding_id : is_binding (new_id (codes "binding:") prefix m id) ≡ true
  new_binding_id = ap is_binding (append_assoc (codes "binding:") prefix (four_digits (place_in m id))) ∙ binding_id (prefix ++ four_digits (place_in m id)) (unique_part prefix (place_in m id) is)
