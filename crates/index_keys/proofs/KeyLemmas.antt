-- Valid keys, by the values of their digits.
use Rattle.std.proofs.Common.{◌≡◌, ◌≢◌, Bool, true, false, not, ◌&&◌, ℕ, ◌+◌, ◌-◌, ◌<◌, ◌≤◌, List, [], ◌∷◌, Option, Some, None, if◌then◌else◌, is_none, suc, zero, nat_eq, All, Bor, length, slice_index, drop, nat_le, refl, ap, sym, ◌∙◌, subst, arith}
use Rattle.std.proofs.Math.Utf8.{scalars}
use Rattle.std.proofs.lemmas.Bool.Decides.{nat_tests}
use Rattle.std.proofs.lemmas.List.{length-map, drop-map}
use Rattle.std.proofs.lemmas.List.Elements.{All-nil, All-cons, All-head, All-tail, All-drop}
use Rattle.std.proofs.lemmas.Str.{chars-encodes}
use Rattle.std.proofs.lemmas.Str.Ascii.{IsAscii-nil, IsAscii-cons, encodes-IsAscii}
use Rattle.std.specs.Char.{is_ascii_alphabetic, is_ascii_alphanumeric}
use Rattle.std.specs.Cmp.Lexicographic.{pointwise, same_text, other_text}
use Rattle.std.specs.List.{list_all, ends_with}
use Rattle.std.specs.Option.{option_copied}
use Rattle.std.specs.Str.{IsAscii, chars, bytes_eq}
use Rattle.index_keys.specs.Between.{width, fraction_part, smallest, is_key_or_none}
use Rattle.index_keys.specs.Digits.{value_of, digit_of, values_of, text_of}
use Rattle.index_keys.specs.Keys.{IsKey, integer_length, fraction_of, smallest_integer, has_head, has_whole_integer, has_digits, has_trailing_zero, is_smallest_integer, first_fault}
use Rattle.index_keys.specs.declared.fault.KeyFault.{KeyFault}
use Rattle.index_keys.specs.declared.fault.KeyFault.TheVariants.{BadHead, ShortInteger, BadDigit, TrailingZero, SmallestInteger}
use Rattle.index_keys.proofs.AlphabetLemmas.{value_of-below, value_of-letter, letter-digit, digit_of-value_of, digit-ascii, digit-scalar, width-value_of, value_of-digit_of, digit_of-digit, digit_of-letter, value_of-positive, digit_of-positive}
use Rattle.index_keys.proofs.FractionLemmas.{EndsAboveZero}

-- both of two tests
pub and_first : (a b : Bool) → (a && b) ≡ true → a ≡ true
and_first true b both = refl
and_first false b both = both

pub and_second : (a b : Bool) → (a && b) ≡ true → b ≡ true
and_second true b both = both
and_second false b both = cc

-- no fault is named: the test in front holds, and what comes after it names none
passed : (b : Bool) (fault : KeyFault) (rest : Option KeyFault) → is_none (if not b then Some fault else rest) ≡ true → (b ≡ true) × (is_none rest ≡ true)
passed true fault rest none_named = (refl, none_named)
passed false fault rest none_named = cc

-- the same, of a test that must not hold
avoided : (b : Bool) (fault : KeyFault) (rest : Option KeyFault) → is_none (if b then Some fault else rest) ≡ true → (b ≡ false) × (is_none rest ≡ true)
avoided true fault rest none_named = cc
avoided false fault rest none_named = (refl, none_named)

-- a text with no fault is a key
pub IsKey-from_no_fault : (key : List ℕ) → is_none (first_fault key) ≡ true → IsKey key
IsKey-from_no_fault key none_named =
    let integer_on : Option KeyFault = if not (has_whole_integer key) then Some ShortInteger else if not (has_digits key) then Some BadDigit else if has_trailing_zero key then Some TrailingZero else if is_smallest_integer key then Some SmallestInteger else None in
    let head = passed (has_head key) BadHead _ none_named in
    let integer = passed (has_whole_integer key) ShortInteger _ head.1 in
    let digits = passed (has_digits key) BadDigit _ integer.1 in
    let fraction = avoided (has_trailing_zero key) TrailingZero _ digits.1 in
    let above = avoided (is_smallest_integer key) SmallestInteger _ fraction.1 in
    record { head = head.0; integer = integer.0; digits = digits.0; fraction = fraction.0; above_smallest = above.0 }

-- each character of a key is a digit
pub key-digits : (key : List ℕ) → IsKey key → list_all is_ascii_alphanumeric key ≡ true
key-digits [] is = cc
key-digits (c ∷ cs) is = rw (letter-digit c is.head) is.digits

-- what holds of each holds of each from a place on
list_all-drop : (p : ℕ → Bool) (n : ℕ) (cs : List ℕ) → list_all p cs ≡ true → list_all p (drop n cs) ≡ true
list_all-drop p zero cs all = all
list_all-drop p (suc n) [] all = refl
list_all-drop p (suc n) (c ∷ cs) all = list_all-drop p n cs (and_second (p c) _ all)

-- digits are values below 62
pub values_of-below : (cs : List ℕ) → list_all is_ascii_alphanumeric cs ≡ true → All (λ v. v < 62) (values_of cs)
values_of-below [] are = All-nil (λ (v : ℕ). v < 62)
values_of-below (c ∷ cs) are = All-cons (λ (v : ℕ). v < 62) (value_of c) (values_of cs) (value_of-below c (and_first _ (list_all is_ascii_alphanumeric cs) are)) (values_of-below cs (and_second (is_ascii_alphanumeric c) _ are))

-- digits are the text of their values
pub text_of-values_of : (cs : List ℕ) → list_all is_ascii_alphanumeric cs ≡ true → text_of (values_of cs) ≡ cs
text_of-values_of [] are = refl
text_of-values_of (c ∷ cs) are = rw (digit_of-value_of c (and_first _ (list_all is_ascii_alphanumeric cs) are), text_of-values_of cs (and_second (is_ascii_alphanumeric c) _ are)) refl

-- digits are characters of one byte
digits-ascii : (cs : List ℕ) → list_all is_ascii_alphanumeric cs ≡ true → IsAscii cs
digits-ascii [] are = IsAscii-nil
digits-ascii (c ∷ cs) are = IsAscii-cons c cs (digit-ascii c (and_first _ (list_all is_ascii_alphanumeric cs) are)) (digits-ascii cs (and_second (is_ascii_alphanumeric c) _ are))

digits-scalars : (cs : List ℕ) → list_all is_ascii_alphanumeric cs ≡ true → scalars cs ≡ true
digits-scalars [] are = refl
digits-scalars (c ∷ cs) are = rw (digit-scalar c (and_first _ (list_all is_ascii_alphanumeric cs) are)) (digits-scalars cs (and_second (is_ascii_alphanumeric c) _ are))

pub chars-digits : (cs : List ℕ) → list_all is_ascii_alphanumeric cs ≡ true → chars cs ≡ cs
chars-digits cs are = ap chars (sym (encodes-IsAscii cs (digits-ascii cs are))) ∙ chars-encodes cs (digits-scalars cs are)

-- a number that a test found to be enough
pub le_from_test : (m n : ℕ) → nat_le m n ≡ true → m ≤ n
le_from_test m n test = grind (arith, nat_tests)

pub test_from_le : (m n : ℕ) → m ≤ n → nat_le m n ≡ true
test_from_le m n enough = grind (arith, nat_tests)

-- a text of digits that doesn't end in `0`, by their values, and back
one_less : (c d : ℕ) (ds : List ℕ) → length (c ∷ d ∷ ds) - 1 ≡ suc (length (d ∷ ds) - 1)
one_less c d ds = omega arith

ends_with-cons : (c d : ℕ) (ds : List ℕ) → ends_with nat_eq (c ∷ d ∷ ds) (48 ∷ []) ≡ ends_with nat_eq (d ∷ ds) (48 ∷ [])
ends_with-cons c d ds = ap (λ (n : ℕ). pointwise nat_eq (48 ∷ []) (drop n (c ∷ d ∷ ds))) (one_less c d ds)

EndsAboveZero-values_of : (cs : List ℕ) → list_all is_ascii_alphanumeric cs ≡ true → ends_with nat_eq cs (48 ∷ []) ≡ false → EndsAboveZero (values_of cs)
EndsAboveZero-values_of [] are no_zero = tt
EndsAboveZero-values_of (c ∷ []) are no_zero = (let above : 0 < value_of c = value_of-positive c (and_first _ true are) no_zero in omega arith, tt)
EndsAboveZero-values_of (c ∷ d ∷ ds) are no_zero =
    (omega arith, EndsAboveZero-values_of (d ∷ ds) (and_second (is_ascii_alphanumeric c) _ are) (sym (ends_with-cons c d ds) ∙ no_zero))

ends_with-text_of : (vs : List ℕ) → All (λ v. v < 62) vs → EndsAboveZero vs → ends_with nat_eq (text_of vs) (48 ∷ []) ≡ false
ends_with-text_of [] low ends = refl
ends_with-text_of (v ∷ []) low ends = digit_of-positive v (All-head (λ v. v < 62) v [] low) (let above : 0 < v + 0 = ends.0 in omega arith)
ends_with-text_of (v ∷ w ∷ ws) low ends = ends_with-cons (digit_of v) (digit_of w) (text_of ws) ∙ ends_with-text_of (w ∷ ws) (All-tail (λ v. v < 62) v (w ∷ ws) low) ends.1

-- digits of values are digits
digits-text_of : (vs : List ℕ) → All (λ v. v < 62) vs → list_all is_ascii_alphanumeric (text_of vs) ≡ true
digits-text_of [] low = refl
digits-text_of (v ∷ vs) low = rw (digit_of-digit v (All-head (λ v. v < 62) v vs low)) (digits-text_of vs (All-tail (λ v. v < 62) v vs low))

-- values below 62 are those of their digits
values_of-text_of : (vs : List ℕ) → All (λ v. v < 62) vs → values_of (text_of vs) ≡ vs
values_of-text_of [] low = refl
values_of-text_of (v ∷ vs) low = rw (value_of-digit_of v (All-head (λ v. v < 62) v vs low), values_of-text_of vs (All-tail (λ v. v < 62) v vs low)) refl

-- the values of a key's digits
pub record IsKeyOfValues (values : List ℕ) : Type 0 where
  pub head : 10 ≤ slice_index values 0
  pub whole : width (slice_index values 0) < length values
  pub digits : All (λ v. v < 62) values
  pub ends : EndsAboveZero (fraction_part values)
  pub not_smallest : values ≢ smallest

-- the smallest integer part, by values and as text
smallest-text : text_of smallest ≡ smallest_integer
smallest-text = refl

smallest-values : values_of smallest_integer ≡ smallest
smallest-values = refl

-- the fraction's values, by the key's
fraction-values : (c : ℕ) (cs : List ℕ) → is_ascii_alphabetic c ≡ true → values_of (fraction_of (c ∷ cs)) ≡ fraction_part (values_of (c ∷ cs))
fraction-values c cs letter =
    ap (λ (n : ℕ). values_of (drop n (c ∷ cs))) (width-value_of c letter) ∙ sym (drop-map value_of (width (value_of c) + 1) (c ∷ cs))

pub IsKeyOfValues-key : (key : List ℕ) → IsKey key → IsKeyOfValues (values_of key)
IsKeyOfValues-key [] is = cc
IsKeyOfValues-key (c ∷ cs) is =
    let are = key-digits (c ∷ cs) is in
    let integer : width (value_of c) + 1 ≤ length (c ∷ cs) = le_from_test _ _ (rw (sym (width-value_of c is.head), sym (ap length (chars-digits (c ∷ cs) are))) is.integer) in
    record {
      head = value_of-letter c is.head;
      whole = simp length-map (omega arith);
      digits = values_of-below (c ∷ cs) are;
      ends = subst EndsAboveZero (fraction-values c cs is.head) (EndsAboveZero-values_of (fraction_of (c ∷ cs)) (list_all-drop is_ascii_alphanumeric (integer_length c) (c ∷ cs) are) is.fraction);
      not_smallest = λ (same : values_of (c ∷ cs) ≡ smallest).
          let text : c ∷ cs ≡ smallest_integer = sym (text_of-values_of (c ∷ cs) are) ∙ (ap text_of same ∙ smallest-text) in
          other_text (c ∷ cs) smallest_integer (sym is.above_smallest) text;
    }

-- a test that doesn't hold
not_true : (b : Bool) → b ≢ true → b ≡ false
not_true true other = absurd (other refl)
not_true false other = refl

pub IsKey-text_of : (values : List ℕ) → IsKeyOfValues values → IsKey (text_of values)
IsKey-text_of [] is = absurd (let none_there : 10 ≤ 0 = is.head in omega arith)
IsKey-text_of (v ∷ vs) is =
    let low : v < 62 = All-head (λ v. v < 62) v vs is.digits in
    let letter : is_ascii_alphabetic (digit_of v) ≡ true = digit_of-letter v is.head low in
    let are : list_all is_ascii_alphanumeric (text_of (v ∷ vs)) ≡ true = digits-text_of (v ∷ vs) is.digits in
    let back : values_of (text_of (v ∷ vs)) ≡ v ∷ vs = values_of-text_of (v ∷ vs) is.digits in
    let needs : integer_length (digit_of v) ≡ width v + 1 = width-value_of (digit_of v) letter ∙ ap (λ (n : ℕ). width n + 1) (value_of-digit_of v low) in
    record {
      head = letter;
      integer = test_from_le _ _ (rw (needs, ap length (chars-digits (text_of (v ∷ vs)) are), length-map) (let whole : width v < length (v ∷ vs) = is.whole in omega arith));
      digits = digits-text_of vs (All-tail (λ v. v < 62) v vs is.digits);
      fraction = ap (λ (n : ℕ). ends_with nat_eq (drop n (text_of (v ∷ vs))) (48 ∷ [])) needs ∙ (ap (λ (f : List ℕ). ends_with nat_eq f (48 ∷ [])) (drop-map digit_of (width v + 1) (v ∷ vs)) ∙ ends_with-text_of (fraction_part (v ∷ vs)) (All-drop (λ v. v < 62) (width v + 1) (v ∷ vs) is.digits) is.ends);
      above_smallest = not_true (bytes_eq (text_of (v ∷ vs)) smallest_integer) (λ same. is.not_smallest (sym back ∙ (ap values_of (same_text (text_of (v ∷ vs)) smallest_integer (sym same)) ∙ smallest-values)));
    }

-- the digits of an end that is a key are as many as its head needs
pub whole-given : (end : Option (Bor (List ℕ))) (key : Bor (List ℕ)) (values : List ℕ) → end ≡ Some key → is_key_or_none (option_copied end) ≡ true → values ≡ values_of key.now → width (slice_index values 0) < length values
whole-given end key values given is_key same =
    let tested : is_key_or_none (option_copied (Some key)) ≡ true = subst (λ (e : Option (Bor (List ℕ))). is_key_or_none (option_copied e) ≡ true) given is_key in
    subst (λ (vs : List ℕ). width (slice_index vs 0) < length vs) (sym same) (IsKeyOfValues-key key.now (IsKey-from_no_fault key.now tested)).whole
