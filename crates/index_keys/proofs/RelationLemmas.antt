-- What `between` gives is between the ends: the same of texts.
use Rattle.std.proofs.Common.{◌≡◌, Bool, true, false, not, ◌&&◌, ℕ, ◌<◌, List, [], ◌∷◌, Option, Some, None, Ok, Err, if◌then◌else◌, IfSome, IfOk, All, nat_lt, length, refl, sym, subst}
use Rattle.std.proofs.lemmas.List.Elements.{All-nil, All-cons}
use Rattle.std.specs.Char.{is_ascii_alphanumeric}
use Rattle.std.specs.List.{list_all}
use Rattle.std.specs.Option.{option_map}
use Rattle.index_keys.specs.Between.{is_key_or_none, is_less_or_open, text_that_fits, values_between, between}
use Rattle.index_keys.specs.Digits.{value_of, digit_of, values_of, text_of}
use Rattle.index_keys.specs.Keys.{IsKey}
use Rattle.index_keys.specs.Order.{is_less, IsBetween}
use Rattle.index_keys.specs.declared.fault.BetweenFault.TheVariants.{NotKey, NotLess, KeyTooLong}
use Rattle.index_keys.proofs.AlphabetLemmas.{value_of-rises, digit_of-rises}
use Rattle.index_keys.proofs.BetweenLemmas.{IsBetweenValues, AreInOrder, values_between-IsBetween}
use Rattle.index_keys.proofs.KeyLemmas.{and_first, and_second, key-digits, text_of-values_of, values_of-below, IsKey-from_no_fault, IsKeyOfValues, IsKeyOfValues-key, IsKey-text_of}
use Rattle.index_keys.proofs.OrderLemmas.{Below, Below-map, Below-from_test, test-from_Below}

-- each passes the test
all_pass : (p : ℕ → Bool) (xs : List ℕ) → list_all p xs ≡ true → All (λ x. p x ≡ true) xs
all_pass p [] all = All-nil (λ (x : ℕ). p x ≡ true)
all_pass p (x ∷ xs) all = All-cons (λ x. p x ≡ true) x xs (and_first (p x) (list_all p xs) all) (all_pass p xs (and_second (p x) _ all))

-- of keys the values rise as the texts do
Below-values_of : (first second : List ℕ) → IsKey first → IsKey second → is_less first second ≡ true → Below (values_of first) (values_of second)
Below-values_of first second first_is second_is less =
    Below-map value_of (λ c. is_ascii_alphanumeric c ≡ true) (λ c d c_is d_is rise. value_of-rises c d c_is d_is rise) first second (all_pass is_ascii_alphanumeric first (key-digits first first_is)) (all_pass is_ascii_alphanumeric second (key-digits second second_is)) (Below-from_test first second less)

-- and the texts as the values do
less-text_of : (first second : List ℕ) → All (λ v. v < 62) first → All (λ v. v < 62) second → Below first second → is_less (text_of first) (text_of second) ≡ true
less-text_of first second first_low second_low below =
    test-from_Below (text_of first) (text_of second) (Below-map digit_of (λ v. v < 62) (λ v w v_low w_low rise. digit_of-rises v w rise w_low) first second first_low second_low below)

-- a text is that of its values
text_back : (key : List ℕ) → IsKey key → text_of (values_of key) ≡ key
text_back key is = text_of-values_of key (key-digits key is)

-- what the tests of the ends tell
end_is : (end : Option (List ℕ)) → is_key_or_none end ≡ true → IfSome end IsKey
end_is None tested = tt
end_is (Some key) tested = IsKey-from_no_fault key tested

end_values : (end : Option (List ℕ)) → IfSome end IsKey → IfSome (option_map values_of end) IsKeyOfValues
end_values None is = tt
end_values (Some key) is = IsKeyOfValues-key key is

ends_in_order : (below above : Option (List ℕ)) → IfSome below IsKey → IfSome above IsKey → is_less_or_open below above ≡ true → AreInOrder (option_map values_of below) (option_map values_of above)
ends_in_order None above below_is above_is tested = tt
ends_in_order (Some below) None below_is above_is tested = tt
ends_in_order (Some below) (Some above) below_is above_is tested = Below-values_of below above below_is above_is tested

-- the values of what is given lie between those of the ends
pub values_between-given : (below above : Option (List ℕ)) → is_key_or_none below ≡ true → is_key_or_none above ≡ true → is_less_or_open below above ≡ true → IfSome (values_between (option_map values_of below) (option_map values_of above)) (IsBetweenValues (option_map values_of below) (option_map values_of above))
values_between-given below above below_tested above_tested order =
    let below_is = end_is below below_tested in
    let above_is = end_is above above_tested in
    values_between-IsBetween (option_map values_of below) (option_map values_of above) (end_values below below_is) (end_values above above_is) (ends_in_order below above below_is above_is order)

-- what lies between the values lies between the texts
text-IsBetween : (below above : Option (List ℕ)) → IfSome below IsKey → IfSome above IsKey → (values : List ℕ) → IsBetweenValues (option_map values_of below) (option_map values_of above) values → IsBetween below above (text_of values)
text-IsBetween below above below_is above_is values found = record {
  valid = IsKey-text_of values found.key;
  from_below = over below below_is found.from_below;
  to_above = under above above_is found.to_above;
}
  where
    over : (end : Option (List ℕ)) → IfSome end IsKey → IfSome (option_map values_of end) (λ e. Below e values) → IfSome end (λ e. is_less e (text_of values) ≡ true)
    over None is order = tt
    over (Some key) is order = subst (λ (k : List ℕ). is_less k (text_of values) ≡ true) (text_back key is) (less-text_of (values_of key) values (values_of-below key (key-digits key is)) found.key.digits order)

    under : (end : Option (List ℕ)) → IfSome end IsKey → IfSome (option_map values_of end) (λ e. Below values e) → IfSome end (λ e. is_less (text_of values) e ≡ true)
    under None is order = tt
    under (Some key) is order = subst (λ (k : List ℕ). is_less (text_of values) k ≡ true) (text_back key is) (less-text_of values (values_of key) found.key.digits (values_of-below key (key-digits key is)) order)

-- an answer that fits is the text of the values
fitting : (below above : Option (List ℕ)) → IfSome below IsKey → IfSome above IsKey → (values : Option (List ℕ)) → IfSome values (IsBetweenValues (option_map values_of below) (option_map values_of above)) → IfOk (text_that_fits values) (IsBetween below above)
fitting below above below_is above_is None found = tt
fitting below above below_is above_is (Some values) found = within (nat_lt 256 (length values))
  where
    within : (long : Bool) → IfOk (if long then Err KeyTooLong else Ok (text_of values)) (IsBetween below above)
    within true = tt
    within false = text-IsBetween below above below_is above_is values found

-- what `between` answers is between the ends
pub between-IsBetween : (below above : Option (List ℕ)) → IfOk (between below above) (IsBetween below above)
unfolding between
between-IsBetween below above = by_tests (is_key_or_none below && is_key_or_none above) (is_less_or_open below above) refl refl
  where
    by_tests : (keys order : Bool) → keys ≡ (is_key_or_none below && is_key_or_none above) → order ≡ is_less_or_open below above → IfOk (if not keys then Err NotKey else if not order then Err NotLess else text_that_fits (values_between (option_map values_of below) (option_map values_of above))) (IsBetween below above)
    by_tests false order keys_are order_is = tt
    by_tests true false keys_are order_is = tt
    by_tests true true keys_are order_is =
        let below_tested = and_first (is_key_or_none below) (is_key_or_none above) (sym keys_are) in
        let above_tested = and_second (is_key_or_none below) (is_key_or_none above) (sym keys_are) in
        fitting below above (end_is below below_tested) (end_is above above_tested) (values_between (option_map values_of below) (option_map values_of above)) (values_between-given below above below_tested above_tested (sym order_is))

-- what is given has values below 62
pub given-digits : (below above : Option (List ℕ)) → is_key_or_none below ≡ true → is_key_or_none above ≡ true → is_less_or_open below above ≡ true → (values : List ℕ) → values_between (option_map values_of below) (option_map values_of above) ≡ Some values → All (λ v. v < 62) values
given-digits below above below_tested above_tested order values given =
    let found : IfSome (Some values) (IsBetweenValues (option_map values_of below) (option_map values_of above)) = subst (λ (made : Option (List ℕ)). IfSome made (IsBetweenValues (option_map values_of below) (option_map values_of above))) given (values_between-given below above below_tested above_tested order) in
    found.key.digits
