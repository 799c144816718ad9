-- Runs, one after another; and that the value of a key is the outcome of its run.
use Rattle.std.proofs.Common.{◌≡◌, ◌<◌, ◌≤◌, List, [], ◌∷◌, ◌++◌, length, map, take, drop, get_or, refl, sym, ◌∙◌, ap, subst, arith, append_assoc}
use Rattle.std.proofs.lemmas.List.{append-nil}
use Rattle.signal_rules.specs.declared.rules.Ask.TheVariants.{Need, Done}
use Rattle.signal_rules.specs.Meaning.{Meaning, IsLawful}
use Rattle.signal_rules.specs.Values.{value, HasValue, HasAsked}
use Rattle.signal_rules.specs.Values.HasValue.{atom, ran}
use Rattle.signal_rules.specs.Values.HasAsked.{start, next as one_more}
use Rattle.signal_rules.proofs.ValueLemmas.{has_value, value_is}
use Rattle.tl_rules.specs.Plans.{Plan, ends, asks, Place, needs, ended, place_after, asked, outcome, chain, values_of}

-- where a run is, after the run before it came to a place
abbrev pub go_on : {K V A B : Type 0} → Place K V A → (A → Plan K V B) → Place K V B
go_on (needs key) next = needs key
go_on (ended a got) next = place_after (next a) got

pub place-chain : {K V A B : Type 0} (plan : Plan K V A) (next : A → Plan K V B) (got : List V) → place_after (chain plan next) got ≡ go_on (place_after plan got) next
place-chain (ends a) next got = refl
place-chain (asks key go) next [] = refl
place-chain (asks key go) next (v ∷ got) = place-chain (go v) next got

pub outcome-chain : {K V A B : Type 0} (value_of : K → V) (plan : Plan K V A) (next : A → Plan K V B) → outcome value_of (chain plan next) ≡ outcome value_of (next (outcome value_of plan))
outcome-chain value_of (ends a) next = refl
outcome-chain value_of (asks key go) next = outcome-chain value_of (go (value_of key)) next

module _ {K V X : Type 0} (key_of : X → K) where
  pub outcome-values : (value_of : K → V) (xs : List X) → outcome value_of (values_of key_of xs) ≡ map (λ x. value_of (key_of x)) xs
  outcome-values value_of [] = refl
  outcome-values value_of (x ∷ xs) =
      outcome-chain value_of (values_of key_of xs) (λ vs. ends (value_of (key_of x) ∷ vs)) ∙ ap (λ vs. value_of (key_of x) ∷ vs) (outcome-values value_of xs)

  -- with fewer values than keys the next key is needed
  pub values_needed : (xs : List X) (got : List V) (d : X) → length got < length xs → place_after (values_of key_of xs) got ≡ needs (key_of (get_or xs (length got) d))
  values_needed [] got d few = absurd (omega arith)
  values_needed (x ∷ xs) [] d few = refl
  values_needed (x ∷ xs) (v ∷ got) d few =
      place-chain (values_of key_of xs) (λ vs. ends (v ∷ vs)) got ∙ ap (λ p. go_on p (λ vs. ends (v ∷ vs))) (values_needed xs got d (omega arith))

  -- with as many or more it has ended
  pub values_ended : (xs : List X) (got : List V) → length xs ≤ length got → place_after (values_of key_of xs) got ≡ ended (take (length xs) got) (drop (length xs) got)
  values_ended [] got many = refl
  values_ended (x ∷ xs) [] many = absurd (omega arith)
  values_ended (x ∷ xs) (v ∷ got) many =
      place-chain (values_of key_of xs) (λ vs. ends (v ∷ vs)) got ∙ ap (λ p. go_on p (λ vs. ends (v ∷ vs))) (values_ended xs got (omega arith))

module _ {K V : Type 0} (m : Meaning K V) (atoms : K → V) (law : IsLawful m) where
  -- a run that came to these answers ends with the outcome of the rest of its plan
  run_has : (key : K) → 0 < m.rank key → (plan : Plan K V V) (got : List V) → HasAsked m atoms key got → ((rest : List V) → m.ask key (got ++ rest) ≡ asked plan rest) → HasValue m atoms key (outcome (value m atoms) plan)
  run_has key above (ends v) got has same = ran key got v above has (subst (λ (g : List V). m.ask key g ≡ Done v) (append-nil got) (same []))
  run_has key above (asks needed go) got has same =
      let v : V = value m atoms needed in
      let is : m.ask key got ≡ Need needed = subst (λ (g : List V). m.ask key g ≡ Need needed) (append-nil got) (same []) in
      run_has key above (go v) (got ++ v ∷ []) (one_more key needed got v (got ++ v ∷ []) has is (has_value m atoms law needed) refl)
      (λ rest. ap (m.ask key) (append_assoc got (v ∷ []) rest) ∙ same (v ∷ rest))

  -- the value of a key is the outcome of its run
  pub value_by_plan : (key : K) (plan : Plan K V V) → 0 < m.rank key → ((got : List V) → m.ask key got ≡ asked plan got) → value m atoms key ≡ outcome (value m atoms) plan
  value_by_plan key plan above same = sym (value_is m atoms law key (outcome (value m atoms) plan) (run_has key above plan [] (start key [] refl) same))

  pub value_of_atom : (key : K) → m.rank key ≡ 0 → value m atoms key ≡ atoms key
  value_of_atom key at = sym (value_is m atoms law key (atoms key) (atom key (atoms key) at refl))
