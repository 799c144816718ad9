-- Runs, step by step: a run asks for a key and goes on by its value, or ends.
use Rattle.std.specs.Prelude.{List, [], ◌∷◌}
use Rattle.signal_rules.specs.declared.rules.Ask.{Ask}
use Rattle.signal_rules.specs.declared.rules.Ask.TheVariants.{Need, Done}

-- a run: it ends with something, or asks for a key and goes on by the value of that
pub data Plan (K V A : Type 0) : Type 0 where
  ends : A → Plan K V A
  asks : K → (V → Plan K V A) → Plan K V A

-- where a run is after some answers: it needs a key, or ended, with these answers left over
pub data Place (K V A : Type 0) : Type 0 where
  needs : K → Place K V A
  ended : A → List V → Place K V A

abbrev pub place_after : {K V A : Type 0} → Plan K V A → List V → Place K V A
place_after (ends a) got = ended a got
place_after (asks key go) [] = needs key
place_after (asks key go) (v ∷ got) = place_after (go v) got

-- what is asked for there
abbrev pub ask_at : {K V : Type 0} → Place K V V → Ask K V
ask_at (needs key) = Need key
ask_at (ended v got) = Done v

-- what a run asks for once it has some answers
abbrev pub asked : {K V : Type 0} → Plan K V V → List V → Ask K V
asked plan got = ask_at (place_after plan got)

-- with what a run ends, where each key has its value
abbrev pub outcome : {K V A : Type 0} → (K → V) → Plan K V A → A
outcome value_of (ends a) = a
outcome value_of (asks key go) = outcome value_of (go (value_of key))

-- a run, and then another by what it ended with
abbrev pub chain : {K V A B : Type 0} → Plan K V A → (A → Plan K V B) → Plan K V B
chain (ends a) next = next a
chain (asks key go) next = asks key (λ v. chain (go v) next)

-- the values of some keys, in order
abbrev pub values_of : {K V X : Type 0} → (X → K) → List X → Plan K V (List V)
values_of key_of [] = ends []
values_of key_of (x ∷ xs) = asks (key_of x) (λ v. chain (values_of key_of xs) (λ vs. ends (v ∷ vs)))
