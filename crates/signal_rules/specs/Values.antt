-- The value of a key, over the values of the atoms, and the atoms that its run meets.
use Rattle.std.specs.Prelude.{◌≡◌, ℕ, zero, suc, ◌<◌, List, [], ◌∷◌, ◌++◌}
use Rattle.signal_rules.specs.declared.rules.Ask.{Ask}
use Rattle.signal_rules.specs.declared.rules.Ask.TheVariants.{Need, Done}
use Rattle.signal_rules.specs.Meaning.{Meaning, limit}

-- what comes after an ask: for a key that is needed, or for the value that ends the run
abbrev pub after : {K V A : Type 0} → Ask K V → (K → A) → (V → A) → A
after (Need key) need done = need key
after (Done v) need done = done v

-- at rank 0 the one, above it the other
abbrev pub by_rank : {A : Type 0} → ℕ → A → A → A
by_rank zero at above = at
by_rank (suc rank) at above = above

-- the value with which a run ends: each key that is asked for is answered by its value. A run that hasn't ended after so
-- many answers gives `blank`
unfoldable pub ended : {K V : Type 0} → (List V → Ask K V) → (K → V) → V → ℕ → List V → V
ended ask value_of blank zero got = blank
ended ask value_of blank (suc count) got =
    after (ask got) (λ key. ended ask value_of blank count (got ++ value_of key ∷ [])) (λ v. v)

-- the value of a key up to a rank
unfoldable pub value_within : {K V : Type 0} → Meaning K V → (K → V) → ℕ → K → V
value_within m atoms zero key = atoms key
value_within m atoms (suc rank) key =
    by_rank (m.rank key) (atoms key) (ended (m.ask key) (value_within m atoms rank) (m.blank key) (suc limit) [])

-- the value of a key: at rank 0 that of the atom, above it that with which its run ends
unfoldable pub value : {K V : Type 0} → Meaning K V → (K → V) → K → V
value m atoms key = value_within m atoms (m.rank key) key

mutual
  -- the key has the value: that of its atom, or that with which its run ends
  pub data HasValue {K V : Type 0} (m : Meaning K V) (atoms : K → V) : K → V → Type 0 where
    atom : (key : K) (v : V) → m.rank key ≡ 0 → v ≡ atoms key → HasValue m atoms key v
    ran : (key : K) (got : List V) (v : V) → 0 < m.rank key → HasAsked m atoms key got → m.ask key got ≡ Done v → HasValue m atoms key v

  -- the run of the key comes to have these answers: none, and then the value of each key that it asks for
  pub data HasAsked {K V : Type 0} (m : Meaning K V) (atoms : K → V) : K → List V → Type 0 where
    start : (key : K) (got : List V) → got ≡ [] → HasAsked m atoms key got
    next : (key needed : K) (got : List V) (v : V) (all : List V) → HasAsked m atoms key got → m.ask key got ≡ Need needed → HasValue m atoms needed v → all ≡ got ++ v ∷ [] → HasAsked m atoms key all

-- the run of a key meets an atom: it is the atom itself, or asks for a key whose run meets it
pub data Meets {K V : Type 0} (m : Meaning K V) (atoms : K → V) (atom : K) : K → Type 0 where
  itself : (key : K) → m.rank atom ≡ 0 → key ≡ atom → Meets m atoms atom key
  through : (key needed : K) (got : List V) → 0 < m.rank key → HasAsked m atoms key got → m.ask key got ≡ Need needed → Meets m atoms atom needed → Meets m atoms atom key
