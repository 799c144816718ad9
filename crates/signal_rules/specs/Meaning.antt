-- What rules say, as functions, and what is asked of them.
use Rattle.std.specs.Prelude.{◌≡◌, ℕ, ◌<◌, ◌≤◌, ◌^◌, List, length}
use Rattle.signal_rules.specs.declared.rules.Ask.{Ask}
use Rattle.signal_rules.specs.declared.rules.Ask.TheVariants.{Need, Done}

-- what rules say: the rank of each key, the value of an atom that was never set, and what a key asks for once it has
-- the answers so far
pub record Meaning (K V : Type 0) : Type 0 where
  pub rank : K → ℕ
  pub blank : K → V
  pub ask : K → List V → Ask K V

-- so many answers end each run
unfoldable pub limit : ℕ
limit = 2 ^ 20

-- the run ends with a value
abbrev pub IsDone : {K V : Type 0} → Ask K V → Type 0
IsDone (Need key) = ⊥
IsDone (Done v) = Unit {0}

-- a key asks for keys of lower rank alone, and for no more than `limit` of them
pub record IsLawful {K V : Type 0} (m : Meaning K V) : Type 0 where
  pub falls : (key next : K) (got : List V) → m.ask key got ≡ Need next → m.rank next < m.rank key
  pub ends : (key : K) (got : List V) → limit ≤ length got → IsDone (m.ask key got)
