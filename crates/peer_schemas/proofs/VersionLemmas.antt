-- The version of the tables at a version.
use Rattle.std.proofs.Common.{◌≡◌, ℕ, ◌≤◌, inl, inr, arith}
use Rattle.std.proofs.Math.Nat.{min-eq_left}
use Rattle.std.proofs.lemmas.Bool.{cases_lt}
use Rattle.tl_tables.specs.Tables.{IsVersion}
use Rattle.tl_tables.specs.declared.tables.TheConstants.{NEWEST_VERSION}
use Rattle.peer_schemas.specs.Clients.{table_version}

-- it is none that they don't have, but 0
pub low : (version : ℕ) → table_version version ≤ NEWEST_VERSION
low version = omega arith

-- at a version that they have it is that one
pub table_version-known : (version : ℕ) → IsVersion version → table_version version ≡ version
table_version-known version known = let high = known.1 in min-eq_left high

-- a version of which it isn't false that they have it is one
pub is_version : (version : ℕ) → ¬ (¬ (IsVersion version)) → IsVersion version
is_version version not_none = elim (cases_lt version 1) [
  | inl before ↦ absurd (not_none (λ known. let first = known.0 in omega arith))
  | inr above ↦ elim (cases_lt NEWEST_VERSION version) [
    | inl high ↦ absurd (not_none (λ known. let second = known.1 in omega arith))
    | inr below ↦ (above, below)
  ]
]
