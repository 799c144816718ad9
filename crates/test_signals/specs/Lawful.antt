-- The rules are lawful.
use Rattle.std.proofs.Common.{◌≡◌, ℕ, ◌<◌, ◌≤◌, Bool, true, false, length, refl, sym, arith}
use Rattle.std.specs.Prelude.{◌&&◌, nat_lt, nat_eq}
use Rattle.std.specs.declared.cmp.Ordering.TheVariants.{Equal}
use Rattle.std.specs.Cmp.{ranked}
use Rattle.std.specs.Ordering.{nat_cmp}
use Rattle.std.proofs.lemmas.Bool.{ltb-true, le-ltb, eqb-true}
use Rattle.signal_rules.specs.declared.rules.Ask.TheVariants.{Need}
use Rattle.signal_rules.specs.Meaning.{IsLawful, IsDone, limit}
use Rattle.test_signals.specs.Keys.{rank_of, next_of, outcome_of, needed_or, number_rules}

falls : (a b : Bool) (next needed v : ℕ) → needed_or (a && b) next v ≡ Need needed → (b ≡ true) × (next ≡ needed)
falls true true next needed v e = (refl, cc)
falls true false next needed v e = absurd (cc)
falls false b next needed v e = absurd (cc)

ends : (a b : Bool) (next v : ℕ) → a ≡ false → IsDone (needed_or (a && b) next v)
ends true b next v e = absurd (cc)
ends false b next v e = tt

many : (n : ℕ) → limit ≤ n → 2 ≤ n
unfolding limit
many n far = omega (arith, far)

pub number_rules_lawful : IsLawful number_rules
number_rules_lawful = record {
  falls = λ key next got e.
      let q = falls (nat_lt (length got) 2) (nat_lt (rank_of (next_of key got)) (rank_of key)) (next_of key got) next (outcome_of key got) e in
      let low : rank_of (next_of key got) < rank_of key = ltb-true (rank_of (next_of key got)) (rank_of key) q.0 in
      rw (← q.1) low;
  ends = λ key got far. ends (nat_lt (length got) 2) (nat_lt (rank_of (next_of key got)) (rank_of key)) (next_of key got) (outcome_of key got) (le-ltb (length got) 2 (many (length got) far));
}

pub same_keys : (a b : ℕ) → nat_cmp a b ≡ Equal → a ≡ b
same_keys a b e = ranked a b Equal (sym e)

pub same_values : (a b : ℕ) → nat_eq a b ≡ true → a ≡ b
same_values a b e = eqb-true a b e
