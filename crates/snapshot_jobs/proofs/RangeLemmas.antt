-- The clock of a saved room that was read from a line is below 2^53, as each number is.
use Rattle.std.proofs.Common.{◌≡◌, ℕ, nat_le, nat_lt, ◌^◌, ℤ, pos, negsuc, ◌<ℤ◌, true, false, ◌&&◌, cond, not, List, Some, None, Option, Ok, Err, Result, refl, sym, ap, subst, ◌∙◌, arith, codes, unwrap_or}
use Rattle.std.proofs.lemmas.Bool.Decides.{nat_tests}
use Rattle.std.proofs.lemmas.Int.{ints}
use Rattle.serde_json.specs.Data as json
use Rattle.serde_json.specs.Find.{as_i64}
use Rattle.serde_json.specs.Written.{has_float}
use Rattle.migrate_seq.specs.Versions.{Versions}
use Rattle.rooms_val.proofs.Truths.{and_left}
use Rattle.rooms_val.specs.Data.{Data, Members, null, boolean, whole, text, list, map, member, no_members, members_of}
use Rattle.rooms_val.specs.Json.{json_at, checked, checked_if_read, value_of, value_in, members_in, is_within, members_are_within, is_in_range, whole_of, deepest, greatest_whole}
use Rattle.rooms_val.specs.declared.fault.ValFault.{ValFault}
use Rattle.rooms_val.specs.declared.fault.ValFault.TheVariants.{NotWhole, OutOfRange, TooDeep}
use Rattle.room_snapshot.specs.Lines.{line_val, line_fields}
use Rattle.room_snapshot.specs.Saved.{SavedTree}

whole_low : (n : json.Num) → is_in_range n ≡ true → whole_of n <ℤ pos (2 ^ 53)
whole_low (json.unsigned n) range =
    elim (nat_lt n (2 ^ 63)) as (λ b. unwrap_or (cond b (Some (pos n)) None) (pos 0) <ℤ pos (2 ^ 53)) [
      | true ↦ grind (arith, ints, nat_tests, range)
      | false ↦ grind (arith, ints)
    ]
whole_low (json.negative (pos n)) range = grind (arith, ints, nat_tests, range)
whole_low (json.negative (negsuc n)) range = grind (arith, ints)
whole_low (json.float x) range = grind (arith, ints)

value_low : (j : json.Data) (z : ℤ) → value_in j ≡ whole z → is_within j ≡ true → z <ℤ pos (2 ^ 53)
value_low (json.number n) z is range = let same : whole_of n ≡ z = cc in subst (λ x. x <ℤ pos (2 ^ 53)) same (whole_low n range)
value_low json.null z is range = absurd (cc)
value_low (json.boolean b) z is range = absurd (cc)
value_low (json.string t) z is range = absurd (cc)
value_low (json.array js) z is range = absurd (cc)
value_low (json.object ms) z is range = absurd (cc)

members_low : (ms : json.Members) (z : ℤ) (k : List ℕ) (rest : Members) → members_in ms ≡ member k (whole z) rest → members_are_within ms ≡ true → z <ℤ pos (2 ^ 53)
members_low json.no_members z k rest is range = absurd (cc)
members_low (json.member l j ms) z k rest is range = let same : value_in j ≡ whole z = cc in value_low j z same (and_left _ _ range)

map_low : (j : json.Data) (z : ℤ) (k : List ℕ) (rest : Members) → value_in j ≡ map (member k (whole z) rest) → is_within j ≡ true → z <ℤ pos (2 ^ 53)
map_low (json.object ms) z k rest is range = let same : members_in ms ≡ member k (whole z) rest = cc in members_low ms z k rest same range
map_low json.null z k rest is range = absurd (cc)
map_low (json.boolean b) z k rest is range = absurd (cc)
map_low (json.number n) z k rest is range = absurd (cc)
map_low (json.string t) z k rest is range = absurd (cc)
map_low (json.array js) z k rest is range = absurd (cc)

checked_as : (j : json.Data) (d : Data) → checked j ≡ Ok d → (value_in j ≡ d) × (is_within j ≡ true)
checked_as j d =
    elim (has_float j) as (λ f. cond {A = Result Data ValFault} f (Err NotWhole) (cond (not (is_within j)) (Err OutOfRange) (cond (nat_lt deepest (json.depth j)) (Err TooDeep) (Ok (value_in j)))) ≡ Ok d → (value_in j ≡ d) × (is_within j ≡ true)) [
      | true ↦ λ is. absurd (cc)
      | false ↦ elim (is_within j) as (λ w. cond {A = Result Data ValFault} (not w) (Err OutOfRange) (cond (nat_lt deepest (json.depth j)) (Err TooDeep) (Ok (value_in j))) ≡ Ok d → (value_in j ≡ d) × (w ≡ true)) [
        | false ↦ λ is. absurd (cc)
        | true ↦ elim (nat_lt deepest (json.depth j)) as (λ t. cond {A = Result Data ValFault} t (Err TooDeep) (Ok (value_in j)) ≡ Ok d → (value_in j ≡ d) × (true ≡ true)) [
          | true ↦ λ is. absurd (cc)
          | false ↦ λ is. (cc, refl)
        ]
      ]
    ]

read_low : (r : Result json.Data ValFault) (s : SavedTree) (held : Versions) → checked_if_read r ≡ Ok (line_val s held) → s.clock <ℤ pos (2 ^ 53)
read_low (Err fault) s held is = absurd (cc)
read_low (Ok j) s held is = let h = checked_as j (line_val s held) is in map_low j s.clock (codes "clock") _ h.0 h.1

-- the clock of a room of which bytes are the line
pub clock_low : (bytes : List ℕ) (s : SavedTree) (held : Versions) → value_of bytes ≡ Ok (line_val s held) → s.clock <ℤ pos (2 ^ 53)
clock_low bytes s held is = read_low (json_at bytes) s held is
