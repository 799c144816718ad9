-- What an assembler gives, by what came so far.
use Rattle.std.proofs.Common.{ℕ, suc, ◌≡◌, ◌<◌, ◌≤◌, List, length, Option, Some, None, Ok, Err, refl, ap, arith}
use Rattle.std.specs.Option.{option_map_or}
use Rattle.std.proofs.lemmas.Bool.Decides.{nat_tests}
use Rattle.wire_text.proofs.PieceLemmas.{says_one}
use Rattle.wire_text.specs.Feeding.{PieceTree, Assembly, Says, turn_fault, joined, joined_in_turn, to_come, given_within, gathered_at, given, after}
use Rattle.wire_text.specs.declared.fault.PieceFault.{PieceFault}
use Rattle.wire_text.specs.declared.fault.PieceFault.TheVariants.{TooLong}

-- a piece that is out of turn is refused as that
pub out_of_turn : (a : Assembly) (q : PieceTree) (f : PieceFault) → joined_in_turn a.gathered q ≡ Err f → given a q ≡ Err f
out_of_turn a q f = by (turn_fault a.gathered q)
  where
    by : (o : Option PieceFault) → option_map_or Err o (Ok (joined a.gathered q)) ≡ Err f
        → option_map_or Err o (given_within a.limit (to_come q) (joined a.gathered q)) ≡ Err f
    by None is = absurd (grind (arith, is))
    by (Some g) is = grind (arith, is)

-- a piece in its turn gives what is so far
pub record InTurn (a : Assembly) (q : PieceTree) (bytes : List ℕ) : Type 0 where
  pub gives : given a q ≡ given_within a.limit (to_come q) bytes
  pub leaves : after a q ≡ record { limit = a.limit; gathered = gathered_at (to_come q) bytes }

pub in_turn : (a : Assembly) (q : PieceTree) (bytes : List ℕ) → joined_in_turn a.gathered q ≡ Ok bytes → InTurn a q bytes
in_turn a q bytes is = record {
  gives = by (turn_fault a.gathered q) is;
  leaves = ap (λ t. record { limit = a.limit; gathered = gathered_at (to_come q) t }) (so (turn_fault a.gathered q) is);
}
  where
    so : (o : Option PieceFault) → option_map_or Err o (Ok (joined a.gathered q)) ≡ Ok bytes → joined a.gathered q ≡ bytes
    so None is = grind (arith, is)
    so (Some g) is = absurd (grind (arith, is))

    by : (o : Option PieceFault) → option_map_or Err o (Ok (joined a.gathered q)) ≡ Ok bytes
        → option_map_or Err o (given_within a.limit (to_come q) (joined a.gathered q)) ≡ given_within a.limit (to_come q) bytes
    by None is = grind (arith, is)
    by (Some g) is = absurd (grind (arith, is))

-- an assembler's answer is that to what the piece says
pub same_answer : (a b : Assembly) (p q : PieceTree) (bytes : List ℕ) → a ≡ b → Says p bytes → Says q bytes → (given a p ≡ given b q) × (after a p ≡ after b q)
same_answer a b p q bytes same says reads =
    let one : p ≡ q = says_one p q bytes says reads in
    (rw (same, one) refl, rw (same, one) refl)

-- what is given by length and by what is still to come
pub too_long : (limit n : ℕ) (text : List ℕ) → limit < length text → given_within limit n text ≡ Err TooLong
too_long limit n text long = grind (arith, nat_tests, long)

pub gives_text : (limit : ℕ) (text : List ℕ) → length text ≤ limit → given_within limit 0 text ≡ Ok (Some text)
gives_text limit text short = grind (arith, nat_tests, short)

pub gives_none : (limit n : ℕ) (text : List ℕ) → length text ≤ limit → given_within limit (suc n) text ≡ Ok None
gives_none limit n text short = grind (arith, nat_tests, short)
