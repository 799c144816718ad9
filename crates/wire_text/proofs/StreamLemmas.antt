-- Pieces that come one after another.
use Rattle.std.proofs.Common.{ℕ, zero, suc, ◌+◌, ◌≡◌, ◌<◌, ◌≤◌, inl, inr, List, [], ◌∷◌, ◌++◌, length, Option, Some, None, Ok, decimal, refl, sym, ap, ◌∙◌, subst, arith}
use Rattle.std.proofs.lemmas.Bool.Decides.{nat_tests}
use Rattle.std.proofs.lemmas.Bool.{cases_lt, cases_eq}
use Rattle.std.proofs.lemmas.List.{append_assoc, append-nil, length-append}
use Rattle.wire_text.specs.Cutting.{AreParts, numbered}
use Rattle.wire_text.specs.Feeding.{PieceTree, whole, part, Assembly, empty, turn_fault, joined, to_come, given_within, given, after}
use Rattle.wire_text.specs.Streams.{AreSaid, Gives, join, counted, PiecesComeBack, GivenStands}
use Rattle.wire_text.specs.declared.cut.TheConstants.{LONGEST_PART}
use Rattle.wire_text.specs.declared.piece.TheConstants.{MOST_TO_COME}
use Rattle.wire_text.proofs.FeedingLemmas.{gives_text, gives_none}

-- numbered parts say the parts with their counts
said_as_counted : (parts : List (List ℕ)) → length parts ≤ MOST_TO_COME + 1 → AreSaid (counted parts) (numbered parts)
said_as_counted [] few = tt
said_as_counted (p ∷ ps) few =
    ((decimal (length ps), (omega (arith, few), refl), refl), said_as_counted ps (omega (arith, few)))

-- a piece for each part
numbered_length : (parts : List (List ℕ)) → length (numbered parts) ≡ length parts
numbered_length [] = refl
numbered_length (p ∷ ps) = ap suc (numbered_length ps)

-- the parts of a text are the text
parts_join : (text : List ℕ) (parts : List (List ℕ)) → AreParts text parts → text ≡ join parts
parts_join text [] is = is
parts_join text (p ∷ ps) (rest, is, longest, are) = is ∙ ap (λ t. p ++ t) (parts_join rest ps are)

-- what a piece in its turn gives, and leaves, where the text so far is known
given_next : (a : Assembly) (q : PieceTree) (text : List ℕ) → turn_fault a.gathered q ≡ None → joined a.gathered q ≡ text
    → given a q ≡ given_within a.limit (to_come q) text
given_next a q text turn is = rw (turn, is) refl

-- an assembler that gathered this, with so many parts after the next
abbrev gathering : ℕ → ℕ → List ℕ → Assembly
gathering limit n text = record { limit = limit; gathered = Some (record { next = n; text = text }) }

-- the next part for what an assembler gathered, which are these bytes
record IsNext (a : Assembly) (n : ℕ) (before : List ℕ) : Type 0 where
  turn : (p : List ℕ) → turn_fault a.gathered (part n p) ≡ None
  text : (p : List ℕ) → joined a.gathered (part n p) ≡ before ++ p

first_is_next : (limit n : ℕ) → IsNext (empty limit) n []
first_is_next limit n = record { turn = λ p. refl; text = λ p. refl }

other_is_next : (limit n : ℕ) (before : List ℕ) → IsNext (gathering limit n before) n before
other_is_next limit n before = record { turn = λ p. grind (arith, nat_tests); text = λ p. refl }

-- parts in their turn give what they are together after what was gathered
counted_give : (a : Assembly) (before p : List ℕ) (ps : List (List ℕ)) → IsNext a (length ps) before → length (before ++ join (p ∷ ps)) ≤ a.limit
    → Gives a (counted (p ∷ ps)) (before ++ join (p ∷ ps))
counted_give a before p [] next short =
    let same : p ++ [] ≡ p = append-nil p in
    let within : length (before ++ p) ≤ a.limit = subst (λ t. length (before ++ t) ≤ a.limit) same short in
    rw same (given_next a (part 0 p) (before ++ p) (next.turn p) (next.text p) ∙ gives_text a.limit (before ++ p) within)
counted_give a before p (q ∷ qs) next short =
    let same : before ++ (p ++ join (q ∷ qs)) ≡ before ++ p ++ join (q ∷ qs) = sym (append_assoc before p (join (q ∷ qs))) in
    let all : length (before ++ p ++ join (q ∷ qs)) ≤ a.limit = subst (λ t. length t ≤ a.limit) same short in
    let within : length (before ++ p) ≤ a.limit = omega (arith, all, length-append (before ++ p) (join (q ∷ qs))) in
    let rest : Gives (gathering a.limit (length qs) (before ++ p)) (counted (q ∷ qs)) (before ++ p ++ join (q ∷ qs)) =
    counted_give (gathering a.limit (length qs) (before ++ p)) (before ++ p) q qs (other_is_next a.limit (length qs) (before ++ p)) all in (
      given_next a (part (suc (length qs)) p) (before ++ p) (next.turn p) (next.text p) ∙ gives_none a.limit (length qs) (before ++ p) within,
      subst (λ t. Gives (gathering a.limit (length qs) t) (counted (q ∷ qs)) (before ++ (p ++ join (q ∷ qs)))) (sym (next.text p))
          (subst (Gives (gathering a.limit (length qs) (before ++ p)) (counted (q ∷ qs))) (sym same) rest),
    )

pub pieces_come_back : PiecesComeBack
pieces_come_back limit text rest pieces begins short few cut =
    elim (cases_lt LONGEST_PART (length text)) [
      | inl long ↦ in_parts long (cut.long long).0 (cut.long long).1 (cut.long long).2
      | inr fits ↦ alone (cut.short fits)
    ]
  where
    alone : pieces ≡ text ∷ [] → (said : List PieceTree) × AreSaid said pieces × Gives (empty limit) said text
    alone is = rw is (whole text ∷ [], ((rest, begins, refl), tt), gives_text limit text short)

    in_parts : LONGEST_PART < length text → (parts : List (List ℕ)) → AreParts text parts → pieces ≡ numbered parts
        → (said : List PieceTree) × AreSaid said pieces × Gives (empty limit) said text
    in_parts long [] are is = absurd (omega (arith, long, ap length are))
    in_parts long (p ∷ ps) are is =
        let joins : text ≡ join (p ∷ ps) = parts_join text (p ∷ ps) are in
        rw is (
          counted (p ∷ ps),
          said_as_counted (p ∷ ps) (omega (arith, few, ap length is, numbered_length (p ∷ ps))),
          rw joins (counted_give (empty limit) [] p ps (first_is_next limit (length ps)) (subst (λ t. length t ≤ limit) joins short)),
        )

-- a part that a gathering assembler takes is the next one
is_next : (limit n m : ℕ) (before p : List ℕ) (o : Option (List ℕ)) → given (gathering limit n before) (part m p) ≡ Ok o → m ≡ n
is_next limit n m before p o is = elim (cases_eq m n) [
  | inl same ↦ same
  | inr other ↦ absurd (grind (arith, nat_tests, is, other))
]

-- what is given within a limit tells what is still to come
given_last : (limit n : ℕ) (text t : List ℕ) → given_within limit n text ≡ Ok (Some t) → (n ≡ 0) × (t ≡ text)
given_last limit zero text t is = (refl, grind (arith, nat_tests, is))
given_last limit (suc k) text t is = absurd (grind (arith, nat_tests, is))

given_more : (limit n : ℕ) (text : List ℕ) → given_within limit n text ≡ Ok None → (k : ℕ) × (n ≡ suc k)
given_more limit zero text is = absurd (grind (arith, nat_tests, is))
given_more limit (suc k) text is = (k, refl)

-- what a gathering assembler gives are parts whose counts fall to 0 from the one that comes next
gathered_stands : (limit n : ℕ) (before : List ℕ) (said : List PieceTree) (text : List ℕ) → Gives (gathering limit n before) said text
    → (parts : List (List ℕ)) × (said ≡ counted parts) × (length parts ≡ suc n) × (text ≡ before ++ join parts)
gathered_stands limit n before [] text gives = absurd gives
gathered_stands limit n before (whole t ∷ []) text gives = absurd (grind (arith, gives))
gathered_stands limit n before (whole t ∷ q ∷ ps) text gives = absurd (grind (arith, gives.0))
gathered_stands limit n before (part m p ∷ []) text gives =
    let next : m ≡ n = is_next limit n m before p (Some text) gives in
    let given' : given (gathering limit n before) (part n p) ≡ Ok (Some text) = subst (λ k. given (gathering limit n before) (part k p) ≡ Ok (Some text)) next gives in
    let last = given_last limit n (before ++ p) text
    (sym (given_next (gathering limit n before) (part n p) (before ++ p) ((other_is_next limit n before).turn p) refl) ∙ given') in
    (p ∷ [], ap (λ k. part k p ∷ []) (next ∙ last.0), ap suc (sym last.0), last.1 ∙ ap (λ t. before ++ t) (sym (append-nil p)))
gathered_stands limit n before (part m p ∷ q ∷ ps) text gives =
    let next : m ≡ n = is_next limit n m before p None gives.0 in
    let given' : given (gathering limit n before) (part n p) ≡ Ok None = subst (λ k. given (gathering limit n before) (part k p) ≡ Ok None) next gives.0 in
    let more = given_more limit n (before ++ p)
    (sym (given_next (gathering limit n before) (part n p) (before ++ p) ((other_is_next limit n before).turn p) refl) ∙ given') in
    let rest = gathered_stands limit more.0 (before ++ p) (q ∷ ps) text
    (subst (λ j. Gives (after (gathering limit n before) (part j p)) (q ∷ ps) text) (next ∙ more.1) gives.1) in (
      p ∷ rest.0,
      ap (λ k. part k p ∷ q ∷ ps) (next ∙ more.1 ∙ sym rest.2) ∙ ap (λ ts. part (length rest.0) p ∷ ts) rest.1,
      ap suc (rest.2 ∙ sym more.1),
      rest.3 ∙ append_assoc before p (join rest.0),
    )

pub given_stands : GivenStands
given_stands limit [] text gives = absurd gives
given_stands limit (whole t ∷ []) text gives = inl (ap (λ u. whole u ∷ []) (sym (given_last limit 0 t text gives).1))
given_stands limit (whole t ∷ q ∷ ps) text gives = absurd (grind (arith, (given_more limit 0 t gives.0).1))
given_stands limit (part m p ∷ []) text gives =
    let last = given_last limit m p text gives in
    inr (p ∷ [], ap (λ k. part k p ∷ []) last.0, last.1 ∙ sym (append-nil p))
given_stands limit (part m p ∷ q ∷ ps) text gives =
    let more = given_more limit m p gives.0 in
    let rest = gathered_stands limit more.0 p (q ∷ ps) text
    (subst (λ j. Gives (after (empty limit) (part j p)) (q ∷ ps) text) more.1 gives.1) in
    inr (p ∷ rest.0, ap (λ k. part k p ∷ q ∷ ps) (more.1 ∙ sym rest.2) ∙ ap (λ ts. part (length rest.0) p ∷ ts) rest.1, rest.3)
