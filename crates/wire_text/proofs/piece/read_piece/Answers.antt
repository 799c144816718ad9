use Rattle.std.proofs.Common.{◌≡◌, ◌==◌, ◌∙◌, ℕ, length, arith}
use Rattle.std.specs.List.{before_first}
use Rattle.std.proofs.lemmas.Str.Pattern.{split_once_first}
use Rattle.std.proofs.lemmas.Option.{MatchOption-at_none, MatchOption-at_some}
use Rattle.wire_text.specs.Feeding.{IsCount}
use Rattle.wire_text.proofs.PieceLemmas.{bar, split_as_said, no_piece}
use Rattle.wire_text.proofs.piece.read_piece.Goals as goal

pub returns-in_default : goal.returns-in_default
returns-in_default c =
    let found = split_once_first 95 c.args.piece.now c.split_once.result c.split_once.ensures.cases (omega arith) in
    let none : bar c.args.piece.now ≡ length c.args.piece.now = MatchOption-at_none _ _ c.in_default.is found in
    no_piece c.args.piece.now (λ rest is. absurd (grind (arith, is, c.begins_whole.ensures.1 (rest, is), c.if-begins_whole.false)))
    (λ n p says. absurd (omega (arith, none, (split_as_said n p c.args.piece.now says).within)))

pub returns-in_default-count_of : goal.returns-in_default-count_of
returns-in_default-count_of c =
    let found = split_once_first 95 c.args.piece.now c.split_once.result c.split_once.ensures.cases (omega arith) in
    let before : c.in-Some.digits.now ≡ before_first (λ b. b == 95) c.args.piece.now = (MatchOption-at_some _ _ _ c.in-Some.is found).1 in
    let none : (n : ℕ) → IsCount n c.in-Some.digits.now → ⊥ = c.in_default-count_of.ensures in
    no_piece c.args.piece.now (λ rest is. absurd (grind (arith, is, c.begins_whole.ensures.1 (rest, is), c.if-begins_whole.false)))
    (λ n p says. none n (says.1.0, before ∙ (split_as_said n p c.args.piece.now says).before))
