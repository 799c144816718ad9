use Rattle.std.proofs.Common.{◌≡◌, suc, Some, None, option_map, Ok, Err, refl, sym, ◌∙◌, string_bytes, arith}
use Rattle.wire_text.specs.Feeding.{Assembly, tree_of, to_come, given_within, after}
use Rattle.wire_text.specs.Gathering.{gathered_of}
use Rattle.wire_text.proofs.FeedingLemmas.{same_answer, out_of_turn, in_turn, too_long, gives_text, gives_none}
use Rattle.wire_text.proofs.assembler.Assembler.feed.Goals as goal

pub returns-in_err-text-clause-gives : goal.returns-in_err-text-clause-gives
returns-in_err-text-clause-gives c = λ p says.
    let old : Assembly = record { limit = c.self.inside.limit; gathered = option_map gathered_of c.take-gathered.result } in
    let q = tree_of c.in-Some.read in
    let is : c.args.self.now ≡ old = rw c.take-gathered.ensures.value (sym c.self.view_is) in
    let same = same_answer c.args.self.now old p q c.args.piece.now is says c.in-Some.ensures in
    let failed : c.from_residual.result ≡ Err c.in_err-text.field-0.0 = grind (arith, c.from_residual.ensures) in
    rw failed (λ not. same.0 ∙ out_of_turn old q c.in_err-text.field-0.0 (c.in_err-text.ensures not))

pub returns-then-len-self-clause-gives : goal.returns-then-len-self-clause-gives
returns-then-len-self-clause-gives c = λ p says other.
    let old : Assembly = record { limit = c.self.inside.limit; gathered = option_map gathered_of c.take-gathered.result } in
    let q = tree_of c.in-Some.read in
    let is : c.args.self.now ≡ old = rw c.take-gathered.ensures.value (sym c.self.view_is) in
    let turn = in_turn old q (string_bytes c.in_ok-text.text) c.in_ok-text.ensures in
    (same_answer c.args.self.now old p q c.args.piece.now is says c.in-Some.ensures).0 ∙ turn.gives
    ∙ too_long old.limit (to_come q) (string_bytes c.in_ok-text.text) (omega (arith, c.len.ensures, c.if-len-self.true))

pub returns-in_ok-of-in-None-clause-gives : goal.returns-in_ok-of-in-None-clause-gives
returns-in_ok-of-in-None-clause-gives c = λ p says.
    let old : Assembly = record { limit = c.self.inside.limit; gathered = option_map gathered_of c.take-gathered.result } in
    let q = tree_of c.in-Some.read in
    let is : c.args.self.now ≡ old = rw c.take-gathered.ensures.value (sym c.self.view_is) in
    let turn = in_turn old q (string_bytes c.in_ok-text.text) c.in_ok-text.ensures in
    let last : to_come q ≡ 0 = grind (arith, c.to_come.ensures, c.in-None.ensures) in
    let text : c.in_ok-of-in-None.field-0 ≡ string_bytes c.in_ok-text.text = c.in_ok-of-in-None.ensures ∙ c.as_str.ensures.value in
    let whole : given_within old.limit (to_come q) (string_bytes c.in_ok-text.text) ≡ Ok (Some c.in_ok-of-in-None.field-0) =
    rw (last, text) (gives_text old.limit (string_bytes c.in_ok-text.text) (omega (arith, c.len.ensures, c.if-len-self.false))) in
    (same_answer c.args.self.now old p q c.args.piece.now is says c.in-Some.ensures).0 ∙ turn.gives ∙ whole

pub returns-in_ok-of-in-None-clause-leaves : goal.returns-in_ok-of-in-None-clause-leaves
returns-in_ok-of-in-None-clause-leaves c = λ p says.
    let old : Assembly = record { limit = c.self.inside.limit; gathered = option_map gathered_of c.take-gathered.result } in
    let q = tree_of c.in-Some.read in
    let is : c.args.self.now ≡ old = rw c.take-gathered.ensures.value (sym c.self.view_is) in
    let turn = in_turn old q (string_bytes c.in_ok-text.text) c.in_ok-text.ensures in
    let last : to_come q ≡ 0 = grind (arith, c.to_come.ensures, c.in-None.ensures) in
    let left : after old q ≡ record { limit = c.self.inside.limit; gathered = None } = rw turn.leaves (rw last refl) in
    rw c.take-gathered.ensures.after (sym ((same_answer c.args.self.now old p q c.args.piece.now is says c.in-Some.ensures).1 ∙ left))

pub returns-in-Some-checked_sub-clause-gives : goal.returns-in-Some-checked_sub-clause-gives
returns-in-Some-checked_sub-clause-gives c = λ p says.
    let old : Assembly = record { limit = c.self.inside.limit; gathered = option_map gathered_of c.take-gathered.result } in
    let q = tree_of c.in-Some.read in
    let is : c.args.self.now ≡ old = rw c.take-gathered.ensures.value (sym c.self.view_is) in
    let turn = in_turn old q (string_bytes c.in_ok-text.text) c.in_ok-text.ensures in
    let more : to_come q ≡ suc c.in-Some-checked_sub.next = omega (arith, c.to_come.ensures, c.in-Some-checked_sub.ensures) in
    let none : given_within old.limit (to_come q) (string_bytes c.in_ok-text.text) ≡ Ok None =
    rw more (gives_none old.limit c.in-Some-checked_sub.next (string_bytes c.in_ok-text.text) (omega (arith, c.len.ensures, c.if-len-self.false))) in
    (same_answer c.args.self.now old p q c.args.piece.now is says c.in-Some.ensures).0 ∙ turn.gives ∙ none

pub returns-in-Some-checked_sub-clause-leaves : goal.returns-in-Some-checked_sub-clause-leaves
returns-in-Some-checked_sub-clause-leaves c = λ p says.
    let old : Assembly = record { limit = c.self.inside.limit; gathered = option_map gathered_of c.take-gathered.result } in
    let q = tree_of c.in-Some.read in
    let is : c.args.self.now ≡ old = rw c.take-gathered.ensures.value (sym c.self.view_is) in
    let turn = in_turn old q (string_bytes c.in_ok-text.text) c.in_ok-text.ensures in
    let more : to_come q ≡ suc c.in-Some-checked_sub.next = omega (arith, c.to_come.ensures, c.in-Some-checked_sub.ensures) in
    sym ((same_answer c.args.self.now old p q c.args.piece.now is says c.in-Some.ensures).1 ∙ turn.leaves ∙ rw more refl)
