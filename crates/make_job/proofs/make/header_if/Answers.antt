use Rattle.std.proofs.Common.{◌≡◌, Bool, [], ◌∷◌, refl, sym, subst}
use Rattle.make_job.specs.Made.{if_printed, header_line}
use Rattle.make_job.proofs.make.header_if.Goals as goal

pub returns-then-print : goal.returns-then-print
returns-then-print c =
    let P : Bool → Type 0 = λ b. 123 ∷ 34 ∷ 114 ∷ 101 ∷ 99 ∷ 111 ∷ 114 ∷ 100 ∷ 105 ∷ 110 ∷ 103 ∷ 34 ∷ 58 ∷ 49 ∷ 44 ∷ 34 ∷ 118 ∷ 101 ∷ 114 ∷ 115 ∷ 105 ∷ 111 ∷ 110 ∷ 34 ∷ 58 ∷ 51 ∷ 125 ∷ 10 ∷ [] ≡ if_printed b header_line in
    subst P (sym c.if-print.true) refl
