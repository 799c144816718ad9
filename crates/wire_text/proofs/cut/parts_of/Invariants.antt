use Rattle.std.proofs.Common.{◌++◌, List, ℕ, length, map}
use denote.Text.{Utf8}
use denote.Shadow.{shadow}
use Rattle.wire_text.specs.Cutting.{AreParts}
use Rattle.wire_text.proofs.cut.parts_of.Given as goal

-- whatever parts the rest is cut into, with those before them they are the text's
abbrev pub invariant-parts : goal.invariant-parts
invariant-parts l =
    shadow (Utf8 l.rest)
    × ((more : List (List ℕ)) → AreParts l.rest more → AreParts l.initial.text (map (λ part. part.now) l.parts.items ++ more))

abbrev pub decreases-parts : goal.decreases-parts
decreases-parts l = length l.rest
