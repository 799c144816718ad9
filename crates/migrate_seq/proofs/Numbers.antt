-- Versions, and the map of numbers that stands for them.
use Rattle.std.proofs.Common.{◌≡◌, [], ◌∷◌, refl, ap}
use Rattle.migrate_seq.specs.Versions.{Versions, numbers_of, versions_in}

pub versions_in-numbers_of : (vs : Versions) → versions_in (numbers_of vs) ≡ vs
versions_in-numbers_of [] = refl
versions_in-numbers_of (v ∷ vs) = ap (λ rest. v ∷ rest) (versions_in-numbers_of vs)
