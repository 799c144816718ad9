-- Lists of ids in parts, and when two lists of ids are the same.
use Rattle.std.specs.Prelude.{ℕ, List, [], ◌∷◌, ◌++◌, Bool, nat_eq}
use Rattle.std.specs.Cmp.{IsEquivalence, IsPartialEquivalence, partial_equiv_from_equiv}
use Rattle.std.specs.Cmp.Lexicographic.{pointwise, lists_equiv, nat_list_eq_equiv}

-- the ids of some parts, in order
abbrev pub flat : List (List (List ℕ)) → List (List ℕ)
flat [] = []
flat (part ∷ parts) = part ++ flat parts

-- item by item, and byte by byte
abbrev pub ids_eq : List (List ℕ) → List (List ℕ) → Bool
ids_eq = pointwise (pointwise nat_eq)

pub ids_equiv : IsEquivalence ids_eq
ids_equiv = lists_equiv nat_list_eq_equiv

pub ids_per : IsPartialEquivalence ids_eq
ids_per = partial_equiv_from_equiv ids_equiv
