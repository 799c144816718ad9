-- The text by which the fields of a map are checked, and the keys that maps and tables lack.
use Rattle.std.specs.Prelude.{ℕ, List, [], ◌∷◌, Bool, not, Option, Some, None, if◌then◌else◌, codes}
use Rattle.std.specs.List.{list_any}
use Rattle.std.specs.Str.{bytes_eq}
use Rattle.rooms_val.specs.Data.{Pairs}
use Rattle.rooms_val.specs.Kinds.{text_at}

-- the text under the key `type`, where there is one
abbrev pub type_text : Pairs → Option (List ℕ)
type_text ps = text_at ps (codes "type")

-- the text is among those listed
abbrev pub is_listed : List (List ℕ) → List ℕ → Bool
is_listed texts t = list_any (λ x. bytes_eq x t) texts

-- some text that is wanted is not among those given
abbrev pub lacks : List (List ℕ) → List (List ℕ) → Bool
lacks wanted given = list_any (λ t. not (is_listed given t)) wanted

-- the entries behind the one with the key
abbrev pub behind : {X : Type 0} → List (List ℕ × X) → List ℕ → Option (List (List ℕ × X))
behind [] k = None
behind (e ∷ es) k = if bytes_eq e.0 k then Some es else behind es k
