-- How many edits name each id.
use Rattle.std.specs.Prelude.{◌≡◌, ℕ, List, map, unwrap_or, is_some, Some, string_bytes, if◌then◌else◌}
use Rattle.std.specs.declared.string.String.{String}
use Rattle.std.specs.Coded.{Coded, coded×, coded_list, coded_ℕ}
use Rattle.rooms_val.specs.Maps.{AreRising, value_at}

-- ids with their counts, in order
abbrev pub Names : Type 0
Names = List (List ℕ × ℕ)

-- the count of an id
abbrev pub count_at : Names → List ℕ → ℕ
count_at names id = unwrap_or (value_at names id) 0

-- 1 where a diff names an id, else 0
abbrev pub once : {V : Type 0} → List (List ℕ × V) → List ℕ → ℕ
once diff id = if is_some (value_at diff id) then 1 else 0

-- the ids rise, and no count is 0
pub record AreNames (names : Names) : Type 0 where
  pub rising : AreRising names
  pub named : (id : List ℕ) → ¬ (value_at names id ≡ Some 0)

abbrev pub coded_names : Coded Names
coded_names = coded_list (coded× (coded_list coded_ℕ) coded_ℕ)

-- the counts that the entries of a tree stand for
abbrev pub names_view : {Y : Type 0} → List (String Y × ℕ) → Names
names_view es = map (λ e. (string_bytes e.0, e.1)) es
