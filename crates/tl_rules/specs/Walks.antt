-- How far a walk through the answers for a tree has come.
use Rattle.std.specs.Prelude.{◌≡◌, ℕ, List, ◌++◌, Option, None, Some, option_map, map, length, ◌-◌}
use Rattle.shape_tree.specs.Trees.{most_shapes}
use denote.Ref.{Bor}
use Rattle.tl_rules.specs.declared.key.TlKey.{TlKey}
use Rattle.tl_rules.specs.declared.key.TlKey.TheVariants as key
use Rattle.tl_rules.specs.declared.value.TlValue.{TlValue}
use Rattle.tl_rules.specs.Plans.{Place, needs, ended}

-- the ids that are borrowed
abbrev pub ids_view : List (Bor (List ℕ)) → List (List ℕ)
ids_view ids = map (λ id. id.now) ids

abbrev pub id_view : Option (Bor (List ℕ)) → Option (List ℕ)
id_view id = option_map (λ t. t.now) id

-- how many more ids may be listed
abbrev pub room : List (List ℕ) → ℕ
room listed = most_shapes - length listed

-- a walk of a run came to its place: it found that the children of an id are needed, or else it listed what the run ends
-- with after what was listed before, and left over the same answers
abbrev pub HasWalked : Place TlKey TlValue (List (List ℕ)) → List (List ℕ) → List (List ℕ) → List TlValue → Option (List ℕ) → Type 0
HasWalked (needs k) before after rest need = option_map key.ByParent need ≡ Some k
HasWalked (ended out left_over) before after rest need = (need ≡ None) × (after ≡ before ++ out) × (rest ≡ left_over)
