-- What the tree of a page asks for.
use Rattle.std.specs.Prelude.{ℕ, zero, suc, ◌-◌, nat_le, List, [], ◌∷◌, ◌++◌, length, if◌then◌else◌}
use Rattle.std.specs.List.{zip}
use Rattle.shape_tree.specs.Trees.{most_levels, most_shapes}
use Rattle.tl_rules.specs.declared.key.TlKey.{TlKey}
use Rattle.tl_rules.specs.declared.key.TlKey.TheVariants as key
use Rattle.tl_rules.specs.declared.value.TlValue.{TlValue}
use Rattle.tl_rules.specs.declared.value.TlValue.TheVariants as value
use Rattle.tl_rules.specs.Plans.{Plan, ends, asks, chain, values_of}
use Rattle.tl_rules.specs.Answers.{ids_in}

-- what is listed
abbrev pub Listing : Type 0
Listing = Plan TlKey TlValue (List (List ℕ))

-- the id of each item, and after it what is below that, at most so many ids in all; what isn't listed isn't asked for
abbrev pub each : {X : Type 0} → (X → List ℕ) → (ℕ → X → Listing) → ℕ → List X → Listing
each id_of below left [] = ends []
each id_of below zero (x ∷ xs) = ends []
each id_of below (suc left) (x ∷ xs) =
    chain (below left x) (λ under. chain (each id_of below (left - length under) xs) (λ more. ends (id_of x ∷ under ++ more)))

-- the shapes so many levels below an id, at most so many of them: it asks for the children, and then for what is below each
unfoldable pub below : ℕ → ℕ → List ℕ → Listing
below zero left id = ends []
below (suc levels) left id = asks (key.ByParent id) (λ children. each (λ id. id) (below levels) left (ids_in children))

-- so many children of a page are asked for at once
abbrev pub most_at_once : ℕ
most_at_once = 32768

-- some shapes, and the shapes below their children, where the children are known
abbrev pub below_known : ℕ → ℕ → List (List ℕ) → List TlValue → Listing
below_known levels left ids children =
    each (λ x. x.0) (λ room x. each (λ id. id) (below levels) room (ids_in x.1)) left (zip ids children)

-- the children of a page, and the shapes so many levels below their children. It asks for the children of all of them at
-- once, unless they are many
abbrev pub row_plan : ℕ → ℕ → List (List ℕ) → Listing
row_plan levels left ids =
    if nat_le (length ids) most_at_once then chain (values_of key.ByParent ids) (below_known levels left ids)
    else each (λ id. id) (below (suc levels)) left ids

abbrev pub page_plan : ℕ → ℕ → List ℕ → Listing
page_plan levels left page = asks (key.ByParent page) (λ children. row_plan levels left (ids_in children))

-- the shapes below a page
abbrev pub tree_plan : List ℕ → Plan TlKey TlValue TlValue
tree_plan page = chain (page_plan (most_levels - 2) most_shapes page) (λ ids. ends (value.Ids ids))
