-- What the bindings at an id, and the count of a page, ask for.
use Rattle.std.specs.Prelude.{ℕ, List, [], ◌∷◌, length}
use Rattle.std.specs.FinMap.Entries.{by_order}
use Rattle.rooms_val.specs.Maps.{order}
use Rattle.tl_rules.specs.declared.key.TlKey.{TlKey}
use Rattle.tl_rules.specs.declared.key.TlKey.TheVariants as key
use Rattle.tl_rules.specs.declared.value.TlValue.{TlValue}
use Rattle.tl_rules.specs.declared.value.TlValue.TheVariants as value
use Rattle.tl_rules.specs.Plans.{Plan, ends, asks}
use Rattle.tl_rules.specs.Answers.{ids_in}

-- an id and what `rest` makes of others, put among these: those that are less come before it, and it stands once
abbrev pub placed : (List (List ℕ) → List (List ℕ)) → List ℕ → List (List ℕ) → List (List ℕ) → List (List ℕ)
placed rest id ids [] = id ∷ ids
placed rest id ids (other ∷ others) =
    by_order (order id other) (id ∷ rest (other ∷ others)) (id ∷ rest others) (other ∷ placed rest id ids others)

-- two rising lists of ids in one, with an id that stands in both once
abbrev pub merged : List (List ℕ) → List (List ℕ) → List (List ℕ)
merged [] others = others
merged (id ∷ ids) others = placed (merged ids) id ids others

-- the bindings at an id: those that go from it, and those that go to it
abbrev pub bound_plan : List ℕ → Plan TlKey TlValue TlValue
bound_plan id =
    asks (key.BoundFrom id) (λ from. asks (key.BoundTo id) (λ to. ends (value.Ids (merged (ids_in from) (ids_in to)))))

-- how many shapes are below a page
abbrev pub count_plan : List ℕ → Plan TlKey TlValue TlValue
count_plan page = asks (key.Tree page) (λ tree. ends (value.Number (length (ids_in tree))))
