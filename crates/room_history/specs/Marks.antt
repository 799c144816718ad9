-- What an entry makes of records and of the changes of ids, by what it leaves under each id.
use Rattle.std.specs.Prelude.{ℕ, ℤ, List, [], ◌∷◌, ◌++◌, map, Bool, true, false, Option, is_some}
use Rattle.std.specs.List.{list_any}
use Rattle.rooms_val.specs.Data.{Data, Pairs}
use Rattle.rooms_val.specs.Maps.{set_at}
use Rattle.change_list.specs.declared.entries.Change.{Change}
use Rattle.change_list.specs.Changes.{has_id, without_id}

-- ids, each with what is left under it, a record or none
abbrev pub Left : Type 0
Left = List (List ℕ × Option Data)

-- records with what is left under each id
abbrev pub set_all : Pairs → Left → Pairs
set_all m [] = m
set_all m (p ∷ left) = set_all (set_at m p.0 p.1) left

-- ids, each with whether it is there
abbrev pub Marks : Type 0
Marks = List (List ℕ × Bool)

abbrev pub marks_of : Left → Marks
marks_of left = map (λ p. (p.0, is_some p.1)) left

-- an id is among changes
abbrev pub is_listed : List Change → List ℕ → Bool
is_listed changes id = list_any (has_id id) changes

-- the live and the dead changes
abbrev pub Lists : Type 0
Lists = List Change × List Change

-- one id is there since a clock, or not any more
abbrev pub mark_one : ℤ → List ℕ → Bool → Lists → Lists
mark_one clock id true lists = (without_id id lists.0 ++ record { id = id; clock = clock; live = true } ∷ [], without_id id lists.1)
mark_one clock id false lists = (without_id id lists.0, lists.1 ++ record { id = id; clock = clock; live = false } ∷ [])

-- each of some ids is
abbrev pub mark_all : ℤ → Marks → Lists → Lists
mark_all clock [] lists = lists
mark_all clock (mark ∷ marks) lists = mark_all clock marks (mark_one clock mark.0 mark.1 lists)
