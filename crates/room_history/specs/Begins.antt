-- The changes of ids and the last entries of a room that begins from a saved one, clock by clock.
use Rattle.std.specs.Prelude.{ℕ, zero, suc, ◌+◌, ℤ, pos, List, [], ◌∷◌, ◌++◌, map, Bool, true, false, Option, None, IsSome, is_some, unwrap_or, ◌<ℤ◌, ◌≤ℤ◌}
use Rattle.std.specs.Ordering.{int_cmp}
use Rattle.std.specs.BTreeMap.{BTreeMap, get}
use Rattle.rooms_val.specs.Data.{Data}
use Rattle.field_ops.specs.Patched.{raw}
use Rattle.field_ops.specs.RecordOps.{RecordOps}
use Rattle.change_list.specs.Changes.{without_id}
use Rattle.room_history.specs.Entries.{RecentTree}
use Rattle.room_history.specs.Marks.{Lists}

-- what a diff leaves under its ids where nothing stands
abbrev pub left_of : RecordOps → List (List ℕ × Option Data)
left_of diff = map (λ c. (c.0, raw c.1 None)) diff

-- one id is there since a clock, or not any more, wherever it was listed
abbrev pub mark_new : ℤ → List ℕ → Bool → Lists → Lists
mark_new clock id true lists = (without_id id lists.0 ++ record { id = id; clock = clock; live = true } ∷ [], without_id id lists.1)
mark_new clock id false lists = (without_id id lists.0, without_id id lists.1 ++ record { id = id; clock = clock; live = false } ∷ [])

-- each id of a diff is, where nothing stands
abbrev pub mark_diff : ℤ → RecordOps → Lists → Lists
mark_diff clock [] lists = lists
mark_diff clock (c ∷ diff) lists = mark_diff clock diff (mark_new clock c.0 (is_some (raw c.1 None)) lists)

-- the ids of diffs are, each at the clock of its diff
abbrev pub mark_diffs : List (ℤ × RecordOps) → Lists → Lists
mark_diffs [] lists = lists
mark_diffs (e ∷ entries) lists = mark_diffs entries (mark_diff e.0 e.1 lists)

-- the diff under a clock, which names nothing where there is none
abbrev pub diff_in : BTreeMap ℤ RecordOps → ℤ → RecordOps
diff_in diffs clock = unwrap_or (get int_cmp diffs clock) []

-- all clocks that have a diff are above one and at most another
abbrev pub AreWithin : ℤ → ℤ → BTreeMap ℤ RecordOps → Type 0
AreWithin low high diffs = (clock : ℤ) → IsSome (get int_cmp diffs clock) → (low <ℤ clock) × (clock ≤ℤ high)

-- an entry of no author at a clock, over records that it doesn't name
abbrev pub tree_at : (ℕ → RecordOps) → ℕ → RecentTree
tree_at diffs clock = record { clock = pos clock; entry = record { diff = diffs clock; author = None }; after = left_of (diffs clock) }

-- so many of those after a clock, the oldest first
abbrev pub trees_after : (ℕ → RecordOps) → ℕ → ℕ → List RecentTree
trees_after diffs clock zero = []
trees_after diffs clock (suc n) = trees_after diffs clock n ++ tree_at diffs (clock + suc n) ∷ []
