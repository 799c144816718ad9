-- How nodes, entries and the order of ids hold changes.
use Rattle.std.specs.Prelude.{◌≡◌, ℕ, ◌<◌, ◌≤◌, ◌⊎◌, ℤ, Bool, true, false, ◌&&◌, ◌||◌, nat_lt, T, List, [], ◌∷◌, ◌++◌, map, length, slice_index_or, slice_set, filter, Contains}
use Rattle.std.specs.Ordering.{nat_cmp}
use Rattle.std.specs.Cmp.Lexicographic.{slice_cmp}
use Rattle.std.specs.FinMap.Entries.{is_sorted}
use Rattle.links_core.specs.Lists.{list_at, without, AreSound}
use Rattle.change_list.specs.declared.entries.Change.{Change}
use Rattle.change_list.specs.Changes.{blank, is_after, HasRisingClocks}

-- the change of a node
abbrev pub entry_at : List Change → ℕ → Change
entry_at entries node = slice_index_or entries node blank

-- the changes of some nodes
abbrev pub changes_at : List Change → List ℕ → List Change
changes_at entries = map (entry_at entries)

-- the nodes with their ids
abbrev pub keyed : List Change → List ℕ → List (List ℕ × ℕ)
keyed entries = map (λ node. ((entry_at entries node).id, node))

-- the ids rise, so that none stands twice
abbrev pub HasRisingIds : List Change → List ℕ → Type 0
HasRisingIds entries order = T (is_sorted (slice_cmp nat_cmp) (keyed entries order))

-- the lists with a node at the end of one, and in no other
abbrev pub moved : ℕ → ℕ → List (List ℕ) → List (List ℕ)
moved node number lists =
    let others = map (without node) lists in slice_set others number (list_at others number ++ node ∷ [])

-- list 0 has the live nodes and list 1 the dead ones, each in the order of their clocks, and the order of ids has both
pub record IsKept (lists : List (List ℕ)) (entries : List Change) (order : List ℕ) (dead_count : ℕ) : Type 0 where
  pub three : length lists ≡ 3
  pub sound : AreSound lists (length entries)
  pub rising : HasRisingIds entries order
  pub live_listed : (node : ℕ) → Contains (list_at lists 0) node → Contains order node × ((entry_at entries node).live ≡ true)
  pub dead_listed : (node : ℕ) → Contains (list_at lists 1) node → Contains order node × ((entry_at entries node).live ≡ false)
  pub linked : (node : ℕ) → Contains order node → Contains (list_at lists 0) node ⊎ Contains (list_at lists 1) node
  pub live_clocks : HasRisingClocks (changes_at entries (list_at lists 0))
  pub dead_clocks : HasRisingClocks (changes_at entries (list_at lists 1))
  pub counted : dead_count ≡ length (list_at lists 1)

-- a node was taken for a change: it is in no list, and the other nodes have the changes that they had
pub record IsTaken (old new : List (List ℕ)) (free : ℕ) (entries afterwards : List Change) (change : Change) (node : ℕ) : Type 0 where
  pub lists : new ≡ map (without node) old
  pub out : (number : ℕ) → Contains (list_at old number) node → number ≡ free
  pub made : node < length afterwards
  pub here : entry_at afterwards node ≡ change
  pub others : (other : ℕ) → other < length entries → (other ≡ node → ⊥) → entry_at afterwards other ≡ entry_at entries other
  pub longer : length entries ≤ length afterwards

-- a node stays in the order after a pruning up to a clock
abbrev pub stays_at : List Change → ℤ → ℕ → Bool
stays_at entries clock node = nat_lt node (length entries) && ((entry_at entries node).live || is_after clock (entry_at entries node))

-- the dead nodes up to a clock were freed, and the others are where they were
pub record AreFreed (old new : List (List ℕ)) (entries : List Change) (clock : ℤ) (count : ℕ) : Type 0 where
  pub three : length new ≡ 3
  pub sound : AreSound new (length entries)
  pub live : list_at new 0 ≡ list_at old 0
  pub dead : list_at new 1 ≡ filter (λ node. is_after clock (entry_at entries node)) (list_at old 1)
  pub counted : count ≡ length (list_at new 1)

-- the whole of a `ChangeList`: which lists it has, and that they hold its changes
pub record IsWhole (live dead free count : ℕ) (lists : List (List ℕ)) (entries : List Change) (order : List ℕ) (dead_count : ℕ) : Type 0 where
  pub live_is : live ≡ 0
  pub dead_is : dead ≡ 1
  pub free_is : free ≡ 2
  pub count_is : count ≡ length entries
  pub kept : IsKept lists entries order dead_count
