-- Changes of ids, as contracts see them, and which dead ones are kept.
use Rattle.std.specs.Prelude.{◌≡◌, ℕ, ◌-◌, ◌≤ℤ◌, ℤ, pos, Bool, true, false, not, if◌then◌else◌, nat_lt, int_lt, List, [], ◌∷◌, ◌++◌, map, filter, length, slice_index_or, All, Contains, IsPermutation, IsSortedBy}
use Rattle.std.specs.Ordering.{nat_cmp, is_eq, is_lt}
use Rattle.std.specs.Cmp.Lexicographic.{slice_cmp}
use Rattle.room_model.specs.declared.limits.TheConstants.{MOST_DEAD, KEPT_DEAD}
use Rattle.change_list.specs.declared.entries.Change.{Change}

-- what contracts see of a `ChangeList`: the live and the dead changes, each in the order of their clocks, where the
-- dead begin, and how many new ids need no memory
pub record Changes : Type 0 where
  pub live : List Change
  pub dead : List Change
  pub start : ℤ
  pub spare : ℕ

abbrev pub listed : Changes → List Change
listed changes = changes.live ++ changes.dead

-- a change of no id, for places where there is none
abbrev pub blank : Change
blank = record { id = []; clock = pos 0; live = false }

-- how two changes stand by their ids, whose bytes are compared
abbrev pub has_id : List ℕ → Change → Bool
has_id id change = is_eq (slice_cmp nat_cmp change.id id)

abbrev pub is_below : Change → Change → Bool
is_below left right = is_lt (slice_cmp nat_cmp left.id right.id)

-- some change is of the id
abbrev pub IsListed : List Change → List ℕ → Type 0
IsListed changes id = Contains (map (λ change. change.id) changes) id

-- each clock is at most those after it
abbrev pub HasRisingClocks : List Change → Type 0
HasRisingClocks [] = Unit {0}
HasRisingClocks (change ∷ changes) = All (λ later. change.clock ≤ℤ later.clock) changes × HasRisingClocks changes

-- no id stands twice
abbrev pub HasDistinctIds : List Change → Type 0
HasDistinctIds [] = Unit {0}
HasDistinctIds (change ∷ changes) = (IsListed changes change.id → ⊥) × HasDistinctIds changes

-- what holds of every `ChangeList`: no id stands twice, the clocks rise along both lists, and each change says whether
-- it is live
pub record AreInOrder (changes : Changes) : Type 0 where
  pub distinct : HasDistinctIds (listed changes)
  pub live_clocks : HasRisingClocks changes.live
  pub dead_clocks : HasRisingClocks changes.dead
  pub live_are : All (λ change. change.live ≡ true) changes.live
  pub dead_are : All (λ change. change.live ≡ false) changes.dead

-- the changes without that of an id
abbrev pub without_id : List ℕ → List Change → List Change
without_id id = filter (λ change. not (has_id id change))

-- no change is after the clock
abbrev pub AreUpTo : ℤ → List Change → Type 0
AreUpTo clock = All (λ change. change.clock ≤ℤ clock)

abbrev pub is_after : ℤ → Change → Bool
is_after clock change = int_lt clock change.clock

-- the changes after a clock, all of them and no others, by rising id
pub record AreSince (changes : List Change) (clock : ℤ) (answer : List Change) : Type 0 where
  pub same : IsPermutation (filter (is_after clock) changes) answer
  pub rising : IsSortedBy is_below answer

-- how many may be dead before some are dropped, and how many then stay, unless more share a clock
abbrev pub most_dead : ℕ
most_dead = MOST_DEAD

abbrev pub kept_dead : ℕ
kept_dead = KEPT_DEAD

-- where the dead begin after a pruning: where more than `most` are dead, at the clock of the one with `kept` after it
abbrev pub next_start : ℕ → ℕ → ℤ → List Change → ℤ
next_start most kept start dead =
    if nat_lt most (length dead) then (slice_index_or dead (length dead - kept - 1) blank).clock else start

-- the dead after a pruning: where more than `most` are dead, those after the new start
abbrev pub next_dead : ℕ → ℕ → ℤ → List Change → List Change
next_dead most kept start dead =
    if nat_lt most (length dead) then filter (is_after (next_start most kept start dead)) dead else dead
