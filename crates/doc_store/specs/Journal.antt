-- A journal of transactions: where each began, and what stood in a slot before each write, the newest first.
use Rattle.std.specs.Prelude.{◌≡◌, ℕ, List, [], ◌∷◌, Bool, true, false, if◌then◌else◌, Option, Some, None, option_map, is_some, reverse, string_bytes}
use Rattle.std.specs.Prelude as std
use Rattle.std.specs.Ordering.{nat_cmp, eq_by_cmp}
use Rattle.std.specs.Cmp.Lexicographic.{slice_cmp}
use Rattle.rooms_val.specs.Data.{Data, Pairs}
use Rattle.rooms_val.specs.Maps.{value_at, set_at}
use Rattle.field_ops.specs.View.{maybe_data}
use Rattle.doc_store.specs.Slots.{Slots, present}
use Rattle.doc_store.specs.declared.journal.Entry.{Entry}
use Rattle.doc_store.specs.declared.journal.Entry.TheVariants as v

pub data Note : Type 0 where
  began : Note
  wrote : List ℕ → Option (Option Data) → Note

-- the records at which the open transactions began: each write is undone up to there
abbrev pub begun : List Note → Slots → List Pairs
begun [] slots = []
begun (began ∷ older) slots = present slots ∷ begun older slots
begun (wrote id before ∷ older) slots = begun older (set_at slots id before)

-- what stood in a slot can be put back into the slot, which is still there
abbrev pub IsUndoable : List Note → Slots → Type 0
IsUndoable [] slots = Unit {0}
IsUndoable (began ∷ older) slots = IsUndoable older slots
IsUndoable (wrote id before ∷ older) slots = (is_some before ≡ true → is_some (value_at slots id) ≡ true) × IsUndoable older (set_at slots id before)

-- the slots as they are where all that is noted was undone
abbrev pub slots_before : List Note → Slots → Slots
slots_before [] slots = slots
slots_before (began ∷ older) slots = slots_before older slots
slots_before (wrote id before ∷ older) slots = slots_before older (set_at slots id before)

-- an id is among those that were written
abbrev pub is_noted : List Note → List ℕ → Bool
is_noted [] id = false
is_noted (began ∷ older) id = is_noted older id
is_noted (wrote other before ∷ older) id = if eq_by_cmp (slice_cmp nat_cmp) id other then true else is_noted older id

-- only slots that were written are empty
abbrev pub AreNoted : List Note → Slots → Type 0
AreNoted notes slots = (id : List ℕ) → value_at slots id ≡ Some None → is_noted notes id ≡ true

-- the journal without the newest beginning
abbrev pub forgotten : List Note → List Note
forgotten [] = []
forgotten (began ∷ older) = older
forgotten (wrote id before ∷ older) = wrote id before ∷ forgotten older

abbrev pub note_of : Entry → Note
note_of v.Began = began
note_of (v.Wrote id before) = wrote (string_bytes id) (option_map maybe_data before)

-- the notes of a vector that grows at its end
abbrev pub notes_of : List Entry → List Note
notes_of es = reverse (std.map note_of es)
