-- What a room has accepted, the records that it makes, and which ids it remembers as removed.
use Rattle.std.specs.Prelude.{ℕ, suc, ◌-◌, nat_lt, nat_le, ◌==◌, ℤ, pos, negsuc, List, [], ◌∷◌, ◌++◌, length, map, filter, slice_get, Bool, false, not, if◌then◌else◌, Option, Some, None, is_some, is_none}
use Rattle.std.specs.Option.{option_map_or}
use Rattle.rooms_val.specs.Data.{Pairs}
use Rattle.rooms_val.specs.Maps.{value_at}
use Rattle.doc_model.specs.Documents.{fold_raw}
use Rattle.room_model.specs.declared.history.Author.{Author}
use Rattle.room_model.specs.declared.history.Entry.{Entry}
use Rattle.room_model.specs.declared.limits.TheConstants.{MOST_DEAD, KEPT_DEAD}

-- the entries of a room, the newest first; its length is the room's clock, and an entry's clock the length from it on
abbrev pub History : Type 0
History = List Entry

-- the records of a room: each operation of each entry done to its record, the oldest first, over the empty map
abbrev pub records_of : History → Pairs
records_of [] = []
records_of (entry ∷ history) = fold_raw (records_of history) entry.diff

-- a history up to a clock: its oldest entries, as many as the clock says
abbrev pub oldest : ℕ → History → History
oldest clock [] = []
oldest clock (entry ∷ history) = if nat_lt (length history) clock then entry ∷ history else oldest clock history

-- the same for a clock that may be -1, where nothing was reached
abbrev pub up_to : ℤ → History → History
up_to (pos clock) history = oldest clock history
up_to (negsuc n) history = []

-- the entries of a history above a clock
abbrev pub above : ℕ → History → List Entry
above clock [] = []
above clock (entry ∷ history) = if nat_lt (length history) clock then [] else entry ∷ above clock history

-- whether an entry names an id
abbrev pub names : List ℕ → Entry → Bool
names id entry = is_some (value_at entry.diff id)

-- whether an author is a session
abbrev pub is_author : ℕ → Option Author → Bool
is_author session None = false
is_author session (Some author) = author.session == session

-- whether an entry answers a push of a session
abbrev pub is_by : ℕ → Entry → Bool
is_by session entry = is_author session entry.author

-- the clock of the last entry that names an id, 0 where none does
abbrev pub last_clock : History → List ℕ → ℕ
last_clock [] id = 0
last_clock (entry ∷ history) id = if names id entry then suc (length history) else last_clock history id

-- the ids that entries name, each once with the clock of the last entry that names it, by rising clock
abbrev pub last_clocks : History → List (List ℕ × ℕ)
last_clocks [] = []
last_clocks (entry ∷ history) = filter (λ p. not (names p.0 entry)) (last_clocks history) ++ map (λ c. (c.0, suc (length history))) entry.diff

-- the ids whose last entry lies above a clock
abbrev pub changed_after : ℕ → History → List (List ℕ × ℕ)
changed_after clock history = filter (λ p. nat_lt clock p.1) (last_clocks history)

-- the ids that aren't there and whose last entry lies above a clock
abbrev pub absent_after : ℕ → History → List (List ℕ × ℕ)
absent_after clock history = filter (λ p. is_none (value_at (records_of history) p.0)) (changed_after clock history)

-- the clock at a place of a list that rises by clock, counted from 1
abbrev pub clock_at : ℕ → List (List ℕ × ℕ) → ℕ
clock_at place ids = option_map_or (λ p. p.1) (slice_get ids (place - 1)) 0

-- where too many ids are absent, the clock of the last one to be forgotten; else the start as it was
abbrev pub start_after : ℕ → List (List ℕ × ℕ) → ℕ
start_after start absent = if nat_le (length absent) MOST_DEAD then start else clock_at (length absent - KEPT_DEAD) absent

-- the clock up to which removals are forgotten, in a room that began with a first one
abbrev pub start_of : ℕ → History → ℕ
start_of first [] = first
start_of first (entry ∷ history) = start_after (start_of first history) (absent_after (start_of first history) (entry ∷ history))

-- the removed ids that are remembered, a session's presence among them, each with the clock of its removal, by rising clock
abbrev pub dead : ℕ → History → List (List ℕ × ℕ)
dead first history = absent_after (start_of first history) history
