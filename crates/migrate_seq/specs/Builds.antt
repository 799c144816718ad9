-- Sequences that fit together, and what keeps a list of sequences from it.
use Rattle.std.specs.Prelude.{ℕ, suc, ◌+◌, ◌*◌, ◌-◌, nat_eq, nat_le, List, [], ◌∷◌, ◌++◌, Bool, true, false, not, ◌&&◌, if◌then◌else◌, Option, Some, None, Result, Ok, Err, length, fold}
use Rattle.std.specs.Prelude as std
use Rattle.std.specs.List.{list_any, list_all}
use Rattle.std.specs.Option.{option_map_or, option_and_then}
use Rattle.std.specs.Ordering.{nat_cmp, is_lt}
use Rattle.std.specs.Cmp.Lexicographic.{slice_cmp}
use Rattle.std.specs.Str.{bytes_eq}
use Rattle.migrate_steps.specs.declared.migration.Migration.{Migration}
use Rattle.migrate_steps.specs.declared.migration.Sequence.{Sequence}
use Rattle.migrate_seq.specs.declared.place.Place.{Place}
use Rattle.migrate_seq.specs.declared.fault.SeqFault.{SeqFault}
use Rattle.migrate_seq.specs.declared.fault.SeqFault.TheVariants.{Gap, BadId, Doubled, UnknownDependency, Cycle}
use Rattle.migrate_seq.specs.Order.{first_some, never_taken}
use Rattle.migrate_seq.specs.Plans.{migrations_at, follows, places_of, is_acyclic}

-- what stands in an id after a sequence's id and `/`
abbrev pub after_slash : List ℕ → List ℕ → Option (List ℕ)
after_slash [] [] = None
after_slash [] (c ∷ rest) = if nat_eq c 47 then Some rest else None
after_slash (x ∷ sequence) [] = None
after_slash (x ∷ sequence) (c ∷ id) = if nat_eq c x then after_slash sequence id else None

abbrev pub is_digit : ℕ → Bool
is_digit c = nat_le 48 c && nat_le c 57

-- a decimal from 1: digits, of which the first isn't 0
abbrev pub is_decimal : List ℕ → Bool
is_decimal [] = false
is_decimal (c ∷ rest) = not (nat_eq c 48) && is_digit c && list_all is_digit rest

-- the number that digits make
abbrev pub number_of : List ℕ → ℕ
number_of digits = fold (λ n c. 10 * n + (c - 48)) 0 digits

-- the decimal in an id that is a sequence's id, `/` and a version
abbrev pub digits_in : List ℕ → List ℕ → Option (List ℕ)
digits_in sequence id = option_and_then (λ digits. if is_decimal digits then Some digits else None) (after_slash sequence id)

-- a sequence's id isn't empty and has no `/`
abbrev pub is_sequence_id : List ℕ → Bool
is_sequence_id id = not (nat_eq (length id) 0) && not (list_any (λ c. nat_eq c 47) id)

-- an id is a sequence's id, `/` and another version than this one
abbrev pub has_other_version : List ℕ → List ℕ → ℕ → Bool
has_other_version sequence id version = option_map_or (λ digits. not (nat_eq (number_of digits) version)) (digits_in sequence id) false

-- the first id with another version than its place, counted from a version on
abbrev pub gap_from : List ℕ → ℕ → List Migration → Option (List ℕ)
gap_from sequence version [] = None
gap_from sequence version (m ∷ ms) = if has_other_version sequence m.id version then Some m.id else gap_from sequence (suc version) ms

-- the first migration id whose version isn't its place; a sequence whose id is bad has none
abbrev pub gap : List Sequence → Option (List ℕ)
gap list = first_some (λ s. if is_sequence_id s.id then gap_from s.id 1 s.migrations.items else None) list

-- the first migration id that isn't its sequence's id, `/` and a version
abbrev pub bad_id_among : List ℕ → List Migration → Option (List ℕ)
bad_id_among sequence ms = first_some (λ m. option_map_or (λ digits. None) (digits_in sequence m.id) (Some m.id)) ms

-- the first id that isn't of its form
abbrev pub bad_id : List Sequence → Option (List ℕ)
bad_id list = first_some (λ s. if is_sequence_id s.id then bad_id_among s.id s.migrations.items else Some s.id) list

-- the first sequence id that stood before, among those before the list too
abbrev pub doubled_after : List Sequence → List Sequence → Option (List ℕ)
doubled_after before [] = None
doubled_after before (s ∷ list) =
    if list_any (λ t. bytes_eq t.id s.id) before then Some s.id else doubled_after (before ++ s ∷ []) list

abbrev pub doubled : List Sequence → Option (List ℕ)
doubled list = doubled_after [] list

abbrev pub has_migration : List ℕ → List Migration → Bool
has_migration id ms = list_any (λ m. bytes_eq m.id id) ms

-- some migration has the id
abbrev pub is_known : List Sequence → List ℕ → Bool
is_known list id = list_any (λ s. has_migration id s.migrations.items) list

-- the first of some dependencies that no migration has as its id
abbrev pub unknown_in : List Sequence → List (List ℕ) → Option (List ℕ)
unknown_in list depends = first_some (λ id. if is_known list id then None else Some id) depends

-- the first dependency that no migration has as its id
abbrev pub unknown : List Sequence → Option (List ℕ)
unknown list = first_some (λ s. first_some (λ m. unknown_in list m.depends.items) s.migrations.items) list

-- a sequence in its place among sequences in the order of their ids
abbrev pub inserted : Sequence → List Sequence → List Sequence
inserted s [] = s ∷ []
inserted s (t ∷ sorted) = if is_lt (slice_cmp nat_cmp s.id t.id) then s ∷ t ∷ sorted else t ∷ inserted s sorted

-- the sequences in the order of their ids
abbrev pub by_id : List Sequence → List Sequence
by_id list = fold (λ sorted s. inserted s sorted) [] list

-- each id is less than those after it
abbrev pub have_rising_ids : List Sequence → Bool
have_rising_ids [] = true
have_rising_ids (s ∷ seqs) = list_all (λ t. is_lt (slice_cmp nat_cmp s.id t.id)) seqs && have_rising_ids seqs

-- the ids of the migrations at some places
abbrev pub ids_at : List Sequence → List Place → List (List ℕ)
ids_at seqs places = std.map (λ m. m.id) (migrations_at seqs places)

-- the sequences, or the ids of the migrations that are never taken, in the order of the names
abbrev pub run_in_turn : List Sequence → Result (List Sequence) SeqFault
run_in_turn seqs = if is_acyclic seqs then Ok seqs else Err (Cycle (ids_at seqs (never_taken (follows seqs) (places_of 0 seqs))))

-- a refusal that carries an id, or what comes after
abbrev pub refuse : (List ℕ → SeqFault) → Option (List ℕ) → Result (List Sequence) SeqFault → Result (List Sequence) SeqFault
refuse fault None next = next
refuse fault (Some id) next = Err (fault id)

-- the sequences in the order of their ids, or the first refusal by its number
abbrev pub built : List Sequence → Result (List Sequence) SeqFault
built list = refuse Gap (gap list) (refuse BadId (bad_id list) (refuse Doubled (doubled list) (refuse UnknownDependency (unknown list) (run_in_turn (by_id list)))))
