-- Plans: which migrations somebody misses, and in which order they are run.
use Rattle.std.specs.Prelude.{ℕ, zero, suc, ◌-◌, nat_eq, nat_lt, List, [], ◌∷◌, ◌++◌, Bool, true, false, ◌&&◌, ◌||◌, if◌then◌else◌, Option, Some, None, Result, Ok, Err, length, slice_get, find, fold}
use Rattle.std.specs.List.{list_any, list_all, filter_map}
use Rattle.std.specs.Option.{option_map_or, option_and_then}
use Rattle.std.specs.Str.{bytes_eq}
use Rattle.migrate_steps.specs.declared.migration.Migration.{Migration}
use Rattle.migrate_steps.specs.declared.migration.MigScope.{MigScope}
use Rattle.migrate_steps.specs.declared.migration.MigScope.TheVariants.{Record, Store}
use Rattle.migrate_steps.specs.declared.migration.Sequence.{Sequence}
use Rattle.migrate_seq.specs.declared.fault.PlanFault.{PlanFault}
use Rattle.migrate_seq.specs.declared.fault.PlanFault.TheVariants.{TooNew, UnknownSequence}
use Rattle.migrate_seq.specs.declared.place.Place.{Place}
use Rattle.migrate_seq.specs.Order.{first_some, in_order, never_taken, IsOrderOf}
use Rattle.migrate_steps.specs.Steps.{can_scale}
use Rattle.migrate_seq.specs.Versions.{Versions}
use Rattle.rooms_val.specs.Maps.{value_at, with_key}

-- the migration at a place
abbrev pub migration_at : List Sequence → Place → Option Migration
migration_at seqs p = option_and_then (λ s. slice_get s.migrations.items p.migration) (slice_get seqs p.sequence)

-- the migrations at some places
abbrev pub migrations_at : List Sequence → List Place → List Migration
migrations_at seqs places = filter_map (migration_at seqs) places

-- one migration names the other among those that it depends on
abbrev pub depends_on : Option Migration → Option Migration → Bool
depends_on (Some later) (Some earlier) = list_any (λ id. bytes_eq id earlier.id) later.depends.items
depends_on (Some later) None = false
depends_on None earlier = false

-- the later one is the next in the sequence of the earlier one, or depends on it
abbrev pub follows : List Sequence → Place → Place → Bool
follows seqs later earlier =
    (nat_eq later.sequence earlier.sequence && nat_eq later.migration (suc earlier.migration))
    || depends_on (migration_at seqs later) (migration_at seqs earlier)

-- one place comes before another: by the sequences' order, which is that of their ids, and then by version
abbrev pub comes_before : Place → Place → Bool
comes_before a b = nat_lt a.sequence b.sequence || (nat_eq a.sequence b.sequence && nat_lt a.migration b.migration)

-- the places of n migrations of a sequence, from one of them on
abbrev pub places_from : ℕ → ℕ → ℕ → List Place
places_from sequence migration zero = []
places_from sequence migration (suc n) = record { sequence = sequence; migration = migration } ∷ places_from sequence (suc migration) n

-- how many migrations of a sequence aren't missed: those up to the version that is held
abbrev pub first_missing : Versions → Sequence → ℕ
first_missing held s = option_map_or (λ n. n) (value_at held s.id) (if s.retroactive then 0 else length s.migrations.items)

-- the places that are missed of the sequences from the i-th on
abbrev pub missing_from : Versions → ℕ → List Sequence → List Place
missing_from held i [] = []
missing_from held i (s ∷ seqs) =
    places_from i (first_missing held s) (length s.migrations.items - first_missing held s) ++ missing_from held (suc i) seqs

-- the migrations that somebody misses, who holds these versions
abbrev pub missing : List Sequence → Versions → List Place
missing seqs held = missing_from held 0 seqs

-- all migrations of the sequences from the i-th on
abbrev pub places_of : ℕ → List Sequence → List Place
places_of i [] = []
places_of i (s ∷ seqs) = places_from i 0 (length s.migrations.items) ++ places_of (suc i) seqs

-- what is wrong with a version that is held
abbrev pub version_fault : List Sequence → List ℕ × ℕ → Option PlanFault
version_fault seqs v =
    option_map_or (λ s. if nat_lt (length s.migrations.items) v.1 then Some (TooNew v.0) else None)
    (find (λ s. bytes_eq s.id v.0) seqs) (Some (UnknownSequence v.0))

-- what is wrong with the first version at fault
abbrev pub first_fault : List Sequence → Versions → Option PlanFault
first_fault seqs held = first_some (version_fault seqs) held

-- nothing, or what is wrong
abbrev pub refusal : Option PlanFault → Result (Unit {0}) PlanFault
refusal None = Ok tt
refusal (Some fault) = Err fault

-- the missing migrations in their order
abbrev pub plan_of : List Sequence → Versions → List Place
plan_of seqs held = in_order (follows seqs) (missing seqs held)

-- the plan, or what is wrong with what is held
abbrev pub plan_answer : List Sequence → Versions → Result (List Place) PlanFault
plan_answer seqs held = option_map_or Err (first_fault seqs held) (Ok (plan_of seqs held))

-- the list is the plan: each missing one once, at each place the least free one of those from there on
abbrev pub IsPlan : List Sequence → Versions → List Place → Type 0
IsPlan seqs held plan = IsOrderOf (follows seqs) comes_before (missing seqs held) plan

-- every migration is taken in turn
abbrev pub is_acyclic : List Sequence → Bool
is_acyclic seqs = nat_eq (length (never_taken (follows seqs) (places_of 0 seqs))) 0

-- each factor of each sequence is at least 2
abbrev pub can_all_scale : List Sequence → Bool
can_all_scale seqs = list_all (λ s. list_all (λ m. list_all can_scale m.steps.items) s.migrations.items) seqs

-- it works on one record at a time
abbrev pub is_record : MigScope → Bool
is_record Record = true
is_record Store = false

-- each migration works on one record at a time
abbrev pub are_of_records : List Migration → Bool
are_of_records ms = list_all (λ m. is_record m.scope) ms

-- each migration works on one record at a time and may be run down
abbrev pub are_both_ways : List Migration → Bool
are_both_ways ms = list_all (λ m. is_record m.scope && m.has_down) ms

-- the newest version of each sequence that has migrations
abbrev pub newest_versions : List Sequence → Versions
newest_versions seqs = fold (λ vs s. if nat_eq (length s.migrations.items) 0 then vs else with_key vs s.id (length s.migrations.items)) [] seqs
