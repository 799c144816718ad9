-- Plans go by what sequences stand for, and the empty one leads from a version of the tables to itself alone.
use Rattle.std.proofs.Common.{◌≡◌, ℕ, suc, ◌-◌, ◌≤◌, Bool, true, false, not, ◌&&◌, ◌||◌, cond, List, [], ◌∷◌, ◌++◌, length, map, fold, Option, None, Some, option_map, Ok, Err, refl, sym, ap, ◌∙◌, arith}
use Rattle.std.specs.Prelude.{Result, slice_get, nat_eq, nat_lt, find}
use Rattle.std.specs.List.{list_any}
use Rattle.std.specs.Option.{option_map_or, option_and_then}
use Rattle.std.specs.Str.{bytes_eq}
use Rattle.std.proofs.lemmas.Bool.{agree_below, agree_below_at, false≢true, eqb-true, and_parts}
use Rattle.std.proofs.lemmas.List.{length-map}
use Rattle.std.proofs.lemmas.Option.{slice_get-map}
use Rattle.std.proofs.lemmas.Slice.Eq.{bytes_eq-Decides}
use Rattle.rooms_val.specs.Maps.{value_at, with_key}
use Rattle.migrate_seq.specs.Order.{first_some, in_order}
use Rattle.migrate_seq.specs.Plans.{migration_at, depends_on, follows, places_from, missing_from, version_fault, plan_answer}
use Rattle.migrate_seq.specs.Versions.{Versions}
use Rattle.migrate_seq.specs.declared.fault.PlanFault.{PlanFault}
use Rattle.migrate_seq.specs.declared.fault.PlanFault.TheVariants.{TooNew, UnknownSequence}
use Rattle.migrate_steps.specs.declared.migration.Migration.{Migration}
use Rattle.migrate_steps.specs.declared.migration.Sequence.{Sequence}
use Rattle.migrate_seq.specs.declared.place.Place.{Place}
use Rattle.tl_tables.specs.Migrations.{asset_1, base_1, binding_1, page_1, shape_1, shape_2, sequence_at, asset, base, binding, page, shape, sequences}
use Rattle.tl_tables.specs.Trees.{MigrationTree, SequenceTree, migration_tree, sequence_tree}
use Rattle.tl_tables.specs.declared.tables.TheConstants.{NEWEST_VERSION}

-- which migrations of a sequence are missed, by the number of all
abbrev first_of : Versions → List ℕ → Bool → ℕ → ℕ
first_of held id retroactive n = option_map_or (λ k. k) (value_at held id) (cond retroactive 0 n)

abbrev missing_of : Versions → ℕ → List SequenceTree → List Place
missing_of held i [] = []
missing_of held i (t ∷ trees) =
    let n = length t.migrations in
    let first = first_of held t.id t.retroactive n in
    places_from i first (n - first) ++ missing_of held (suc i) trees

missing_seen : (held : Versions) (i : ℕ) (seqs : List Sequence) → missing_from held i seqs ≡ missing_of held i (map sequence_tree seqs)
missing_seen held i [] = refl
missing_seen held i (s ∷ seqs) =
    let places : ℕ → List Place = λ n. let first = first_of held s.id s.retroactive n in places_from i first (n - first) in
    ap (λ n. places n ++ missing_from held (suc i) seqs) (sym (length-map s.migrations.items migration_tree))
    ∙ ap (λ rest. places (length (map migration_tree s.migrations.items)) ++ rest) (missing_seen held (suc i) seqs)

-- what is wrong with a version that is held, by the number of migrations
abbrev fault_by : List ℕ × ℕ → ℕ → Option PlanFault
fault_by v n = cond (nat_lt n v.1) (Some (TooNew v.0)) None

abbrev fault_of : List SequenceTree → List ℕ × ℕ → Option PlanFault
fault_of trees v = option_map_or (λ t. fault_by v (length t.migrations)) (find (λ t. bytes_eq t.id v.0) trees) (Some (UnknownSequence v.0))

fault_seen : (seqs : List Sequence) (v : List ℕ × ℕ) → version_fault seqs v ≡ fault_of (map sequence_tree seqs) v
fault_seen [] v = refl
fault_seen (s ∷ seqs) v = elim (bytes_eq s.id v.0) as (λ b.
    option_map_or (λ (x : Sequence). fault_by v (length x.migrations.items)) (cond b (Some s) (find (λ (x : Sequence). bytes_eq x.id v.0) seqs)) (Some (UnknownSequence v.0))
    ≡ option_map_or (λ (t : SequenceTree). fault_by v (length t.migrations)) (cond b (Some (sequence_tree s)) (find (λ (t : SequenceTree). bytes_eq t.id v.0) (map sequence_tree seqs))) (Some (UnknownSequence v.0))) [
      | true ↦ ap (fault_by v) (sym (length-map s.migrations.items migration_tree))
      | false ↦ fault_seen seqs v
    ]

abbrev pub at_of : List SequenceTree → Place → Option MigrationTree
at_of trees p = option_and_then (λ t. slice_get t.migrations p.migration) (slice_get trees p.sequence)

pub at_seen : (seqs : List Sequence) (p : Place) → option_map migration_tree (migration_at seqs p) ≡ at_of (map sequence_tree seqs) p
at_seen seqs p =
    elim (slice_get seqs p.sequence) as (λ o.
    option_map migration_tree (option_and_then (λ (s : Sequence). slice_get s.migrations.items p.migration) o)
    ≡ option_and_then (λ (t : SequenceTree). slice_get t.migrations p.migration) (option_map sequence_tree o)) [
      | None ↦ refl
      | Some s ↦ sym (slice_get-map migration_tree s.migrations.items p.migration)
    ]
    ∙ ap (λ o. option_and_then (λ (t : SequenceTree). slice_get t.migrations p.migration) o) (sym (slice_get-map sequence_tree seqs p.sequence))

abbrev depends_of : Option MigrationTree → Option MigrationTree → Bool
depends_of (Some later) (Some earlier) = list_any (λ id. bytes_eq id earlier.id) later.depends
depends_of (Some later) None = false
depends_of None earlier = false

depends_seen : (later earlier : Option Migration) → depends_on later earlier ≡ depends_of (option_map migration_tree later) (option_map migration_tree earlier)
depends_seen (Some later) (Some earlier) = refl
depends_seen (Some later) None = refl
depends_seen None earlier = refl

abbrev follows_of : List SequenceTree → Place → Place → Bool
follows_of trees later earlier =
    (nat_eq later.sequence earlier.sequence && nat_eq later.migration (suc earlier.migration))
    || depends_of (at_of trees later) (at_of trees earlier)

follows_seen : (seqs : List Sequence) → follows seqs ≡ follows_of (map sequence_tree seqs)
follows_seen seqs = λ i later earlier.
    (nat_eq later.sequence earlier.sequence && nat_eq later.migration (suc earlier.migration))
    || (depends_seen (migration_at seqs later) (migration_at seqs earlier) ∙ λ j. depends_of (at_seen seqs later j) (at_seen seqs earlier j)) i

-- the plan of the sequences that trees stand for
abbrev pub answer_of : List SequenceTree → Versions → Result (List Place) PlanFault
answer_of trees held = option_map_or Err (first_some (fault_of trees) held) (Ok (in_order (follows_of trees) (missing_of held 0 trees)))

pub answer_seen : (seqs : List Sequence) (held : Versions) → plan_answer seqs held ≡ answer_of (map sequence_tree seqs) held
answer_seen seqs held = λ i.
    option_map_or Err (first_some (λ v. fault_seen seqs v i) held) (Ok (in_order (follows_seen seqs i) (missing_seen held 0 seqs i)))

-- a plan is there, and is empty
abbrev pub is_empty : Result (List Place) PlanFault → Bool
is_empty (Ok []) = true
is_empty (Ok (place ∷ plan)) = false
is_empty (Err fault) = false

-- a test holds of 0 and of each version of the tables
abbrev holds_of_each : (ℕ → Bool) → Bool
holds_of_each test = agree_below test (λ n. true) (suc NEWEST_VERSION)

holds_at : (test : ℕ → Bool) → holds_of_each test ≡ true → (n : ℕ) → n ≤ NEWEST_VERSION → test n ≡ true
holds_at test each n low = agree_below_at test (λ n. true) (suc NEWEST_VERSION) n each (omega arith)

-- the newest migration of each sequence of the tables at a version
abbrev pub newest_in : ℕ → Versions
newest_in version = map (λ (t : SequenceTree). (t.id, length t.migrations)) (sequences version)

-- an empty plan leads from one version to the other only if they are the same
abbrev leads_to : ℕ → ℕ → Bool
leads_to m n = nat_eq m n || not (is_empty (answer_of (sequences m) (newest_in n)))

all_lead : holds_of_each (λ m. holds_of_each (leads_to m)) ≡ true
unfolding sequences asset base binding page shape sequence_at asset_1 base_1 binding_1 page_1 shape_1 shape_2
all_lead = refl

same_if : (same empty : Bool) → (same || not empty) ≡ true → empty ≡ true → same ≡ true
same_if true empty either is = refl
same_if false true either is = either
same_if false false either is = is

pub leads : (m n : ℕ) → m ≤ NEWEST_VERSION → n ≤ NEWEST_VERSION
    → is_empty (answer_of (sequences m) (newest_in n)) ≡ true → m ≡ n
leads m n first second is =
    let led = holds_at (leads_to m) (holds_at (λ k. holds_of_each (leads_to k)) all_lead m first) n second in
    eqb-true m n (same_if (nat_eq m n) (is_empty (answer_of (sequences m) (newest_in n))) led is)

-- the newest migration of each of some sequences, after some versions
abbrev pub newest_of : Versions → List SequenceTree → Versions
newest_of held trees = fold (λ vs t. cond (nat_eq (length t.migrations) 0) vs (with_key vs t.id (length t.migrations))) held trees

pub newest_seen : (held : Versions) (seqs : List Sequence)
    → fold (λ vs (s : Sequence). cond (nat_eq (length s.migrations.items) 0) vs (with_key vs s.id (length s.migrations.items))) held seqs ≡ newest_of held (map sequence_tree seqs)
newest_seen held [] = refl
newest_seen held (s ∷ seqs) =
    let after : ℕ → Versions = λ n. cond (nat_eq n 0) held (with_key held s.id n) in
    newest_seen (after (length s.migrations.items)) seqs
    ∙ ap (λ n. newest_of (after n) (map sequence_tree seqs)) (sym (length-map s.migrations.items migration_tree))

-- versions are the same, name by name
abbrev are_same : Versions → Versions → Bool
are_same [] [] = true
are_same [] (w ∷ ws) = false
are_same (v ∷ vs) [] = false
are_same (v ∷ vs) (w ∷ ws) = bytes_eq v.0 w.0 && (nat_eq v.1 w.1 && are_same vs ws)

same_versions : (vs ws : Versions) → are_same vs ws ≡ true → vs ≡ ws
same_versions [] [] is = refl
same_versions [] (w ∷ ws) is = absurd (false≢true is)
same_versions (v ∷ vs) [] is = absurd (false≢true is)
same_versions (v ∷ vs) (w ∷ ws) is =
    let parts = and_parts (bytes_eq v.0 w.0) (nat_eq v.1 w.1 && are_same vs ws) is in
    let later = and_parts (nat_eq v.1 w.1) (are_same vs ws) parts.1 in
    let name : v.0 ≡ w.0 = (bytes_eq-Decides v.0 w.0).0 parts.0 in
    let number : v.1 ≡ w.1 = eqb-true v.1 w.1 later.0 in
    λ i. (name i, number i) ∷ same_versions vs ws later.1 i

abbrev is_newest : ℕ → Bool
is_newest n = are_same (newest_of [] (sequences n)) (newest_in n)

all_newest : holds_of_each is_newest ≡ true
unfolding sequences asset base binding page shape sequence_at asset_1 base_1 binding_1 page_1 shape_1 shape_2
all_newest = refl

pub newest_are : (n : ℕ) → n ≤ NEWEST_VERSION → newest_of [] (sequences n) ≡ newest_in n
newest_are n low = same_versions (newest_of [] (sequences n)) (newest_in n) (holds_at is_newest all_newest n low)
