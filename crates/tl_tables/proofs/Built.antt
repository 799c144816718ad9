-- What is built of sequences, said of what they stand for.
use Rattle.std.proofs.Common.{◌≡◌, ℕ, Bool, true, false, not, ◌&&◌, cond, zero, suc, ◌≤◌, ◌<◌, inl, inr, arith, List, [], ◌∷◌, map, filter, fold, length, Option, Some, None, Ok, Err, refl, sym, ap, subst, ◌∙◌}
use Rattle.std.specs.Prelude.{nat_le, nat_eq, codes}
use Rattle.std.proofs.lemmas.Bool.{cases_lt, le-leb}
use Rattle.std.specs.List.{list_all}
use Rattle.std.proofs.lemmas.List.{length-map}
use Rattle.std.specs.Ordering.{nat_cmp, is_lt}
use Rattle.std.specs.Cmp.Lexicographic.{slice_cmp}
use Rattle.migrate_steps.specs.declared.migration.Sequence.{Sequence}
use Rattle.migrate_steps.specs.declared.step.MigStep.{MigStep}
use Rattle.migrate_steps.specs.declared.step.MigStep.TheVariants.{Add, Remove, Rename, MapEnum, Scale, Nest, Unnest}
use Rattle.migrate_steps.specs.Steps.{can_scale}
use Rattle.migrate_seq.specs.Plans.{can_all_scale, is_acyclic, follows, places_of}
use Rattle.migrate_seq.specs.Order.{never_taken}
use Rattle.migrate_seq.specs.Builds.{inserted, by_id, ids_at, gap, bad_id, doubled, unknown, refuse, built}
use Rattle.migrate_seq.specs.declared.fault.SeqFault.{SeqFault}
use Rattle.migrate_seq.specs.declared.fault.SeqFault.TheVariants.{Gap, BadId, Doubled, UnknownDependency, Cycle}
use Rattle.tl_tables.specs.Trees.{StepTree, MigrationTree, SequenceTree, step_tree, migration_tree, sequence_tree, add, remove, rename, map_enum, scale, nest, unnest}
use Rattle.tl_tables.specs.Migrations.{has_migrations, asset_1, base_1, binding_1, page_1, shape_1, shape_2, sequence_at, asset, base, binding, page, shape, sequences}
use Rattle.tl_tables.specs.declared.tables.TheConstants.{NEWEST_VERSION}

-- a factor is at least 2
abbrev pub scales : StepTree → Bool
scales (add path key v) = true
scales (remove path key v) = true
scales (rename path old new) = true
scales (map_enum path key pairs) = true
scales (scale path key factor) = nat_le 2 factor
scales (nest path keys into) = true
scales (unnest path keys into) = true

scales_step : (s : MigStep) → can_scale s ≡ scales (step_tree s)
scales_step (Add path key v) = refl
scales_step (Remove path key v) = refl
scales_step (Rename path old new) = refl
scales_step (MapEnum path key pairs) = refl
scales_step (Scale path key factor) = refl
scales_step (Nest path keys into) = refl
scales_step (Unnest path keys into) = refl

all_seen : {A B : Type 0} (see : A → B) (p : A → Bool) (q : B → Bool) → ((x : A) → p x ≡ q (see x)) → (xs : List A) → list_all p xs ≡ list_all q (map see xs)
all_seen see p q each [] = refl
all_seen see p q each (x ∷ xs) = λ i. each x i && all_seen see p q each xs i

abbrev pub migration_scales : MigrationTree → Bool
migration_scales m = list_all scales m.steps

abbrev pub sequence_scales : SequenceTree → Bool
sequence_scales s = list_all migration_scales s.migrations

pub all_scale : (list : List Sequence) → can_all_scale list ≡ list_all sequence_scales (map sequence_tree list)
all_scale list = all_seen sequence_tree _ sequence_scales (λ s. all_seen migration_tree _ migration_scales (λ m. all_seen step_tree can_scale scales scales_step m.steps.items) s.migrations.items) list

abbrev kept : List (ℕ × MigrationTree) → List MigrationTree
kept rows = map (λ m. m.1) rows

-- the sequences by whether a version is at least 1, 2 and so on
abbrev tables : Bool → Bool → Bool → Bool → Bool → List SequenceTree
tables one two three four five = filter has_migrations (
    record { id = codes "rooms.asset"; retroactive = true; migrations = kept (cond four ((4, asset_1) ∷ []) []) }
    ∷ record { id = codes "rooms.base"; retroactive = true; migrations = kept (cond one ((1, base_1) ∷ []) []) }
    ∷ record { id = codes "rooms.binding"; retroactive = true; migrations = kept (cond three ((3, binding_1) ∷ []) []) }
    ∷ record { id = codes "rooms.page"; retroactive = true; migrations = kept (cond five ((5, page_1) ∷ []) []) }
    ∷ record { id = codes "rooms.shape"; retroactive = true; migrations = kept (cond two ((2, shape_1) ∷ cond three ((3, shape_2) ∷ []) []) (cond three ((3, shape_2) ∷ []) [])) }
    ∷ []
    )

sequences-tables : (version : ℕ) → sequences version ≡ tables (nat_le 1 version) (nat_le 2 version) (nat_le 3 version) (nat_le 4 version) (nat_le 5 version)
unfolding sequences asset base binding page shape sequence_at
sequences-tables version = refl

-- above the newest version they stay as they are
sequences-above : (version : ℕ) → NEWEST_VERSION < version → sequences version ≡ sequences NEWEST_VERSION
unfolding sequences asset base binding page shape sequence_at
sequences-above version high =
    sequences-tables version
    ∙ λ i. tables (le-leb 1 version (omega arith) i) (le-leb 2 version (omega arith) i) (le-leb 3 version (omega arith) i) (le-leb 4 version (omega arith) i) (le-leb 5 version (omega arith) i)

-- it holds of each number up to one
abbrev pub UpTo : (ℕ → Type 0) → ℕ → Type 0
UpTo P zero = P zero
UpTo P (suc n) = UpTo P n × P (suc n)

up_to : (P : ℕ → Type 0) (m : ℕ) → UpTo P m → (n : ℕ) → n ≤ m → P n
up_to P zero each n low = let none : 0 ≡ n = omega arith in subst P none each
up_to P (suc m) each n low = elim (cases_lt n (suc m)) [
  | inl less ↦ up_to P m each.0 n (omega arith)
  | inr last ↦ let same : suc m ≡ n = omega arith in subst P same each.1
]

-- what holds of the tables at each version, up to the newest one
pub by_version : (P : List SequenceTree → Type 0) → UpTo (λ n. P (sequences n)) NEWEST_VERSION → (version : ℕ) → P (sequences version)
by_version P each version = elim (cases_lt NEWEST_VERSION version) [
  | inl high ↦ subst P (sym (sequences-above version high)) (up_to (λ n. P (sequences n)) NEWEST_VERSION each NEWEST_VERSION (omega arith))
  | inr low ↦ up_to (λ n. P (sequences n)) NEWEST_VERSION each version low
]

all_scaled : UpTo (λ n. list_all sequence_scales (sequences n) ≡ true) NEWEST_VERSION
unfolding sequences asset base binding page shape sequence_at asset_1 base_1 binding_1 page_1 shape_1 shape_2
all_scaled = (((((refl, refl), refl), refl), refl), refl)

-- each factor in the tables is at least 2
pub tables_scale : (version : ℕ) → list_all sequence_scales (sequences version) ≡ true
tables_scale = by_version (λ ts. list_all sequence_scales ts ≡ true) all_scaled

-- a sequence in its place
abbrev placed : SequenceTree → List SequenceTree → List SequenceTree
placed s [] = s ∷ []
placed s (t ∷ sorted) = cond (is_lt (slice_cmp nat_cmp s.id t.id)) (s ∷ t ∷ sorted) (t ∷ placed s sorted)

inserted_seen : (s : Sequence) (list : List Sequence) → map sequence_tree (inserted s list) ≡ placed (sequence_tree s) (map sequence_tree list)
inserted_seen s [] = refl
inserted_seen s (t ∷ list) = elim (is_lt (slice_cmp nat_cmp s.id t.id)) as (λ b. map sequence_tree (cond b (s ∷ t ∷ list) (t ∷ inserted s list)) ≡ cond b (sequence_tree s ∷ sequence_tree t ∷ map sequence_tree list) (sequence_tree t ∷ placed (sequence_tree s) (map sequence_tree list))) [
  | true ↦ refl
  | false ↦ ap (λ rest. sequence_tree t ∷ rest) (inserted_seen s list)
]

sorted_from : (list sorted : List Sequence) → map sequence_tree (fold (λ ts s. inserted s ts) sorted list) ≡ fold (λ ts s. placed s ts) (map sequence_tree sorted) (map sequence_tree list)
sorted_from [] sorted = refl
sorted_from (s ∷ list) sorted = sorted_from list (inserted s sorted) ∙ ap (λ ts. fold (λ us t. placed t us) ts (map sequence_tree list)) (inserted_seen s sorted)

all_in_order : UpTo (λ n. fold (λ ts s. placed s ts) [] (sequences n) ≡ sequences n) NEWEST_VERSION
unfolding sequences asset base binding page shape sequence_at
all_in_order = (((((refl, refl), refl), refl), refl), refl)

-- the sequences of the tables stand in the order of their ids
in_order : (version : ℕ) → fold (λ ts s. placed s ts) [] (sequences version) ≡ sequences version
in_order = by_version (λ ts. fold (λ us s. placed s us) [] ts ≡ ts) all_in_order

sorted : (version : ℕ) (list : List Sequence) → map sequence_tree list ≡ sequences version → map sequence_tree (by_id list) ≡ sequences version
sorted version list is = sorted_from list [] ∙ ap (fold (λ ts s. placed s ts) []) is ∙ in_order version

only_sorted : (a b c d : Option (List ℕ)) (turn : Bool) (fault : SeqFault) (list seqs : List Sequence)
    → refuse Gap a (refuse BadId b (refuse Doubled c (refuse UnknownDependency d (cond turn (Ok list) (Err fault))))) ≡ Ok seqs → list ≡ seqs
only_sorted None None None None true fault list seqs is = (cc)
only_sorted None None None None false fault list seqs is = (cc)
only_sorted None None None (Some id) turn fault list seqs is = (cc)
only_sorted None None (Some id) d turn fault list seqs is = (cc)
only_sorted None (Some id) c d turn fault list seqs is = (cc)
only_sorted (Some id) b c d turn fault list seqs is = (cc)

-- what is built of the tables' sequences stands for them
pub built_is : (version : ℕ) (list seqs : List Sequence) → map sequence_tree list ≡ sequences version → built list ≡ Ok seqs → map sequence_tree seqs ≡ sequences version
built_is version list seqs seen is =
    let by : List Sequence = by_id list in
    let left = Cycle (ids_at by (never_taken (follows by) (places_of 0 by))) in
    ap (map sequence_tree) (sym (only_sorted (gap list) (bad_id list) (doubled list) (unknown list) (is_acyclic by) left by seqs is)) ∙ sorted version list seen

filtered_seen : (p : Sequence → Bool) → ((s : Sequence) → p s ≡ has_migrations (sequence_tree s)) → (list : List Sequence) → map sequence_tree (filter p list) ≡ filter has_migrations (map sequence_tree list)
filtered_seen p is [] = refl
filtered_seen p is (s ∷ list) =
    ap (λ b. map sequence_tree (cond b (s ∷ filter p list) (filter p list))) (is s)
    ∙ elim (has_migrations (sequence_tree s)) as (λ b. map sequence_tree (cond b (s ∷ filter p list) (filter p list)) ≡ cond b (sequence_tree s ∷ filter has_migrations (map sequence_tree list)) (filter has_migrations (map sequence_tree list))) [
      | true ↦ ap (λ rest. sequence_tree s ∷ rest) (filtered_seen p is list)
      | false ↦ filtered_seen p is list
    ]

-- whether a vector of migrations has one
abbrev pub is_filled : Sequence → Bool
is_filled s = not (nat_eq s.migrations.len 0)

pub filled_seen : (list : List Sequence) → map sequence_tree (filter is_filled list) ≡ filter has_migrations (map sequence_tree list)
filled_seen = filtered_seen is_filled (λ s. ap (λ n. not (nat_eq n 0)) (s.migrations.ok.0 ∙ sym (length-map s.migrations.items migration_tree)))

-- a list of what stands for each sequence of the tables that has migrations
pub seen : (version : ℕ) (list kept : List Sequence) (a b n p s : Sequence) → list ≡ a ∷ b ∷ n ∷ p ∷ s ∷ []
    → sequence_tree a ≡ asset version → sequence_tree b ≡ base version → sequence_tree n ≡ binding version → sequence_tree p ≡ page version → sequence_tree s ≡ shape version
    → map sequence_tree kept ≡ filter has_migrations (map sequence_tree list) → map sequence_tree kept ≡ sequences version
unfolding sequences
seen version list kept a b n p s is first second third fourth fifth left =
    left ∙ ap (λ l. filter has_migrations (map sequence_tree l)) is ∙ λ i. filter has_migrations (first i ∷ second i ∷ third i ∷ fourth i ∷ fifth i ∷ [])
