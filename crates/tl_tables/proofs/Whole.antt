-- The tables' sequences fit together.
use Rattle.std.proofs.Common.{◌≡◌, ◌≤◌, ℕ, true, List, [], ◌∷◌, map, length, is_ok, refl, sym, ap, subst, ◌∙◌}
use Rattle.std.specs.Prelude.{Vec}
use native.Mathlib.Nat.{ℕ_set}
use native.Mathlib.Bridge.{le_prop}
use mathlib.Core.HLevel.{×_prop}
use Rattle.migrate_steps.specs.declared.migration.Migration.{Migration}
use Rattle.migrate_steps.specs.declared.migration.Sequence.{Sequence}
use Rattle.migrate_seq.specs.Builds.{built}
use Rattle.tl_tables.specs.Trees.{MigrationTree, SequenceTree, migration_tree, sequence_tree}
use Rattle.tl_tables.specs.Migrations.{asset_1, base_1, binding_1, page_1, shape_1, shape_2, sequence_at, asset, base, binding, page, shape, sequences}
use Rattle.tl_tables.specs.declared.tables.TheConstants.{NEWEST_VERSION}
use Rattle.tl_tables.proofs.Built.{UpTo, by_version}

-- a vector whose items are written otherwise
module _ {A Z : Type 0} (v : Vec A Z) where
  abbrev Counts : List A → Type 0
  Counts xs = (v.len ≡ length xs) × (v.len ≤ v.cap)

  counts_prop : (xs : List A) → IsProp (Counts xs)
  counts_prop xs = ×_prop (ℕ_set _ _) le_prop

  abbrev rewritten : (xs : List A) → v.items ≡ xs → Vec A Z
  rewritten xs is = record v { items = xs; ok = (v.ok.0 ∙ ap length is, v.ok.1) }

  rewritten-is : (xs : List A) (is : v.items ≡ xs) → rewritten xs is ≡ v
  rewritten-is xs is =
      let same : (ok : Counts v.items) → record v { ok = ok } ≡ v = λ ok. ap (λ o. record v { ok = o }) (counts_prop v.items ok v.ok) in
      subst (λ ys. (ok : Counts ys) → record v { items = ys; ok = ok } ≡ v) is same (v.ok.0 ∙ ap length is, v.ok.1)

-- a list that is seen as another, with its parts written as that one's are
module _ {A B : Type 0} (see : A → B) where
  first : (xs : List A) (y : B) (ys : List B) → map see xs ≡ y ∷ ys → A
  first [] y ys is = absurd (let none : [] ≡ y ∷ ys = is in (cc))
  first (x ∷ xs) y ys is = x

  rest : (xs : List A) (y : B) (ys : List B) → map see xs ≡ y ∷ ys → List A
  rest [] y ys is = []
  rest (x ∷ xs) y ys is = xs

  first-is : (xs : List A) (y : B) (ys : List B) (is : map see xs ≡ y ∷ ys) → see (first xs y ys is) ≡ y
  unfolding first
  first-is [] y ys is = absurd (let none : [] ≡ y ∷ ys = is in (cc))
  first-is (x ∷ xs) y ys is = (cc)

  rest-is : (xs : List A) (y : B) (ys : List B) (is : map see xs ≡ y ∷ ys) → map see (rest xs y ys is) ≡ ys
  unfolding rest
  rest-is [] y ys is = absurd (let none : [] ≡ y ∷ ys = is in (cc))
  rest-is (x ∷ xs) y ys is = (cc)

  module _ (again : (x : A) (y : B) → see x ≡ y → A) (again-is : (x : A) (y : B) (is : see x ≡ y) → again x y is ≡ x) where
    abbrev redone : (ys : List B) (xs : List A) → map see xs ≡ ys → List A
    redone [] xs is = []
    redone (y ∷ ys) xs is = again (first xs y ys is) y (first-is xs y ys is) ∷ redone ys (rest xs y ys is) (rest-is xs y ys is)

    redone-is : (ys : List B) (xs : List A) (is : map see xs ≡ ys) → redone ys xs is ≡ xs
    unfolding first rest
    redone-is [] [] is = refl
    redone-is [] (x ∷ xs) is = absurd (let none : see x ∷ map see xs ≡ [] = is in (cc))
    redone-is (y ∷ ys) [] is = absurd (let none : [] ≡ y ∷ ys = is in (cc))
    redone-is (y ∷ ys) (x ∷ xs) is = λ i. again-is x y (first-is (x ∷ xs) y ys is) i ∷ redone-is ys xs (rest-is (x ∷ xs) y ys is) i

abbrev migration_again : (m : Migration) (t : MigrationTree) → migration_tree m ≡ t → Migration
migration_again m t is = record m { id = t.id; depends = rewritten m.depends t.depends (ap (λ x. x.depends) is) }

migration_again-is : (m : Migration) (t : MigrationTree) (is : migration_tree m ≡ t) → migration_again m t is ≡ m
migration_again-is m t is =
    let id : t.id ≡ m.id = sym (ap (λ x. x.id) is) in
    λ i. record m { id = id i; depends = rewritten-is m.depends t.depends (ap (λ x. x.depends) is) i }

abbrev migrations_again : (ts : List MigrationTree) (ms : List Migration) → map migration_tree ms ≡ ts → List Migration
migrations_again = redone migration_tree migration_again migration_again-is

abbrev sequence_again : (s : Sequence) (t : SequenceTree) → sequence_tree s ≡ t → Sequence
sequence_again s t is =
    let seen = ap (λ x. x.migrations) is in
    record s { id = t.id; migrations = rewritten s.migrations (migrations_again t.migrations s.migrations.items seen) (sym (redone-is migration_tree migration_again migration_again-is t.migrations s.migrations.items seen)) }

sequence_again-is : (s : Sequence) (t : SequenceTree) (is : sequence_tree s ≡ t) → sequence_again s t is ≡ s
sequence_again-is s t is =
    let seen = ap (λ x. x.migrations) is in
    let id : t.id ≡ s.id = sym (ap (λ x. x.id) is) in
    λ i. record s { id = id i; migrations = rewritten-is s.migrations (migrations_again t.migrations s.migrations.items seen) (sym (redone-is migration_tree migration_again migration_again-is t.migrations s.migrations.items seen)) i }

abbrev sequences_again : (ts : List SequenceTree) (list : List Sequence) → map sequence_tree list ≡ ts → List Sequence
sequences_again = redone sequence_tree sequence_again sequence_again-is

-- sequences that stand for these can be built
abbrev Fits : List SequenceTree → Type 0
Fits ts = (list : List Sequence) (is : map sequence_tree list ≡ ts) → is_ok (built (sequences_again ts list is)) ≡ true

all_fit : UpTo (λ n. Fits (sequences n)) NEWEST_VERSION
unfolding sequences asset base binding page shape sequence_at asset_1 base_1 binding_1 page_1 shape_1 shape_2
all_fit = ((((((λ list is. refl), (λ list is. refl)), (λ list is. refl)), (λ list is. refl)), (λ list is. refl)), (λ list is. refl))

-- what stands for the tables' sequences can be built
pub fits : (version : ℕ) (list : List Sequence) → map sequence_tree list ≡ sequences version → is_ok (built list) ≡ true
fits version list seen =
    ap (λ l. is_ok (built l)) (sym (redone-is sequence_tree sequence_again sequence_again-is (sequences version) list seen))
    ∙ by_version Fits all_fit version list seen
