-- The migrations, in sequences.
use Rattle.std.specs.Prelude.{ℕ, nat_le, nat_eq, List, [], ◌∷◌, Bool, true, false, not, length, map, filter, codes}
use Rattle.rooms_val.specs.Data.{boolean, text}
use Rattle.migrate_steps.specs.declared.migration.Filter.TheVariants.{All, Type_, Kind}
use Rattle.migrate_steps.specs.declared.migration.MigScope.TheVariants.{Record, Store}
use Rattle.tl_tables.specs.Trees.{MigrationTree, SequenceTree, add, rename, map_enum, scale, nest}

unfoldable pub asset_1 : MigrationTree
asset_1 = record {
  id = codes "rooms.asset/1";
  scope = Record;
  filter = Type_ (codes "asset");
  steps = nest (codes "props" ∷ []) (codes "h" ∷ codes "w" ∷ []) (codes "dims") ∷ [];
  has_down = true;
  depends = [];
}

unfoldable pub base_1 : MigrationTree
base_1 = record { id = codes "rooms.base/1"; scope = Record; filter = All; steps = []; has_down = false; depends = [] }

unfoldable pub page_1 : MigrationTree
page_1 = record {
  id = codes "rooms.page/1";
  scope = Store;
  filter = Type_ (codes "page");
  steps = add [] (codes "hidden") (boolean false) ∷ [];
  has_down = false;
  depends = [];
}

unfoldable pub shape_1 : MigrationTree
shape_1 = record {
  id = codes "rooms.shape/1";
  scope = Record;
  filter = Type_ (codes "shape");
  steps = rename [] (codes "alpha") (codes "opacity") ∷ scale [] (codes "opacity") 10 ∷ [];
  has_down = true;
  depends = [];
}

unfoldable pub shape_2 : MigrationTree
shape_2 = record {
  id = codes "rooms.shape/2";
  scope = Record;
  filter = Kind (codes "shape") (codes "geo");
  steps = add (codes "props" ∷ []) (codes "dash") (text (codes "draw"))
      ∷ map_enum (codes "props" ∷ []) (codes "geo") ((codes "oval", codes "ellipse") ∷ [])
      ∷ [];
  has_down = true;
  depends = [];
}

unfoldable pub binding_1 : MigrationTree
binding_1 = record {
  id = codes "rooms.binding/1";
  scope = Record;
  filter = Type_ (codes "binding");
  steps = nest (codes "props" ∷ []) (codes "anchorX" ∷ codes "anchorY" ∷ []) (codes "anchor")
      ∷ rename (codes "props" ∷ codes "anchor" ∷ []) (codes "anchorX") (codes "x")
      ∷ rename (codes "props" ∷ codes "anchor" ∷ []) (codes "anchorY") (codes "y")
      ∷ [];
  has_down = true;
  depends = codes "rooms.shape/2" ∷ [];
}

-- those of some migrations that are there at a version, each given with the first version that has it
abbrev pub present : ℕ → List (ℕ × MigrationTree) → List MigrationTree
present version migrations = map (λ m. m.1) (filter (λ m. nat_le m.0 version) migrations)

-- a retroactive sequence of those migrations
unfoldable pub sequence_at : ℕ → List ℕ → List (ℕ × MigrationTree) → SequenceTree
sequence_at version id migrations = record { id = id; retroactive = true; migrations = present version migrations }

unfoldable pub asset : ℕ → SequenceTree
asset version = sequence_at version (codes "rooms.asset") ((4, asset_1) ∷ [])

unfoldable pub base : ℕ → SequenceTree
base version = sequence_at version (codes "rooms.base") ((1, base_1) ∷ [])

unfoldable pub binding : ℕ → SequenceTree
binding version = sequence_at version (codes "rooms.binding") ((3, binding_1) ∷ [])

unfoldable pub page : ℕ → SequenceTree
page version = sequence_at version (codes "rooms.page") ((5, page_1) ∷ [])

unfoldable pub shape : ℕ → SequenceTree
shape version = sequence_at version (codes "rooms.shape") ((2, shape_1) ∷ (3, shape_2) ∷ [])

-- a sequence has a migration
abbrev pub has_migrations : SequenceTree → Bool
has_migrations s = not (nat_eq (length s.migrations) 0)

-- the sequences of which a migration is there at a version, in the order of their ids
unfoldable pub sequences : ℕ → List SequenceTree
sequences version = filter has_migrations (asset version ∷ base version ∷ binding version ∷ page version ∷ shape version ∷ [])
