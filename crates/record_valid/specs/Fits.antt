-- Which values fit a check.
use Rattle.std.specs.Prelude.{◌≡◌, ℕ, ◌≤◌, ◌≤ℤ◌, List, Bool, false, Option, Some, None, ◌⊎◌, IsSome, IsSomeAnd, IsFalse, Contains, MatchBool, length}
use Rattle.std.specs.Ordering.{nat_cmp, eq_by_cmp}
use Rattle.std.specs.Cmp.Lexicographic.{slice_cmp}
use Rattle.index_keys.specs.Keys.{IsKey}
use Rattle.rooms_val.specs.Data.{Data, null, Items, no_items, item, Members, member, pairs_of}
use Rattle.record_valid.specs.Tree.{CheckTree, whole, text, one_of, boolean, key, id_of, nullable, list_of, dict, object, by_type, any, Rows, no_rows, row, table_of}
use Rattle.record_valid.specs.Ids.{IsIdOf}
use Rattle.rooms_val.specs.Kinds.{as_truth, as_whole, as_text, as_items, as_members}
use Rattle.record_valid.specs.Parts.{type_text, lacks}
use Rattle.rooms_val.specs.Maps.{keys_of}

-- the map has exactly the keys of the table
pub record HasKeys (rs : Rows) (ms : Members) : Type 0 where
  pub none_missing : IsFalse (lacks (keys_of (table_of rs)) (keys_of (pairs_of ms)))
  pub none_extra : IsFalse (lacks (keys_of (pairs_of ms)) (keys_of (table_of rs)))

-- each item has the property
abbrev pub EachItem : (Data → Type 0) → Items → Type 0
EachItem P no_items = Unit {0}
EachItem P (item d ds) = P d × EachItem P ds

-- the text that was found is this one
abbrev pub names : Option (List ℕ) → List ℕ → Bool
names None k = false
names (Some t) k = eq_by_cmp (slice_cmp nat_cmp) t k

-- the value fits the check, as a field of a map with this text under `type`, or with none
abbrev mutual
  pub Fits : Option (List ℕ) → CheckTree → Data → Type 0
  Fits kind (whole least most) d = IsSomeAnd (as_whole d) (λ z. (least ≤ℤ z) × (z ≤ℤ most))
  Fits kind (text most) d = IsSomeAnd (as_text d) (λ t. length t ≤ most)
  Fits kind (one_of texts) d = IsSomeAnd (as_text d) (Contains texts)
  Fits kind boolean d = IsSome (as_truth d)
  Fits kind key d = IsSomeAnd (as_text d) (λ t. IsKey t × (length t ≤ 256))
  Fits kind (id_of types) d = IsSomeAnd (as_text d) (IsIdOf types)
  Fits kind (nullable c) d = (d ≡ null) ⊎ Fits kind c d
  Fits kind (list_of c) d = IsSomeAnd (as_items d) (EachItem (λ e. Fits None c e))
  Fits kind dict d = IsSome (as_members d)
  Fits kind (object rs) d = IsSomeAnd (as_members d) (λ ms. HasKeys rs ms × FieldsFit (type_text (pairs_of ms)) rs ms)
  Fits kind (by_type rs) d = RowFits kind rs d
  Fits kind any d = Unit {0}

  -- side by side, in the order of the keys, the values fit the checks
  pub FieldsFit : Option (List ℕ) → Rows → Members → Type 0
  FieldsFit kind (row k c rs) (member k' d ms) = Fits kind c d × FieldsFit kind rs ms
  FieldsFit kind _ _ = Unit {0}

  -- the text is in the table, and the value fits the check under it
  pub RowFits : Option (List ℕ) → Rows → Data → Type 0
  RowFits kind no_rows d = ⊥
  RowFits kind (row k c rs) d = MatchBool (names kind k) (Fits kind c d) (RowFits kind rs d)
