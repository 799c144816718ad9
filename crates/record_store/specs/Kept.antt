-- What the store keeps.
use Rattle.std.specs.Prelude.{◌≡◌, ℕ, ◌<◌, ◌≤◌, List, [], ◌∷◌, length, Some}
use Rattle.rooms_val.specs.Data.{map, members_of, IsSound}
use Rattle.doc_store.specs.declared.store.TheConstants.{MOST_OPEN}
use Rattle.signal_core.specs.declared.watch.Watch.{Watch}
use Rattle.signal_core.specs.Watches.{watch_at}
use Rattle.signal_txn.specs.Seen as txn
use Rattle.signal_values.specs.Seen.{top}
use Rattle.shape_tree.specs.Trees.{most_levels}
use Rattle.tl_rules.specs.Atoms.{ArePlainAtoms}
use Rattle.tl_rules.specs.Exact.{key_cmp}
use Rattle.tl_rules.specs.Meaning.{tl_meaning}
use Rattle.tl_rules.specs.declared.key.TlKey.{TlKey}
use Rattle.tl_rules.specs.declared.key.TlKey.TheVariants as key
use Rattle.tl_rules.specs.declared.value.TlValue.{TlValue}
use Rattle.record_store.specs.Seen.{Keys, Seen, AreKeys, records_under, atoms, watches, epoch, ring}
use Rattle.signal_txn.specs.Turns.{AreInTurn}

-- the atoms are what the plain queries say of the records that they have, which are sound
pub record IsBoard (keys : Keys) (atoms : TlKey → TlValue) : Type 0 where
  pub plain : ArePlainAtoms atoms (records_under keys atoms)
  pub sound : IsSound (map (members_of (records_under keys atoms)))

-- so of each of several
abbrev pub AreBoards : Keys → List (TlKey → TlValue) → Type 0
AreBoards keys [] = Unit {0}
AreBoards keys (atoms ∷ older) = IsBoard keys atoms × AreBoards keys older

-- a box looks at most so many levels down
abbrev pub IsLevelled : TlKey → Type 0
IsLevelled (key.Rec id) = Unit {0}
IsLevelled (key.ByParent id) = Unit {0}
IsLevelled (key.BoundFrom id) = Unit {0}
IsLevelled (key.BoundTo id) = Unit {0}
IsLevelled (key.Bound id) = Unit {0}
IsLevelled (key.Tree page) = Unit {0}
IsLevelled (key.Count page) = Unit {0}
IsLevelled (key.Box id levels) = levels ≤ most_levels

-- the atoms are a board's, now and where each open transaction began, of which there are at most 16; writes stand in their
-- order, as long as the epoch rises
pub record IsStore (store : Seen) : Type 0 where
  pub keys : AreKeys store.keys
  pub now : IsBoard store.keys (atoms store)
  pub before : AreBoards store.keys (txn.begun tl_meaning key_cmp store.txn)
  pub depth : length store.txn.journal.levels ≤ MOST_OPEN
  pub order : epoch store < top → AreInTurn store.txn.journal.levels (ring store) (epoch store)
  pub levelled : (number : ℕ) (watch : Watch TlKey TlValue) → watch_at (watches store) number ≡ Some watch → IsLevelled watch.key
