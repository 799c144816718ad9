-- The store, as contracts see it.
use Rattle.std.specs.Prelude.{◌≡◌, ℕ, List, Option, Some, map}
use Rattle.rooms_val.specs.Data.{Pairs}
use Rattle.rooms_val.specs.Maps.{AreRising, value_at, seen}
use Rattle.doc_store.specs.Slots.{present}
use Rattle.signal_core.specs.declared.watch.Watch.{Watch}
use Rattle.signal_txn.specs.LastWrites.{LastWrites}
use Rattle.signal_txn.specs.Seen as txn
use Rattle.tl_rules.specs.Answers.{record_in}
use Rattle.tl_rules.specs.Exact.{key_cmp}
use Rattle.tl_rules.specs.Meaning.{tl_meaning}
use Rattle.tl_rules.specs.declared.key.TlKey.{TlKey}
use Rattle.tl_rules.specs.declared.key.TlKey.TheVariants as key
use Rattle.tl_rules.specs.declared.rules.TlRules.{TlRules}
use Rattle.tl_rules.specs.declared.value.TlValue.{TlValue}

-- keys by id
abbrev pub Keys : Type 0
Keys = List (List ℕ × TlKey)

-- the ids rise, and each has the key of its record
pub record AreKeys (keys : Keys) : Type 0 where
  pub rising : AreRising keys
  pub of_records : (id : List ℕ) (k : TlKey) → value_at keys id ≡ Some k → k ≡ key.Rec id

-- what contracts see of a `RecordStore`: the keys of the records that were ever written, and the transactions over the graph
pub record Seen : Type 0 where
  pub keys : Keys
  pub txn : txn.Seen TlRules TlKey TlValue

-- the records that atoms have under some keys
abbrev pub records_under : Keys → (TlKey → TlValue) → Pairs
records_under keys atoms = present (seen (λ k. record_in (atoms k)) keys)

-- the atoms
abbrev pub atoms : Seen → TlKey → TlValue
atoms store = txn.atoms_in tl_meaning key_cmp store.txn

-- the records by id
abbrev pub records : Seen → Pairs
records store = records_under store.keys (atoms store)

-- the records at which the open transactions began, the newest first
abbrev pub begun : Seen → List Pairs
begun store = map (records_under store.keys) (txn.begun tl_meaning key_cmp store.txn)

-- by number what is watched, and what was last told of it
abbrev pub watches : Seen → List (Option (Watch TlKey TlValue))
watches store = store.txn.graph.watches

-- how many calls changed an atom
abbrev pub epoch : Seen → ℕ
epoch store = store.txn.graph.values.epoch

-- the last writes that are committed
abbrev pub ring : Seen → LastWrites TlKey TlValue
ring store = store.txn.journal.ring
