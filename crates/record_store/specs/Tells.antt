-- What the writes since an epoch tell.
use Rattle.std.specs.Prelude.{◌≡◌, ◌⊎◌, ℕ, ◌≤◌, List, Contains}
use Rattle.std.specs.List.{fold}
use Rattle.rooms_val.specs.Data.{Pairs}
use Rattle.rooms_val.specs.Maps.{set_at}
use Rattle.signal_txn.specs.declared.write.Write.{Write}
use Rattle.signal_txn.specs.Since.{IsUnknown, diffs_after}
use Rattle.tl_rules.specs.Answers.{record_in}
use Rattle.tl_rules.specs.declared.key.TlKey.{TlKey}
use Rattle.tl_rules.specs.declared.key.TlKey.TheVariants as key
use Rattle.tl_rules.specs.declared.value.TlValue.{TlValue}
use Rattle.record_store.specs.Seen.{Seen, records, epoch, ring}

-- the records after a write of an atom, which changes them where it is that of a record
abbrev pub written_under : Pairs → TlKey → TlValue → Pairs
written_under m (key.Rec id) v = set_at m id (record_in v)
written_under m (key.ByParent id) v = m
written_under m (key.BoundFrom id) v = m
written_under m (key.BoundTo id) v = m
written_under m (key.Bound id) v = m
written_under m (key.Tree page) v = m
written_under m (key.Count page) v = m
written_under m (key.Box id levels) v = m

abbrev pub written : Pairs → TlKey × TlValue → Pairs
written m w = written_under m w.0 w.1

-- the records after some writes, the oldest first
abbrev pub written_all : Pairs → List (TlKey × TlValue) → Pairs
written_all = fold written

-- what a store tells of the writes since an epoch leads from some records to its own
abbrev pub TellsFrom : Seen → ℕ → Pairs → Type 0
TellsFrom store since m = written_all m (diffs_after since (ring store).writes) ≡ records store

-- what joined the last committed writes is of these atoms
abbrev pub JoinsOnly : (TlKey → Type 0) → Seen → Seen → Type 0
JoinsOnly IsChanged old new = (w : Write TlKey TlValue) → Contains (ring new).writes w → Contains (ring old).writes w ⊎ IsChanged w.key

-- of an epoch that was reached the store tells no more, or it told before, and what it tells leads on to its records
abbrev pub TellsOn : Seen → Seen → Type 0
TellsOn old new = (since : ℕ) → since ≤ epoch old
    → IsUnknown new.txn since ⊎ ((IsUnknown old.txn since → ⊥) × ((m : Pairs) → TellsFrom old since m → TellsFrom new since m))
