-- The one value by which a saved room is written.
use Rattle.std.specs.Prelude.{ℕ, ℤ, List, [], ◌∷◌, codes, fold}
use Rattle.std.specs.Prelude as std
use Rattle.rooms_val.specs.Data.{Data, Pairs, whole, list, map, items_of, members_of}
use Rattle.rooms_val.specs.Maps.{seen, with_key}
use Rattle.migrate_seq.specs.Versions.{Versions, schema_of}
use Rattle.room_snapshot.specs.Saved.{Documents, Tombs, SavedTree}

-- the fields of a record with its clock, by key
abbrev pub document_fields : Data × ℤ → Pairs
document_fields d = (codes "lastChangedClock", whole d.1) ∷ (codes "state", d.0) ∷ []

-- the value of a record with its clock
abbrev pub document_val : Data × ℤ → Data
document_val d = map (members_of (document_fields d))

-- the value of records, in their order
abbrev pub documents_val : Documents → Data
documents_val ds = list (items_of (std.map document_val ds))

-- tombstones by their ids; of two with one id the later one counts
abbrev pub tombs_by_id : Tombs → Tombs
tombs_by_id ts = fold (λ m t. with_key m t.0 t.1) [] ts

-- the value of tombstones: a clock under each id
abbrev pub tombs_val : Tombs → Data
tombs_val ts = map (members_of (seen whole (tombs_by_id ts)))

-- the fields of a saved room with the versions of its schema, by key
abbrev pub line_fields : SavedTree → Versions → Pairs
line_fields s held =
    (codes "clock", whole s.clock) ∷ (codes "documents", documents_val s.documents) ∷ (codes "schema", schema_of held)
    ∷ (codes "tombstoneHistoryStartsAtClock", whole s.start) ∷ (codes "tombstones", tombs_val s.tombstones) ∷ []

-- the value of a saved room with the versions of its schema
abbrev pub line_val : SavedTree → Versions → Data
line_val s held = map (members_of (line_fields s held))
