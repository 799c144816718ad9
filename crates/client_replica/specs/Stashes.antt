-- What a stash holds, which lies under records that edits have changed: what stood there before.
use Rattle.std.specs.Prelude.{◌≡◌, ◌≤◌, ℕ, List, [], ◌∷◌, length, sum_by, Bool, if◌then◌else◌, Option, is_some, unwrap_or}
use Rattle.std.specs.List.{list_any}
use Rattle.rooms_val.specs.Data.{Data, Pairs}
use Rattle.rooms_val.specs.Maps.{AreRising, value_at, set_at, with_key, without_key}
use Rattle.field_ops.specs.RecordOps.{RecordOps}
use Rattle.doc_store.specs.Slots.{Slots}
use Rattle.edit_names.specs.Names.{Names, count_at, once}
use Rattle.client_replica.specs.Works.{operations}

-- the record that stands under an id with a stash written over the records, or none
abbrev pub under : Slots → Pairs → List ℕ → Option Data
under stash m id = unwrap_or (value_at stash id) (value_at m id)

-- the records with a stash written over them
abbrev pub written_over : Slots → Pairs → Pairs
written_over [] m = m
written_over (s ∷ stash) m = written_over stash (set_at m s.0 s.1)

-- a stash that holds an id: as it did before, or with this
abbrev pub kept : Slots → List ℕ → Option Data → Slots
kept stash id r = if is_some (value_at stash id) then stash else with_key stash id r

-- whether some of the diffs name an id
abbrev pub is_named : List RecordOps → List ℕ → Bool
is_named diffs id = list_any (λ diff. is_some (value_at diff id)) diffs

-- how many of the diffs name an id
abbrev pub times : List RecordOps → List ℕ → ℕ
times diffs id = sum_by (λ diff. once diff id) diffs

-- these are the counts of the ids that diffs name
abbrev pub AreCounted : List RecordOps → Names → Type 0
AreCounted diffs names = (id : List ℕ) → count_at names id ≡ times diffs id

-- a stash without some ids, the last first
abbrev pub without_all : Slots → List (List ℕ) → Slots
without_all stash [] = stash
without_all stash (id ∷ ids) = without_key (without_all stash ids) id

-- a stash lies under the records that diffs made of a base
pub record IsStash (base : Pairs) (diffs : List RecordOps) (records : Pairs) (stash : Slots) : Type 0 where
  -- with the stash written over them the records are the base
  pub base_is : (id : List ℕ) → under stash records id ≡ value_at base id
  -- it holds exactly the ids that the diffs name, in order
  pub exact : (id : List ℕ) → is_some (value_at stash id) ≡ is_named diffs id
  pub rising : AreRising stash
  -- and so no more than the diffs have operations
  pub few : length stash ≤ operations diffs
