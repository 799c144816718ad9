-- What becomes of a saved room that is brought to a newer schema.
use Rattle.std.specs.Prelude.{ℤ, pos, ◌+ℤ◌, List, [], ◌∷◌, Result, IsPermutation}
use Rattle.std.specs.Prelude as std
use Rattle.std.specs.Result.{result_map_both}
use Rattle.rooms_val.specs.Data.{Pairs}
use Rattle.migrate_seq.specs.declared.fault.PlanFault.{PlanFault}
use Rattle.migrate_steps.specs.declared.migration.Migration.{Migration}
use Rattle.migrate_steps.specs.declared.migration.Sequence.{Sequence}
use Rattle.migrate_seq.specs.declared.place.Place.{Place}
use Rattle.migrate_seq.specs.Plans.{migrations_at, plan_answer}
use Rattle.migrate_steps.specs.Records.{raised_along, raised_map}
use Rattle.migrate_seq.specs.Versions.{Versions}
use Rattle.room_snapshot.specs.Ids.{by_id}
use Rattle.room_snapshot.specs.Saved.{Documents, SavedTree, records_of}

-- the records of a map, each with this clock
abbrev pub all_at : ℤ → Pairs → Documents
all_at clock ps = std.map (λ p. (p.1, clock)) ps

-- the clock after one entry more
abbrev pub next_clock : SavedTree → ℤ
next_clock s = s.clock +ℤ pos 1

-- the saved room after some migrations up: the records by id go through them, the clock is one more, and each
-- record's clock is that one
abbrev pub raised_along_all : List Migration → SavedTree → SavedTree
raised_along_all ms s = record {
  clock = next_clock s;
  start = s.start;
  documents = all_at (next_clock s) (raised_map ms (by_id (records_of s.documents)));
  tombstones = s.tombstones;
}

-- the saved room after a plan: as it was if the plan is empty
abbrev pub raised_by : List Sequence → SavedTree → List Place → SavedTree
raised_by seqs s [] = s
raised_by seqs s (p ∷ plan) = raised_along_all (migrations_at seqs (p ∷ plan)) s

-- the saved room after the plan of these sequences for who holds these versions, or why there is no plan
abbrev pub raised : List Sequence → Versions → SavedTree → Result SavedTree PlanFault
raised seqs held s = result_map_both (raised_by seqs s) (λ fault. fault) (plan_answer seqs held)

-- each record became what the migrations make of it alone, with this clock, in some order
abbrev pub AreRaised : List Migration → ℤ → Documents → Documents → Type 0
AreRaised ms clock before after = IsPermutation (std.map (λ d. (raised_along ms d.0, clock)) before) after
