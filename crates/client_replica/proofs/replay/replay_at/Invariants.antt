use Rattle.std.proofs.Common.{◌≡◌, ◌-◌, length, map, drop}
use Rattle.rooms_val.specs.Data.{Pairs}
use Rattle.rooms_val.specs.Maps.{value_at}
use Rattle.field_ops.specs.View.{maybe_data}
use Rattle.schema_core.specs.Admits.{is_admitted}
use Rattle.schema_core.specs.SchemaOf.{schema_tree}
use Rattle.doc_model.specs.Documents.{replay}
use Rattle.client_replica.specs.Works.{work_of, diffs_in}
use Rattle.client_replica.proofs.replay.replay_at.Given as goal

-- over each document that has the record so far, what is left leaves what all works leave over one that has the first
abbrev pub invariant-works : goal.invariant-works
invariant-works l =
    let admits = is_admitted (schema_tree l.fn.schema) in
    (m n : Pairs) → value_at m l.fn.id ≡ maybe_data l.fn.slot → value_at n l.fn.id ≡ maybe_data l.stored
    → value_at (replay admits n (diffs_in (map work_of (drop l.place l.fn.works.items)))) l.fn.id ≡ value_at (replay admits m (diffs_in (map work_of (drop l.fn.from l.fn.works.items)))) l.fn.id

abbrev pub decreases-works : goal.decreases-works
decreases-works l = length l.fn.works.items - l.place
