use Rattle.std.proofs.Common.{◌≡◌, subst}
use Rattle.std.specs.Prelude.{MatchOption}
use Rattle.room_snapshot.specs.Ids.{HaveIds, IsFirstFault}
use Rattle.room_snapshot.specs.Saved.{saved_tree, records_of}
use Rattle.schema_core.specs.SchemaOf.{schema_tree}
use Rattle.schema_core.specs.Tree.{SchemaTree}
use Rattle.table_schemas.proofs.PresenceLemmas.{presences}
use Rattle.tl_tables.specs.Tables.{IsSchemaAt}
use Rattle.rooms_val.proofs.Truths.{if_ok_then}
use Rattle.snapshot_jobs.specs.Restored.{IsRoomOf, IsWorldOf}
use Rattle.snapshot_jobs.proofs.RangeLemmas.{clock_low}
use Rattle.snapshot_jobs.proofs.WorldLemmas.{made_of, unplanned}
use Rattle.snapshot_jobs.proofs.restore.world_of.Goals as goal

pub raise-requires-clause-clock : goal.raise-requires-clause-clock
raise-requires-clause-clock g c = let line = c.requires.line in clock_low line.0 (saved_tree c.args.snapshot.saved) c.args.snapshot.held line.1.value

pub room_of-requires : goal.room_of-requires
room_of-requires g c = presences c.args.version (schema_tree c.in-Ok.schema) c.in-Ok.ensures.known

pub returns-in-Ok-raise : goal.returns-in-Ok-raise
returns-in-Ok-raise g c =
    let tree = schema_tree c.in-Ok.schema in
    let saved = saved_tree c.args.snapshot.saved in
    let held = c.args.snapshot.held in
    let ds = records_of saved.documents in
    let ids : HaveIds ds = subst (λ o. MatchOption o (HaveIds ds) (IsFirstFault ds)) c.in_default.is c.in_ok-id.ensures.first in
    if_ok_then c.room_of.result (λ answer. IsRoomOf tree c.in-Ok-raise.saved answer) (λ answer. (x : SchemaTree) × IsSchemaAt c.args.version x × IsWorldOf x saved held answer) c.room_of.ensures
    (λ answer of. (tree, c.in-Ok.ensures.known, made_of tree saved held ids c.in-Ok-raise.saved answer c.in-Ok-raise.ensures.answer of))

pub returns-in_ok-plan_fault_text-in-Err : goal.returns-in_ok-plan_fault_text-in-Err
returns-in_ok-plan_fault_text-in-Err g c =
    let tree = schema_tree c.in-Ok.schema in
    let saved = saved_tree c.args.snapshot.saved in
    let ds = records_of saved.documents in
    let ids : HaveIds ds = subst (λ o. MatchOption o (HaveIds ds) (IsFirstFault ds)) c.in_default.is c.in_ok-id.ensures.first in
    (tree, c.in-Ok.ensures.known, unplanned tree saved c.args.snapshot.held ids c.in-Err.fault c.in_ok-plan_fault_text-in-Err.field-0 c.in-Err.ensures.answer c.in_ok-plan_fault_text-in-Err.ensures)
