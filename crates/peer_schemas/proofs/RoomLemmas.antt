-- What a room's schema decides goes by its types and by what its sequences stand for, and so by the version.
use Rattle.std.proofs.Common.{◌≡◌, ℕ, Bool, ◌&&◌, cond, List, [], ◌∷◌, map, fold, None, Some, option_map, Ok, Err, refl, sym, ap, ◌∙◌}
use Rattle.std.specs.Prelude.{Result}
use Rattle.std.specs.List.{list_all, filter_map, cons_option}
use Rattle.rooms_val.specs.Data.{Data, Pairs}
use Rattle.rooms_val.specs.Maps.{without_key}
use Rattle.migrate_seq.specs.Plans.{migration_at, migrations_at, plan_answer, is_record, are_both_ways}
use Rattle.migrate_steps.specs.Records.{passes, raised, lowered, through, migrated, raised_along, lowered_along}
use Rattle.migrate_steps.specs.Steps.{at_path, added, renamed, toward, changed_at, replaced, scaled, divided, nested, unnested, stepped}
use Rattle.migrate_seq.specs.Versions.{Versions}
use Rattle.migrate_seq.specs.declared.fault.PlanFault.{PlanFault}
use Rattle.migrate_steps.specs.declared.migration.Migration.{Migration}
use Rattle.migrate_steps.specs.declared.migration.Sequence.{Sequence}
use Rattle.migrate_steps.specs.declared.step.MigStep.{MigStep}
use Rattle.migrate_steps.specs.declared.step.MigStep.TheVariants.{Add, Remove, Rename, MapEnum, Scale, Nest, Unnest}
use Rattle.migrate_steps.specs.declared.step.Way.{Way}
use Rattle.migrate_steps.specs.declared.step.Way.TheVariants.{Up, Down}
use Rattle.schema_core.specs.Admits.{is_admitted, is_document}
use Rattle.schema_core.specs.Tree.{SchemaTree, Types}
use Rattle.room_model.specs.Schemas.{Schemas, Plan}
use Rattle.room_schemas.specs.Decided.{is_presence, both_ways_only, plan_for, raise, lower, decided}
use Rattle.sync_msgs.specs.declared.end_reason.EndReason.{EndReason}
use Rattle.sync_msgs.specs.declared.end_reason.EndReason.TheVariants.{ClientTooOld, ServerTooOld}
use Rattle.tl_tables.specs.Tables.{IsSchemaAt}
use Rattle.tl_tables.specs.Trees.{Path, StepTree, add, remove, rename, map_enum, scale, nest, unnest, MigrationTree, SequenceTree, step_tree, migration_tree, sequence_tree}
use Rattle.peer_schemas.specs.Clients.{client_at, schemas_of, clipping}
use Rattle.tl_tables.proofs.PlanLemmas.{at_of, at_seen, answer_of, answer_seen, newest_of, newest_seen}

-- what a step makes of a map, and where the map stands, by what the step stands for
abbrev row_of : Way → StepTree → Pairs → Pairs
row_of Up (add path key d) ps = added key d ps
row_of Up (remove path key d) ps = without_key ps key
row_of Up (rename path old next) ps = renamed old next ps
row_of Up (map_enum path key pairs) ps = changed_at key (replaced (toward Up pairs)) ps
row_of Up (scale path key factor) ps = changed_at key (scaled factor) ps
row_of Up (nest path keys into) ps = nested keys into ps
row_of Up (unnest path keys into) ps = unnested keys into ps
row_of Down (add path key d) ps = without_key ps key
row_of Down (remove path key d) ps = added key d ps
row_of Down (rename path old next) ps = renamed next old ps
row_of Down (map_enum path key pairs) ps = changed_at key (replaced (toward Down pairs)) ps
row_of Down (scale path key factor) ps = changed_at key (divided factor) ps
row_of Down (nest path keys into) ps = unnested keys into ps
row_of Down (unnest path keys into) ps = nested keys into ps

abbrev path_in : StepTree → Path
path_in (add path key d) = path
path_in (remove path key d) = path
path_in (rename path old next) = path
path_in (map_enum path key pairs) = path
path_in (scale path key factor) = path
path_in (nest path keys into) = path
path_in (unnest path keys into) = path

abbrev stepped_of : Way → StepTree → Data → Data
stepped_of way t d = at_path (path_in t) (row_of way t) d

step_seen : (way : Way) (s : MigStep) (d : Data) → stepped way s d ≡ stepped_of way (step_tree s) d
step_seen Up (Add path key v) d = refl
step_seen Up (Remove path key v) d = refl
step_seen Up (Rename path old next) d = refl
step_seen Up (MapEnum path key pairs) d = refl
step_seen Up (Scale path key factor) d = refl
step_seen Up (Nest path keys into) d = refl
step_seen Up (Unnest path keys into) d = refl
step_seen Down (Add path key v) d = refl
step_seen Down (Remove path key v) d = refl
step_seen Down (Rename path old next) d = refl
step_seen Down (MapEnum path key pairs) d = refl
step_seen Down (Scale path key factor) d = refl
step_seen Down (Nest path keys into) d = refl
step_seen Down (Unnest path keys into) d = refl

-- what some steps make of a record
abbrev raised_of : List StepTree → Data → Data
raised_of trees d = fold (λ e t. stepped_of Up t e) d trees

abbrev lowered_of : List StepTree → Data → Data
lowered_of [] d = d
lowered_of (t ∷ trees) d = stepped_of Down t (lowered_of trees d)

abbrev through_of : Way → List StepTree → Data → Data
through_of Up trees d = raised_of trees d
through_of Down trees d = lowered_of trees d

raised_seen : (steps : List MigStep) (d : Data) → raised steps d ≡ raised_of (map step_tree steps) d
raised_seen [] d = refl
raised_seen (s ∷ steps) d = ap (raised steps) (step_seen Up s d) ∙ raised_seen steps (stepped_of Up (step_tree s) d)

lowered_seen : (steps : List MigStep) (d : Data) → lowered steps d ≡ lowered_of (map step_tree steps) d
lowered_seen [] d = refl
lowered_seen (s ∷ steps) d = ap (stepped Down s) (lowered_seen steps d) ∙ step_seen Down s (lowered_of (map step_tree steps) d)

through_seen : (way : Way) (steps : List MigStep) (d : Data) → through way steps d ≡ through_of way (map step_tree steps) d
through_seen Up steps d = raised_seen steps d
through_seen Down steps d = lowered_seen steps d

-- what some migrations make of it
abbrev migrated_of : Way → MigrationTree → Data → Data
migrated_of way t d = cond (passes t.filter d) (through_of way t.steps d) d

migrated_seen : (way : Way) (m : Migration) (d : Data) → migrated way m d ≡ migrated_of way (migration_tree m) d
migrated_seen way m d = ap (λ e. cond (passes m.filter d) e d) (through_seen way m.steps.items d)

abbrev raised_by : List MigrationTree → Data → Data
raised_by trees d = fold (λ e t. migrated_of Up t e) d trees

abbrev lowered_by : List MigrationTree → Data → Data
lowered_by [] d = d
lowered_by (t ∷ trees) d = migrated_of Down t (lowered_by trees d)

raised_along_seen : (ms : List Migration) (d : Data) → raised_along ms d ≡ raised_by (map migration_tree ms) d
raised_along_seen [] d = refl
raised_along_seen (m ∷ ms) d = ap (raised_along ms) (migrated_seen Up m d) ∙ raised_along_seen ms (migrated_of Up (migration_tree m) d)

lowered_along_seen : (ms : List Migration) (d : Data) → lowered_along ms d ≡ lowered_by (map migration_tree ms) d
lowered_along_seen [] d = refl
lowered_along_seen (m ∷ ms) d = ap (migrated Down m) (lowered_along_seen ms d) ∙ migrated_seen Down m (lowered_by (map migration_tree ms) d)

-- the migrations at some places
abbrev all_at : List SequenceTree → Plan → List MigrationTree
all_at trees plan = filter_map (at_of trees) plan

all_seen : (seqs : List Sequence) (plan : Plan) → map migration_tree (migrations_at seqs plan) ≡ all_at (map sequence_tree seqs) plan
all_seen seqs [] = refl
all_seen seqs (p ∷ plan) =
    let rest = migrations_at seqs plan in
    elim (migration_at seqs p) as (λ o. map migration_tree (cons_option o rest) ≡ cons_option (option_map migration_tree o) (map migration_tree rest)) [
      | None ↦ refl
      | Some m ↦ refl
    ]
    ∙ (λ i. cons_option (at_seen seqs p i) (all_seen seqs plan i))

abbrev both_ways : List MigrationTree → Bool
both_ways trees = list_all (λ t. is_record t.scope && t.has_down) trees

both_seen : (ms : List Migration) → are_both_ways ms ≡ both_ways (map migration_tree ms)
both_seen [] = refl
both_seen (m ∷ ms) = ap (λ b. (is_record m.scope && m.has_down) && b) (both_seen ms)

-- the plan by which a client can connect
abbrev both_only : List SequenceTree → Result Plan PlanFault → Result Plan EndReason
both_only trees (Ok plan) = cond (both_ways (all_at trees plan)) (Ok plan) (Err ClientTooOld)
both_only trees (Err fault) = Err ServerTooOld

both_only_seen : (s : SchemaTree) (answer : Result Plan PlanFault) → both_ways_only s answer ≡ both_only (map sequence_tree s.sequences) answer
both_only_seen s (Ok plan) =
    ap (λ b. let answer : Result Plan EndReason = cond b (Ok plan) (Err ClientTooOld) in answer)
    (both_seen (migrations_at s.sequences plan) ∙ ap both_ways (all_seen s.sequences plan))
both_only_seen s (Err fault) = refl

-- a schema of these types alone
abbrev alone : Types → SchemaTree
alone types = record { types = types; sequences = [] }

-- all that is decided by some types and by what some sequences stand for
abbrev decided_by : Types → List SequenceTree → Schemas
decided_by types trees = record {
  is_document = is_document (alone types);
  is_presence = is_presence (alone types);
  admits = is_admitted (alone types);
  versions = newest_of [] trees;
  plan_for = λ held. both_only trees (answer_of trees held);
  raise = λ plan d. raised_by (all_at trees plan) d;
  lower = λ plan d. lowered_by (all_at trees plan) d;
}

module _ (s : SchemaTree) where
  abbrev trees : List SequenceTree
  trees = map sequence_tree s.sequences

  plan_seen : (held : Versions) → plan_for s held ≡ both_only trees (answer_of trees held)
  plan_seen held = both_only_seen s (plan_answer s.sequences held) ∙ ap (both_only trees) (answer_seen s.sequences held)

  raise_seen : (plan : Plan) (d : Data) → raise s plan d ≡ raised_by (all_at trees plan) d
  raise_seen plan d = raised_along_seen (migrations_at s.sequences plan) d ∙ ap (λ ts. raised_by ts d) (all_seen s.sequences plan)

  lower_seen : (plan : Plan) (d : Data) → lower s plan d ≡ lowered_by (all_at trees plan) d
  lower_seen plan d = lowered_along_seen (migrations_at s.sequences plan) d ∙ ap (λ ts. lowered_by ts d) (all_seen s.sequences plan)

  decided_seen : decided s ≡ decided_by s.types trees
  decided_seen = λ i. record {
    is_document = is_document (alone s.types);
    is_presence = is_presence (alone s.types);
    admits = is_admitted (alone s.types);
    versions = newest_seen [] s.sequences i;
    plan_for = λ held. plan_seen held i;
    raise = λ plan d. raise_seen plan d i;
    lower = λ plan d. lower_seen plan d i;
  }

-- two schemas of a version decide the same for a room
pub same_decided : (version : ℕ) (s t : SchemaTree) → IsSchemaAt version s → IsSchemaAt version t → decided s ≡ decided t
same_decided version s t one other =
    decided_seen s
    ∙ (λ i. decided_by ((one.types ∙ sym other.types) i) ((one.sequences_are ∙ sym other.sequences_are) i))
    ∙ sym (decided_seen t)

-- and with it for a world
pub same_schemas : (version : ℕ) (s t : SchemaTree) → IsSchemaAt version s → IsSchemaAt version t → schemas_of s ≡ schemas_of t
same_schemas version s t one other = λ i. record { room = same_decided version s t one other i; client = client_at; clips = clipping }
