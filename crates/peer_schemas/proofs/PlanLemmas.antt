-- The plan of a version of the tables is empty for nobody but who holds that version.
use Rattle.std.proofs.Common.{◌≡◌, ℕ, true, false, cond, List, [], ◌∷◌, map, Ok, Err, refl, sym, ap, ◌∙◌}
use Rattle.std.specs.Prelude.{Result}
use Rattle.migrate_seq.specs.Plans.{migrations_at, plan_answer, are_both_ways, newest_versions}
use Rattle.migrate_seq.specs.declared.fault.PlanFault.{PlanFault}
use Rattle.migrate_seq.specs.declared.place.Place.{Place}
use Rattle.schema_core.specs.Builds.{by_name}
use Rattle.schema_core.specs.Tree.{SchemaTree}
use Rattle.room_schemas.specs.Decided.{both_ways_only, plan_for}
use Rattle.sync_msgs.specs.declared.end_reason.EndReason.TheVariants.{ClientTooOld, ServerTooOld}
use Rattle.tl_tables.specs.Migrations.{sequences}
use Rattle.tl_tables.specs.Trees.{sequence_tree}
use Rattle.tl_tables.specs.Types.{type_rows}
use Rattle.tl_tables.proofs.PlanLemmas.{answer_of, answer_seen, is_empty, leads, newest_of, newest_seen, newest_are}
use Rattle.peer_schemas.specs.Clients.{table_version, newest_at}
use Rattle.peer_schemas.proofs.VersionLemmas.{low}

checked : (s : SchemaTree) (answer : Result (List Place) PlanFault) → both_ways_only s answer ≡ Ok [] → is_empty answer ≡ true
checked s (Ok []) is = refl
checked s (Ok (place ∷ plan)) is = elim (are_both_ways (migrations_at s.sequences (place ∷ plan))) as (λ b. cond b (Ok (place ∷ plan)) (Err ClientTooOld) ≡ Ok [] → false ≡ true) [
  | true ↦ λ never. cc
  | false ↦ λ never. cc
] is
checked s (Err fault) is = let never : Err ServerTooOld ≡ Ok [] = is in cc

-- whom an empty plan leads to a room's schema has the same types
pub same_types : (room : SchemaTree) (m n : ℕ) → map sequence_tree room.sequences ≡ sequences (table_version m) → plan_for room (newest_at n) ≡ Ok []
    → by_name (type_rows (table_version n)) ≡ by_name (type_rows (table_version m))
same_types room m n seen is =
    let same : table_version m ≡ table_version n = leads (table_version m) (table_version n) (low m) (low n) (
    ap is_empty (ap (λ trees. answer_of trees (newest_at n)) (sym seen) ∙ sym (answer_seen room.sequences (newest_at n)))
    ∙ checked room (plan_answer room.sequences (newest_at n)) is
    ) in
    ap (λ version. by_name (type_rows version)) (sym same)

-- the newest migrations of a schema's sequences are those of its version
pub newest : (s : SchemaTree) (n : ℕ) → map sequence_tree s.sequences ≡ sequences (table_version n) → newest_at n ≡ newest_versions s.sequences
newest s n seen = sym (newest_seen [] s.sequences ∙ ap (newest_of []) seen ∙ newest_are (table_version n) (low n))
