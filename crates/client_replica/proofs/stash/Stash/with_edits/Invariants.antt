use Rattle.std.proofs.Common.{◌≡◌, ◌+◌, ◌≤◌, ℕ, List, length, map, drop, cond, Some, None}
use Rattle.std.specs.Prelude.{is_some}
use Rattle.rooms_val.specs.Data.{Pairs}
use Rattle.rooms_val.specs.Maps.{AreRising, value_at}
use Rattle.schema_core.specs.Admits.{is_admitted}
use Rattle.schema_core.specs.SchemaOf.{schema_tree}
use Rattle.doc_model.specs.Documents.{replay}
use Rattle.doc_store.specs.Tree.{slots_view}
use Rattle.client_replica.specs.Works.{work_of, diffs_in}
use Rattle.client_replica.specs.NewBases.{IsOf, NamesWithin}
use Rattle.client_replica.proofs.stash.Stash.with_edits.Given as goal

abbrev pub invariant-loop-id : goal.invariant-loop-id
invariant-loop-id l =
    let left = diffs_in (map work_of (drop l.fn.from l.fn.works.items)) in
    let rest = slots_view l.id-iterator in
    record {
      at : (base : Pairs) → IsOf base l.self → NamesWithin left l.fn.stash
          → IsOf base rest × ((q : List ℕ) → let shown = Some (value_at (replay (is_admitted (schema_tree l.fn.schema)) base left) q) in
          cond (is_some (value_at rest q)) shown (value_at l.shown q) ≡ cond (is_some (value_at l.self q)) shown None);
      rising : AreRising rest;
      few : length l.shown + length rest ≤ length l.self;
    }
