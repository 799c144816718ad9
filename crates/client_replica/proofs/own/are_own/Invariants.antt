use Rattle.std.proofs.Common.{◌≡◌, map, drop}
use Rattle.schema_core.specs.Admits.{is_document}
use Rattle.schema_core.specs.SchemaOf.{schema_tree}
use Rattle.client_replica.specs.Works.{work_of}
use Rattle.client_replica.specs.Owns.{are_own}
use Rattle.client_replica.proofs.own.are_own.Given as goal

abbrev pub invariant-events : goal.invariant-events
invariant-events l =
    let s = schema_tree l.fn.schema in
    let works = map work_of l.fn.works.items in
    record {
      place : l.place ≡ l.event-index;
      own : are_own (is_document s) (drop l.event-index works) (drop l.event-index l.event-items) ≡ are_own (is_document s) works l.event-items;
    }
