use Rattle.std.proofs.Common.{◌≡◌, ◌+◌, ◌*◌, ◌≤◌, ℕ, List, true, length, map, take, drop}
use Rattle.std.specs.Prelude.{is_some}
use Rattle.rooms_val.specs.Maps.{value_at}
use Rattle.schema_core.specs.Admits.{is_admitted}
use Rattle.schema_core.specs.SchemaOf.{schema_tree}
use Rattle.room_model.specs.Taking.{Replica, after_events}
use Rattle.client_replica.specs.Works.{work_of, works_in, diffs_in, operations, brought, ended}
use Rattle.client_replica.specs.Stashes.{is_named}
use Rattle.client_replica.specs.NewBases.{IsAhead}
use Rattle.client_replica.proofs.new_base.NewBase.take_events.Given as goal

abbrev pub invariant-events : goal.invariant-events
invariant-events g l =
    let s = schema_tree l.fn.schema in
    let m = g.D.DocStore.records l.fn.store in
    let done = take l.event-index l.event-items in
    let ends = diffs_in (map work_of (take l.answered l.fn.works.items)) in
    record {
      ahead : (replica : Replica) → works_in replica.pending ≡ map work_of l.fn.works.items → IsAhead s replica replica.pending m l.fn.stash l.initial.self.changes l.initial.self.others
          → IsAhead s (after_events (is_admitted s) replica done) (drop l.answered replica.pending) m l.fn.stash l.self.changes l.self.others;
      touched : (q : List ℕ) → is_named ends q ≡ true → is_some (value_at l.self.changes q) ≡ true;
      few : length l.self.changes ≤ length l.initial.self.changes + (brought done + 2 * operations ends);
      ended : l.answered ≡ ended done;
      small : l.answered ≤ l.event-index;
    }
