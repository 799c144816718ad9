use Rattle.std.proofs.Common.{ℕ, ◌+◌, ◌≤◌, List, length, Option}
use Rattle.room_model.specs.Schemas.{WorldSchemas}
use Rattle.side_effects.specs.declared.fault.EditFault.{EditFault}
use Rattle.make_job.specs.Made as made
use Rattle.make_job.specs.Making.{IsMaking, HasPlace, AreReady}
use Rattle.make_job.proofs.MadeLemmas.{Goes}
use Rattle.make_job.proofs.making.Making.take_all.Given as goal

-- the events that are left make of what was made so far what all make
abbrev pub invariant-events : goal.invariant-events
invariant-events g l =
    let held = g.K.Sink.held in
    let left = l.event-iterator.rest.items in
    record {
      goes : (schemas : WorldSchemas EditFault) (m : made.Making) (old : Option (List ℕ)) → IsMaking schemas m l.fn.self old (held l.fn.sink)
          → Goes l.print schemas m l.fn.events.items l.self left old (held l.sink);
      ready : AreReady left;
      place : (more : ℕ) → HasPlace (length l.fn.events.items + more) l.fn.self → HasPlace (length left + more) l.self;
      faults : g.K.Sink.faults l.fn.sink ≤ g.K.Sink.faults l.sink;
    }
