use Rattle.std.proofs.Common.{ℕ, ◌*◌, ◌-◌, ◌≤◌, List, Option}
use Rattle.room_model.specs.Schemas.{WorldSchemas}
use Rattle.side_effects.specs.declared.fault.EditFault.{EditFault}
use Rattle.make_job.specs.Made as made
use Rattle.make_job.specs.Making.{IsMaking, HasPlace}
use Rattle.make_job.proofs.MadeLemmas.{Draws}
use Rattle.make_job.proofs.make.draw_all.Given as goal

-- the draws that are left make of what was made so far what all make
abbrev pub invariant-draws : goal.invariant-draws
invariant-draws g l =
    let held = g.K.Sink.held in
    record {
      goes : (schemas : WorldSchemas EditFault) (m : made.Making) (old : Option (List ℕ)) → IsMaking schemas m l.fn.making old (held l.fn.sink)
          → Draws l.print schemas m l.size l.fn.maker l.making (l.size - l.counter) l.maker old (held l.sink);
      place : HasPlace (2 * (l.size - l.counter)) l.making;
      faults : g.K.Sink.faults l.fn.sink ≤ g.K.Sink.faults l.sink;
    }
