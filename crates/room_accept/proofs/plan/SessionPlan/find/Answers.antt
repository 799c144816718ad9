use Rattle.std.proofs.Common.{◌≡◌, true, sym, ◌∙◌}
use Rattle.migrate_seq.specs.Plans.{migrations_at}
use Rattle.migrate_seq.specs.SequencesOf.{sequences_of}
use Rattle.migrate_seq.specs.Shown.{places_in, goes_both_ways}
use Rattle.room_accept.proofs.PlanLemmas.{both_ways_of_records}
use Rattle.room_accept.proofs.plan.SessionPlan.find.Goals as goal

pub invariant_of-result : goal.invariant_of-result
invariant_of-result c =
    let plan = c.in-Ok.plan in
    let goes : goes_both_ways plan ≡ true = sym c.both_ways.ensures ∙ c.if-both_ways.true in
    record {
      both_ways = goes;
      of_records = c.in-Ok.ensures.records_only ∙ both_ways_of_records (migrations_at (sequences_of c.sequences.result.now) (places_in plan)) (sym c.in-Ok.ensures.both_ways ∙ goes);
    }
