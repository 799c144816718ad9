use Rattle.std.proofs.Common.{◌≡◌, drop}
use Rattle.migrate_seq.specs.Plans.{are_of_records, migrations_at}
use Rattle.migrate_seq.proofs.plan.are_of_records.Given as goal

-- nothing so far speaks against it
abbrev pub invariant-loop-place : goal.invariant-loop-place
invariant-loop-place l = are_of_records (migrations_at l.sequences l.places) ≡ are_of_records (migrations_at l.sequences (drop l.place-index l.places))
