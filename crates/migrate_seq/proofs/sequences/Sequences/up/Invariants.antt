use Rattle.std.proofs.Common.{◌≡◌, drop}
use Rattle.rooms_val.specs.View.{data_of}
use Rattle.migrate_seq.specs.Plans.{migrations_at}
use Rattle.migrate_steps.specs.Records.{raised_along}
use Rattle.migrate_seq.proofs.sequences.Sequences.up.Given as goal

-- what the migrations from here on make of it is what all make of the record
abbrev pub invariant-loop-place : goal.invariant-loop-place
invariant-loop-place l =
    let seqs = l.self.sequences.items in
    raised_along (migrations_at seqs l.place-items) (data_of l.stored) ≡ raised_along (migrations_at seqs (drop l.place-index l.place-items)) (data_of l.after)
