use Rattle.std.proofs.Common.{◌≡◌, drop}
use Rattle.migrate_seq.specs.Plans.{migrations_at}
use Rattle.migrate_steps.specs.Records.{raised_map}
use Rattle.migrate_seq.proofs.sequences.Sequences.up_map.Given as goal

-- what the migrations from here on make of it is what all make of the map
abbrev pub invariant-loop-place : goal.invariant-loop-place
invariant-loop-place l =
    let seqs = l.self.sequences.items in
    raised_map (migrations_at seqs l.place-items) l.records ≡ raised_map (migrations_at seqs (drop l.place-index l.place-items)) l.after
