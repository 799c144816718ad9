-- What a set of sequences shows.
use Rattle.std.specs.Prelude.{List}
use Rattle.migrate_steps.specs.declared.migration.Sequence.{Sequence}
use Rattle.migrate_seq.specs.declared.sequences.Sequences.{Sequences}

-- the sequences, in the order of their ids
abbrev pub sequences_of : Sequences → List Sequence
sequences_of s = s.sequences.items
