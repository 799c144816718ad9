-- What the source over a reader and the sink over a writer have.
use Rattle.std.specs.Prelude.{ℕ}
use Rattle.room_link.specs.declared.standard.StandardInput.{StandardInput}
use Rattle.room_link.specs.declared.standard.StandardOutput.{StandardOutput}

-- the reader from which a source reads
abbrev pub reader_of : {R : Type 0} → StandardInput R → R
reader_of input = input.reader

-- how many faults the source had so far
abbrev pub source_faults : {R : Type 0} → StandardInput R → ℕ
source_faults input = input.faults

-- the writer to which a sink writes
abbrev pub writer_of : {W : Type 0} → StandardOutput W → W
writer_of output = output.writer

-- how many faults the sink had so far
abbrev pub sink_faults : {W : Type 0} → StandardOutput W → ℕ
sink_faults output = output.faults
