-- What an assembler keeps stands for what came.
use Rattle.std.specs.Prelude.{string_bytes}
use Rattle.wire_text.specs.Feeding as feeding
use Rattle.wire_text.specs.declared.assembler.Gathered.{Gathered}

-- what the code gathered
abbrev pub gathered_of : Gathered → feeding.Gathered
gathered_of gathered = record { next = gathered.next; text = string_bytes gathered.text }
