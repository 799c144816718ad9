-- The edit that a text says.
use Rattle.std.specs.Prelude.{ℕ, List, Option, None, Result, Ok, Err}
use Rattle.rooms_val.specs.Data.{Data}
use Rattle.rooms_val.specs.Json.{value_of}
use Rattle.rooms_val.specs.declared.fault.ValFault.{ValFault}
use Rattle.field_ops.specs.Readings.{diff_of_data}
use Rattle.field_ops.specs.RecordOps.{RecordOps}

-- the diff of what was read of a text
abbrev pub diff_if_read : Result Data ValFault → Option RecordOps
diff_if_read (Ok d) = diff_of_data d
diff_if_read (Err fault) = None

-- the diff of a text, if it is the JSON of one
abbrev pub diff_of_text : List ℕ → Option RecordOps
diff_of_text text = diff_if_read (value_of text)
