-- What is said of one answer of a reader of lines alone.
use Rattle.std.specs.Prelude.{Bool, ⊤, Result, Ok, Err}
use Rattle.recording_lines.specs.declared.fault.ReadFault.{ReadFault}
use Rattle.recording_lines.specs.declared.line_reader.Next.{Next}
use Rattle.recording_lines.specs.declared.line_reader.Next.TheVariants.{Line, TooLong, End}

-- where a line was given
abbrev pub OnLine : Result Next ReadFault → Type 0 → Type 0
OnLine (Ok Line) P = P
OnLine (Ok TooLong) P = ⊤
OnLine (Ok (End whole)) P = ⊤
OnLine (Err fault) P = ⊤

-- where the next line is too long
abbrev pub OnTooLong : Result Next ReadFault → Type 0 → Type 0
OnTooLong (Ok Line) P = ⊤
OnTooLong (Ok TooLong) P = P
OnTooLong (Ok (End whole)) P = ⊤
OnTooLong (Err fault) P = ⊤

-- where no line is left: of whether the recording is whole
abbrev pub IfEnd : Result Next ReadFault → (Bool → Type 0) → Type 0
IfEnd (Ok Line) P = ⊤
IfEnd (Ok TooLong) P = ⊤
IfEnd (Ok (End whole)) P = P whole
IfEnd (Err fault) P = ⊤

-- where no line was given
abbrev pub UnlessLine : Result Next ReadFault → Type 0 → Type 0
UnlessLine (Ok Line) P = ⊤
UnlessLine (Ok TooLong) P = P
UnlessLine (Ok (End whole)) P = P
UnlessLine (Err fault) P = P
