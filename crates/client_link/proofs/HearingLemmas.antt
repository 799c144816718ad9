-- A text that an assembler doesn't take is refused for that.
use Rattle.std.proofs.Common.{ℕ, List}
use Rattle.client_link.specs.Hearing.{Refuses}
use Rattle.link_texts.specs.Faults.{fault_of_piece}
use Rattle.link_texts.specs.Hearing.{RefusesText, IfRefused}
use Rattle.wire_text.specs.Feeding.{Assembly}
use Rattle.wire_text.specs.declared.fault.PieceFault.{PieceFault}
use Rattle.wire_text.specs.declared.fault.PieceFault.TheVariants as piece

pub refuses_taken : (before : Assembly) (bytes : List ℕ) (fault : PieceFault) → RefusesText before bytes fault → IfRefused (Refuses before bytes) (fault_of_piece fault)
refuses_taken before bytes piece.BadPiece why = why
refuses_taken before bytes (piece.OutOfTurn wanted came) why = why
refuses_taken before bytes piece.TooLong why = why
refuses_taken before bytes piece.OutOfMemory why = tt
