-- The text of why a client doesn't take what comes over its link. `OutOfMemory` alone has none.
use Rattle.std.specs.Prelude.{ℕ, List, codes, Option, Some, None}
use Rattle.fault_texts.specs.Texts.{val_fault_text}
use Rattle.link_texts.specs.declared.fault.WireFault.{WireFault}
use Rattle.link_texts.specs.declared.fault.WireFault.TheVariants as wire
use Rattle.sync_client.specs.declared.fault.TakeFault.{TakeFault}
use Rattle.sync_client.specs.declared.fault.TakeFault.TheVariants as take
use Rattle.wire_msgs.specs.declared.fault.MsgFault.{MsgFault}
use Rattle.wire_msgs.specs.declared.fault.MsgFault.TheVariants as message
use Rattle.wire_text.specs.declared.fault.PieceFault.{PieceFault}
use Rattle.wire_text.specs.declared.fault.PieceFault.TheVariants as piece

-- the name of a piece's fault
abbrev pub piece_fault_text : PieceFault → Option (List ℕ)
piece_fault_text piece.BadPiece = Some (codes "BadPiece")
piece_fault_text (piece.OutOfTurn expected got) = Some (codes "OutOfTurn")
piece_fault_text piece.TooLong = Some (codes "TooLong")
piece_fault_text piece.OutOfMemory = None

-- the name of a message's fault; that of its value has the value's
abbrev pub message_fault_text : MsgFault → Option (List ℕ)
message_fault_text (message.Val fault) = val_fault_text fault
message_fault_text message.UnknownType = Some (codes "UnknownType")
message_fault_text message.MissingField = Some (codes "MissingField")
message_fault_text message.ExtraField = Some (codes "ExtraField")
message_fault_text message.WrongKind = Some (codes "WrongKind")
message_fault_text message.OutOfMemory = None

-- the name of why a text isn't taken
abbrev pub wire_fault_text : WireFault → Option (List ℕ)
wire_fault_text wire.Join = Some (codes "Join")
wire_fault_text (wire.Piece fault) = piece_fault_text fault
wire_fault_text (wire.Message fault) = message_fault_text fault

-- the name of why a client doesn't take a message
abbrev pub take_fault_text : TakeFault → Option (List ℕ)
take_fault_text take.NotOpen = Some (codes "NotOpen")
take_fault_text take.WrongRequest = Some (codes "WrongRequest")
take_fault_text (take.NoPending number) = Some (codes "NoPending")
take_fault_text (take.WrongPending expected got) = Some (codes "WrongPending")
take_fault_text (take.ClockBack reached got) = Some (codes "ClockBack")
take_fault_text take.OutOfMemory = None
