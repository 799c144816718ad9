-- What the texts say that come over a link from a room.
use Rattle.std.specs.Prelude.{◌≡◌, List, ℕ, Option, None, Some, Result, Ok, Err}
use Rattle.link_texts.specs.Hearing.{IsPiece, RefusesPiece}
use Rattle.link_texts.specs.declared.fault.WireFault.{WireFault}
use Rattle.link_texts.specs.declared.fault.WireFault.TheVariants.{Join, Piece, Message}
use Rattle.sync_msgs.specs.declared.server_message.ServerMessage.{ServerMessage}
use Rattle.wire_msgs.specs.Readings.{IsServer, RefusesServer}
use Rattle.wire_msgs.specs.declared.fault.MsgFault.{MsgFault}
use Rattle.wire_msgs.specs.declared.fault.MsgFault.TheVariants as msg_fault
use Rattle.wire_text.specs.Feeding.{PieceTree, Assembly, given, after}
use Rattle.wire_text.specs.declared.fault.PieceFault.{PieceFault}

-- what an assembler gives for a piece is nothing while more is to come, or a text that stands for the message
abbrev pub Completes : Result (Option (List ℕ)) PieceFault → Option ServerMessage → Type 0
Completes (Ok None) None = Unit {0}
Completes (Ok (Some text)) (Some message) = IsServer text message
Completes (Ok None) (Some message) = ⊥
Completes (Ok (Some text)) None = ⊥
Completes (Err fault) said = ⊥

-- a text is taken by an assembler, which is another then; it completes a message, or says none yet
pub record IsHeard (before : Assembly) (bytes : List ℕ) (said : Option ServerMessage) (now : Assembly) : Type 0 where
  pub piece : PieceTree
  pub is : IsPiece bytes piece
  pub now_is : now ≡ after before piece
  pub completes : Completes (given before piece) said

-- a text completes another one that stands for no message of a room
pub record RefusesMessage (before : Assembly) (bytes : List ℕ) (fault : MsgFault) : Type 0 where
  pub piece : PieceTree
  pub is : IsPiece bytes piece
  pub text : List ℕ
  pub completes : given before piece ≡ Ok (Some text)
  pub refused : RefusesServer text fault
  pub cause : fault ≡ msg_fault.OutOfMemory → ⊥

-- why a text isn't taken
abbrev pub Refuses : Assembly → List ℕ → WireFault → Type 0
Refuses before bytes Join = ⊥
Refuses before bytes (Piece fault) = RefusesPiece before bytes fault
Refuses before bytes (Message fault) = RefusesMessage before bytes fault
