-- What the texts say that come over a link to a room.
use Rattle.std.specs.Prelude.{◌≡◌, ◌⊎◌, List, ℕ, IsUtf8, Option, None, Some, Result, Ok, Err}
use Rattle.link_texts.specs.declared.fault.Unheard.{Unheard}
use Rattle.link_texts.specs.declared.fault.Unheard.TheVariants.{Refused, OutOfMemory}
use Rattle.link_texts.specs.declared.fault.WireFault.{WireFault}
use Rattle.link_texts.specs.declared.fault.WireFault.TheVariants.{Join, Piece, Message}
use Rattle.sync_msgs.specs.declared.client_message.ClientMessage.{ClientMessage}
use Rattle.wire_msgs.specs.Readings.{IsClient, RefusesClient}
use Rattle.wire_msgs.specs.declared.fault.MsgFault.{MsgFault}
use Rattle.wire_msgs.specs.declared.fault.MsgFault.TheVariants as msg_fault
use Rattle.wire_text.specs.Feeding.{PieceTree, Says, Assembly, given, after}
use Rattle.wire_text.specs.declared.fault.PieceFault.{PieceFault}
use Rattle.wire_text.specs.declared.fault.PieceFault.TheVariants as piece_fault
use Rattle.wire_text.specs.declared.fault.PieceFault.TheVariants.{BadPiece}

-- the bytes are a piece in UTF-8
pub record IsPiece (bytes : List ℕ) (piece : PieceTree) : Type 0 where
  pub utf8 : IsUtf8 bytes
  pub says : Says piece bytes

-- a text is taken by an assembler as a piece, which gives another text that is whole, or none yet
pub record IsTaken (before : Assembly) (bytes : List ℕ) (text : Option (List ℕ)) (now : Assembly) : Type 0 where
  pub piece : PieceTree
  pub is : IsPiece bytes piece
  pub now_is : now ≡ after before piece
  pub gives : given before piece ≡ Ok text

-- what an assembler gives for a piece is nothing while more is to come, or a text that stands for the message
abbrev pub Completes : Result (Option (List ℕ)) PieceFault → Option ClientMessage → Type 0
Completes (Ok None) None = Unit {0}
Completes (Ok (Some text)) (Some message) = IsClient text message
Completes (Ok None) (Some message) = ⊥
Completes (Ok (Some text)) None = ⊥
Completes (Err fault) said = ⊥

-- a text is taken by an assembler, which is another then; it completes a message, or says none yet
pub record IsHeard (before : Assembly) (bytes : List ℕ) (said : Option ClientMessage) (now : Assembly) : Type 0 where
  pub piece : PieceTree
  pub is : IsPiece bytes piece
  pub now_is : now ≡ after before piece
  pub completes : Completes (given before piece) said

-- a text is no piece, or not the one that an assembler waits for
abbrev pub RefusesPiece : Assembly → List ℕ → PieceFault → Type 0
RefusesPiece before bytes fault =
    (((piece : PieceTree) → IsPiece bytes piece → ⊥) × (fault ≡ BadPiece))
    ⊎ ((piece : PieceTree) × IsPiece bytes piece × (given before piece ≡ Err fault))

-- why an assembler doesn't take a text, where memory wasn't refused
abbrev pub RefusesText : Assembly → List ℕ → PieceFault → Type 0
RefusesText before bytes piece_fault.OutOfMemory = Unit {0}
RefusesText before bytes fault = RefusesPiece before bytes fault

-- a text completes another one that stands for no message
pub record RefusesMessage (before : Assembly) (bytes : List ℕ) (fault : MsgFault) : Type 0 where
  pub piece : PieceTree
  pub is : IsPiece bytes piece
  pub text : List ℕ
  pub completes : given before piece ≡ Ok (Some text)
  pub refused : RefusesClient text fault
  pub cause : fault ≡ msg_fault.OutOfMemory → ⊥

-- why a text isn't taken, once a link has joined
abbrev pub Refuses : Assembly → List ℕ → WireFault → Type 0
Refuses before bytes Join = ⊥
Refuses before bytes (Piece fault) = RefusesPiece before bytes fault
Refuses before bytes (Message fault) = RefusesMessage before bytes fault

-- what holds of the fault of a text that is refused
abbrev pub IfRefused : (WireFault → Type 0) → Unheard → Type 0
IfRefused holds (Refused fault) = holds fault
IfRefused holds OutOfMemory = Unit {0}
