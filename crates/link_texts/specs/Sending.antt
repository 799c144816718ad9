-- What goes out on a link for what a session is given.
use Rattle.std.specs.Prelude.{◌≡◌, ◌+◌, ◌-◌, ◌^◌, ◌⊎◌, ℕ, List, [], ◌∷◌, ◌++◌, map, fold, min, Some, Result, Ok, Err}
use Rattle.link_texts.specs.declared.sending.Sent.{Sent}
use Rattle.room_link.specs.Exchange.{Exchange}
use Rattle.room_link.specs.declared.passing.Outgoing.{Outgoing}
use Rattle.room_link.specs.declared.passing.Outgoing.TheVariants.{Text, Close}
use Rattle.rooms_val.specs.Json.{text_of}
use Rattle.sync_msgs.specs.declared.out.Out.{Out}
use Rattle.sync_msgs.specs.declared.out.Out.TheVariants.{Message, End}
use Rattle.wire_msgs.specs.Messages.{server_val}
use Rattle.wire_text.specs.Cutting.{IsCutInto, numbered}

-- these are the pieces of a text
abbrev pub ArePieces : List ℕ → List Outgoing → Type 0
ArePieces text put = (pieces : List (List ℕ)) × IsCutInto text pieces × (put ≡ map Text pieces)

-- these are the pieces of a long text's parts
abbrev pub AreNumbered : List (List ℕ) → List Outgoing → Type 0
AreNumbered parts put = put ≡ map Text (numbered parts)

-- this goes out for something given: the pieces of a message's text, or a close with the reason of an end
abbrev pub IsPrinted : Out → List Outgoing → Type 0
IsPrinted (Message message) put = ArePieces (text_of (server_val message)) put
IsPrinted (End reason) put = put ≡ Close reason ∷ []

-- the same of all that was given, in order
abbrev pub ArePrinted : List Out → List Outgoing → Type 0
ArePrinted [] put = put ≡ []
ArePrinted (out ∷ outs) put =
    (first rest : List Outgoing) × IsPrinted out first × ArePrinted outs rest × (put ≡ first ++ rest)

-- this is a beginning of what is to go out, or nothing
abbrev pub Begins : (List Outgoing → Type 0) → List Outgoing → Type 0
Begins is put = (put ≡ []) ⊎ ((rest : List Outgoing) × is (put ++ rest))

-- this is a beginning of what goes out for all that was given
abbrev pub AreBegun : List Out → List Outgoing → Type 0
AreBegun [] put = put ≡ []
AreBegun (out ∷ outs) put =
    Begins (IsPrinted out) put
    ⊎ ((first rest : List Outgoing) × IsPrinted out first × AreBegun outs rest × (put ≡ first ++ rest))

-- a count that stays at its greatest
abbrev pub count_up : ℕ → ℕ
count_up n = min (n + 1) (2 ^ 64 - 1)

-- the texts that went out are counted, and the last close is kept
abbrev pub counted_one : Sent → Outgoing → Sent
counted_one sent (Text text) = record sent { texts = count_up sent.texts }
counted_one sent (Close reason) = record sent { ended = Some reason }

abbrev pub counted : Sent → List Outgoing → Sent
counted sent put = fold counted_one sent put

-- something went out on a link, behind the rest, and was counted; nothing came
pub record PutsOut (put : List Outgoing) (before after : Sent) (old new : Exchange) : Type 0 where
  pub out : new ≡ record old { sent = old.sent ++ put }
  pub count : after ≡ counted before put

-- what was to go out went out: all of it where the call succeeded, else what has begun
abbrev pub PutsOutAll : {A S : Type 0} → (List Outgoing → Type 0) → (List Outgoing → Type 0) → Result A S → Sent → Sent → Exchange → Exchange → Type 0
PutsOutAll all begun (Ok done) before after old new = (put : List Outgoing) × all put × PutsOut put before after old new
PutsOutAll all begun (Err stop) before after old new = (put : List Outgoing) × begun put × PutsOut put before after old new
