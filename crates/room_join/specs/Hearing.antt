-- What a client of the code makes of what it waited for.
use Rattle.std.specs.Prelude.{◌≡◌, ℕ, List, ⊤, Result, Ok, Err, Some}
use Rattle.std.specs.Global.{Vec}
use Rattle.client_link.specs.Waiting.{Waits}
use Rattle.client_link.specs.declared.waiting.Heard.{Heard}
use Rattle.room_link.specs.Exchange.{Exchange}
use Rattle.room_link.specs.declared.passing.Stop.{Stop}
use Rattle.room_model.specs.Schemas.{WorldSchemas}
use Rattle.side_effects.specs.declared.fault.EditFault.{EditFault}
use Rattle.wire_text.specs.Feeding.{Assembly}
use Rattle.room_join.specs.Joiners as model
use Rattle.room_join.specs.Joiners.{Acted, heard_of}
use Rattle.room_join.specs.Standing.{Stands}
use Rattle.room_join.specs.declared.join_line.JoinLine.{JoinLine}
use Rattle.room_join.specs.declared.joiner.Joiner.{Joiner}

-- it prints the lines, and stands for the client after it; or what came is refused, for a cause of this text
abbrev pub Heeds : WorldSchemas EditFault → model.Joiner → Heard → Result (Vec JoinLine) (List ℕ) → Joiner → Type 0
Heeds schemas joiner said (Ok lines) code =
    (made : Acted) × (heard_of schemas joiner said ≡ Ok made) × (lines.items ≡ made.lines) × Stands schemas made.joiner code
Heeds schemas joiner said (Err text) code = heard_of schemas joiner said ≡ Err (Some text)

-- the same over a link, where a message was waited for; of a wait that stopped nothing is said
abbrev pub Waited : WorldSchemas EditFault → model.Joiner → Result (Result (Vec JoinLine) (List ℕ)) Stop → Joiner → Exchange → Exchange → Type 0
Waited schemas joiner (Ok delivery) code old new =
    (said : Heard) × (now : Assembly) × Waits joiner.waiting old.left said now new.left
    × Heeds schemas (record joiner { waiting = now }) said delivery code
Waited schemas joiner (Err stop) code old new = ⊤

-- nothing went out on a link
abbrev pub SaysNothing : Exchange → Exchange → Type 0
SaysNothing old new = new.sent ≡ old.sent
