-- What the code's calls say of a line of a script.
use Rattle.std.specs.Prelude.{◌≡◌, ℕ, nat_lt, List, [], ◌∷◌, ◌++◌, length, drop, Bool, true, false, ◌⊎◌, ⊤, Option, Some, None, Result, Ok, Err}
use Rattle.client_link.specs.Sending.{ArePut, AreBegun}
use Rattle.recording_lines.specs.Lines.{lines_left}
use Rattle.room_join.specs.Standing.{Stands}
use Rattle.room_join.specs.declared.joiner.Joiner as code
use Rattle.room_link.specs.Exchange.{Arrival, Exchange}
use Rattle.room_link.specs.declared.passing.Outgoing.{Outgoing}
use Rattle.room_model.specs.Schemas.{WorldSchemas}
use Rattle.side_effects.specs.declared.fault.EditFault.{EditFault}
use Rattle.join_job.specs.Steps.{Says, IsUnsaid}
use Rattle.join_job.specs.Texts.{unended_text}
use Rattle.join_job.specs.Turns.{Progress, Next, ends, goes_on, Turn, refused, Takes}
use Rattle.join_job.specs.declared.ending.End.{End}
use Rattle.join_job.specs.declared.ending.End.TheVariants.{Refused}
use Rattle.join_job.specs.declared.ending.Stop.{Stop}
use Rattle.join_job.specs.declared.script.Reply.{Reply}
use Rattle.join_job.specs.declared.step.Step.{Step}

-- the result tells whether it holds
abbrev pub TellsWhether : Bool → Type 0 → Type 0
TellsWhether true P = P
TellsWhether false P = ¬ P

-- what was read of a line is what it says, or why it says nothing
abbrev pub IsRead : List ℕ → Result Step (List ℕ) → Type 0
IsRead line (Ok what) = Says line what
IsRead line (Err text) = IsUnsaid line text

-- the code has played so far: it has no client before the header, and then one that stands for the definition's
abbrev pub Reads : WorldSchemas EditFault → Progress → Option code.Joiner → Type 0
Reads schemas None None = Unit {0}
Reads schemas (Some joiner) (Some client) = Stands schemas joiner client
Reads schemas None (Some client) = ⊥
Reads schemas (Some joiner) None = ⊥

-- the code goes on as the script does: it ends alike, or has played so far; and the same is still to come
abbrev pub GoesOn : WorldSchemas EditFault → Next → Option End → Option code.Joiner → List Arrival → Type 0
GoesOn schemas (ends by coming) (Some told) client left = (told ≡ by) × (left ≡ coming)
GoesOn schemas (goes_on progress coming) None client left = Reads schemas progress client × (left ≡ coming)
GoesOn schemas (ends by coming) None client left = ⊥
GoesOn schemas (goes_on progress coming) (Some told) client left = ⊥

-- what was said went out, behind the rest
abbrev pub Sends : (List Outgoing → Type 0) → Exchange → Exchange → Type 0
Sends are old new = (put : List Outgoing) × are put × (new.sent ≡ old.sent ++ put)

-- a call came to a turn that a line may come to: the reply has its text, what it says went out, and the code goes on as it does; or the
-- call was cut off, and nothing or a beginning of what such a turn says went out
abbrev pub Comes : WorldSchemas EditFault → (List Arrival → Turn → Type 0) → Result Reply Stop → Option code.Joiner → Exchange → Exchange → Type 0
Comes schemas to (Ok reply) client old new =
    (turn : Turn) × to old.left turn × (reply.text.items ≡ turn.text) × GoesOn schemas turn.next reply.end client new.left
    × Sends (ArePut turn.said) old new
Comes schemas to (Err cause) client old new =
    (new.sent ≡ old.sent) ⊎ ((turn : Turn) × to old.left turn × Sends (AreBegun turn.said) old new)

-- what the first of the lines that are left comes to; where none is left, the script is refused, as it stops or goes on too long
abbrev pub TakesNext : WorldSchemas EditFault → ℕ → ℕ → Progress → Bool → List (List ℕ) → List Arrival → Turn → Type 0
TakesNext schemas at room progress whole [] coming turn = turn ≡ refused Refused at (unended_text whole) coming
TakesNext schemas at room progress whole (line ∷ lines) coming turn = Takes schemas at room progress line coming turn

-- where the source tells what was to come: the lines behind the first are still to come, and that is whole exactly where it was; of each
-- it is said first how many bytes of it may be looked at
abbrev pub LeavesLines : ℕ → ℕ → Option (List ℕ) → ℕ → Option (List ℕ) → Type 0
LeavesLines longest before None after new = ⊤
LeavesLines longest before (Some old) after None = ⊥
LeavesLines longest before (Some old) after (Some new) =
    (drop 1 (lines_left longest before old) ≡ lines_left longest after new) × (nat_lt (length old) before ≡ nat_lt (length new) after)

-- what the first of the lines that are left comes to, where the source tells what was to come
abbrev pub ComesNext : WorldSchemas EditFault → ℕ → Option code.Joiner → ℕ → ℕ → ℕ → Option (List ℕ) → Result Reply Stop → Option code.Joiner → Exchange → Exchange → Type 0
ComesNext schemas room before longest at budget None result client old new = ⊤
ComesNext schemas room before longest at budget (Some come) result client old new =
    (progress : Progress) → Reads schemas progress before
    → Comes schemas (TakesNext schemas at room progress (nat_lt (length come) budget) (lines_left longest budget come)) result client old new
