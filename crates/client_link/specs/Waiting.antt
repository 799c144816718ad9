-- How a client's wait for a message ends.
use Rattle.std.specs.Prelude.{◌≡◌, ◌<◌, ◌+◌, ℕ, List, [], ◌∷◌, ◌++◌, Bool, true, false, count_by, Option, None, Some, Result, Ok, Err}
use Rattle.client_link.specs.Hearing.{IsHeard, Refuses}
use Rattle.client_link.specs.declared.waiting.Heard.{Heard}
use Rattle.client_link.specs.declared.waiting.Heard.TheVariants.{Message, Refused, Lost, Idle}
use Rattle.client_link.specs.declared.waiting.TheConstants.{MOST_IDLES}
use Rattle.room_link.specs.Exchange.{Arrival, text, idle, Exchange}
use Rattle.room_link.specs.declared.passing.Stop.{Stop}
use Rattle.wire_text.specs.Feeding.{Assembly}

-- whether nothing came for a while
abbrev pub is_idle : Arrival → Bool
is_idle (text bytes) = false
is_idle idle = true

-- arrivals, each taken by the assembler that the one before it left, say no message yet
abbrev pub SayNothing : Assembly → List Arrival → Assembly → Type 0
SayNothing before [] now = now ≡ before
SayNothing before (idle ∷ arrivals) now = SayNothing before arrivals now
SayNothing before (text bytes ∷ arrivals) now = (next : Assembly) × IsHeard before bytes None next × SayNothing next arrivals now

-- how a wait ends with a text, or that it doesn't: the text completes a message, or is refused, or says none yet
abbrev pub Hears : Assembly → List ℕ → Option Heard → Assembly → Type 0
Hears before bytes None now = IsHeard before bytes None now
Hears before bytes (Some (Message message)) now = IsHeard before bytes (Some message) now
Hears before bytes (Some (Refused fault)) now = Refuses before bytes fault
Hears before bytes (Some Lost) now = ⊥
Hears before bytes (Some Idle) now = ⊥

-- how a wait ends with the first of what is to come, and what is left to come then: it ends with a text, at the end, or at the last of
-- so many Idles, of which some came before
abbrev pub EndsWith : Assembly → ℕ → List Arrival → Heard → Assembly → List Arrival → Type 0
EndsWith before idles (text bytes ∷ rest) heard now left = Hears before bytes (Some heard) now × (left ≡ rest)
EndsWith before idles (idle ∷ rest) heard now left = (heard ≡ Idle) × (idles + 1 ≡ MOST_IDLES) × (now ≡ before) × (left ≡ rest)
EndsWith before idles [] heard now left = (heard ≡ Lost) × (now ≡ before) × (left ≡ [])

-- a wait takes of what is to come the arrivals that say nothing yet, fewer Idles among them than end it, and what it ends with
pub record Waits (before : Assembly) (coming : List Arrival) (heard : Heard) (now : Assembly) (left : List Arrival) : Type 0 where
  pub arrivals : List Arrival
  pub rest : List Arrival
  pub taken : coming ≡ arrivals ++ rest
  pub kept : Assembly
  pub nothing : SayNothing before arrivals kept
  pub few : count_by is_idle arrivals < MOST_IDLES
  pub ends : EndsWith kept (count_by is_idle arrivals) rest heard now left

-- the same over a link, on which nothing goes out; of a wait that was cut off nothing more is said
abbrev pub Ends : Assembly → Result Heard Stop → Assembly → Exchange → Exchange → Type 0
Ends before (Ok heard) now old new = Waits before old.left heard now new.left × (new.sent ≡ old.sent)
Ends before (Err stop) now old new = new.sent ≡ old.sent
