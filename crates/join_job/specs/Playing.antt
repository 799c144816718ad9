-- What a script writes and says over a link.
use Rattle.std.specs.Io.KnownBytes.{Consumes}
use Rattle.std.specs.Prelude.{◌≡◌, ℕ, ◌+◌, ◌≤◌, List, [], ◌∷◌, ◌++◌, length, ◌⊎◌, ⊤, Option, Some, None}
use Rattle.client_link.specs.Sending.{ArePut, AreBegun}
use Rattle.client_link.specs.declared.saying.Saying.{Saying}
use Rattle.recording_lines.specs.Lines.{is_whole, recorded_lines}
use Rattle.room_link.specs.Exchange.{Arrival, Exchange, Tells}
use Rattle.room_link.specs.Held.{Extends}
use Rattle.room_link.specs.declared.passing.Outgoing.{Outgoing}
use Rattle.room_model.specs.Schemas.{WorldSchemas}
use Rattle.side_effects.specs.declared.fault.EditFault.{EditFault}
use Rattle.join_job.specs.Texts.{fault_line, unended_text, IsFront}
use Rattle.join_job.specs.Turns.{Progress, Next, ends, goes_on, Turn, Takes}
use Rattle.join_job.specs.declared.ending.End.{End}
use Rattle.join_job.specs.declared.ending.End.TheVariants.{Refused}

-- what is written, what is said, how the script ends, and what is left to come then
pub record Played : Type 0 where
  pub text : List ℕ
  pub said : List Saying
  pub by : End
  pub left : List Arrival

-- what a line's turn and, where the script goes on, the rest make
abbrev pub Follows : Turn → Next → (Progress → List Arrival → Played → Type 0) → Played → Type 0
Follows turn (ends by coming) Rest all = all ≡ record { text = turn.text; said = turn.said; by = by; left = coming }
Follows turn (goes_on progress coming) Rest all =
    (rest : Played) × Rest progress coming rest × (all ≡ record { text = turn.text ++ rest.text; said = turn.said ++ rest.said; by = rest.by; left = rest.left })

-- a front of that: the script stops within the turn, or behind it
abbrev pub FollowsFront : Turn → Next → (Progress → List Arrival → List ℕ → List Outgoing → Type 0) → List ℕ → List Outgoing → Type 0
FollowsFront turn (ends by coming) Rest front put = IsFront front turn.text × AreBegun turn.said put
FollowsFront turn (goes_on progress coming) Rest front put =
    (IsFront front turn.text × AreBegun turn.said put)
    ⊎ ((text : List ℕ) × (first rest : List Outgoing)
    × ArePut turn.said first × Rest progress coming text rest × (front ≡ turn.text ++ text) × (put ≡ first ++ rest))

module _ (schemas : WorldSchemas EditFault) (room : ℕ) where
  -- what the lines from a number on make after this progress, where the fault at their end has this text
  abbrev pub Plays : List ℕ → Progress → ℕ → List (List ℕ) → List Arrival → Played → Type 0
  Plays unended progress at [] coming all = all ≡ record { text = fault_line at unended; said = []; by = Refused; left = coming }
  Plays unended progress at (line ∷ lines) coming all =
      (turn : Turn) × Takes schemas at room progress line coming turn
      × Follows turn turn.next (λ next left rest. Plays unended next (at + 1) lines left rest) all

  -- a front of that: what is written, and what goes out; the lines behind it need not be looked at
  abbrev pub PlaysFront : List ℕ → Progress → ℕ → List (List ℕ) → List Arrival → List ℕ → List Outgoing → Type 0
  PlaysFront unended progress at [] coming front put = IsFront front (fault_line at unended) × (put ≡ [])
  PlaysFront unended progress at (line ∷ lines) coming front put =
      ((front ≡ []) × (put ≡ []))
      ⊎ ((turn : Turn) × Takes schemas at room progress line coming turn
      × FollowsFront turn turn.next (λ next left text rest. PlaysFront unended next (at + 1) lines left text rest) front put)

  -- what a script makes over a link over which this is to come
  abbrev pub Joins : List ℕ → List Arrival → Played → Type 0
  Joins script coming all = Plays (unended_text (is_whole script)) None 1 (recorded_lines script) coming all

  -- a front of that
  abbrev pub JoinsFront : List ℕ → List Arrival → List ℕ → List Outgoing → Type 0
  JoinsFront script coming front put = PlaysFront (unended_text (is_whole script)) None 1 (recorded_lines script) coming front put

  -- a script was played to an end: what it makes was written and went out, and what it leaves is still to come; or it was cut off, and a
  -- front of that was written and went out
  abbrev pub IsPlayed : List ℕ → Option End → Option (List ℕ) → Option (List ℕ) → Exchange → Exchange → Type 0
  IsPlayed script (Some by) held holds old new =
      (all : Played) × Joins script old.left all × (all.by ≡ by) × Extends held holds all.text
      × (new.left ≡ all.left) × ((put : List Outgoing) × ArePut all.said put × (new.sent ≡ old.sent ++ put))
  IsPlayed script None held holds old new =
      (front : List ℕ) × (put : List Outgoing) × JoinsFront script old.left front put
      × Extends held holds front × (new.sent ≡ old.sent ++ put)

  -- the same, where the source tells the script and the link its exchange
  abbrev pub PlaysIn : Option (List ℕ) → Option End → Option (List ℕ) → Option (List ℕ) → Option Exchange → Option Exchange → Type 0
  PlaysIn None by held holds old new = ⊤
  PlaysIn (Some script) by held holds old new = Tells (IsPlayed script by held holds) old new

-- where a source tells what is left, that was a front of so many bytes at most, followed by what is left now
abbrev pub Reads : ℕ → Option (List ℕ) → Option (List ℕ) → Type 0
Reads most old new = (front : List ℕ) × (length front ≤ most) × Consumes old new front
