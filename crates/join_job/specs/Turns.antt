-- What a line of a script comes to: what is written and said for it, and how the script goes on.
use Rattle.std.specs.Prelude.{◌≡◌, ℕ, List, [], ◌∷◌, ◌++◌, codes, Bool, true, false, ◌⊎◌, Option, Some, None, Result, Ok, Err}
use Rattle.client_link.specs.Waiting.{Waits}
use Rattle.client_link.specs.declared.saying.Saying.{Saying}
use Rattle.client_link.specs.declared.waiting.Heard.{Heard}
use Rattle.fault_texts.specs.Texts.{line_fault_text, step_fault_text}
use Rattle.rec_format.specs.Lines.{IsHeader, RefusesHeader}
use Rattle.rec_format.specs.declared.fault.LineFault.{LineFault}
use Rattle.room_join.specs.Joiners.{Joiner, Acted, Outcome, new_joiner, acts, heard_of, hello, pushes, after_pushes, told_lines, after_told, end_line}
use Rattle.room_link.specs.Exchange.{Arrival}
use Rattle.room_model.specs.Schemas.{WorldSchemas}
use Rattle.room_model.specs.declared.event.Header.{Header}
use Rattle.side_effects.specs.declared.fault.EditFault.{EditFault}
use Rattle.wire_text.specs.Feeding.{Assembly}
use Rattle.join_job.specs.Steps.{Says, IsUnsaid}
use Rattle.join_job.specs.Texts.{lines_text, fault_line, is_passed_by}
use Rattle.join_job.specs.declared.ending.End.{End}
use Rattle.join_job.specs.declared.ending.End.TheVariants.{Done, Refused, Server}
use Rattle.join_job.specs.declared.step.Step.{Step}
use Rattle.join_job.specs.declared.step.Step.TheVariants as step

-- how far a script was played: before its header, or with this client
abbrev pub Progress : Type 0
Progress = Option Joiner

-- how a script goes on: it ends, or it was played so far; and what is still to come over its link then
pub data Next : Type 0 where
  ends : End → List Arrival → Next
  goes_on : Progress → List Arrival → Next

-- what a line comes to: the text that is written, what is said, and how the script goes on
pub record Turn : Type 0 where
  pub text : List ℕ
  pub said : List Saying
  pub next : Next

-- the script ends at a line, for a cause of this text
abbrev pub refused : End → ℕ → List ℕ → List Arrival → Turn
refused by at text coming = record { text = fault_line at text; said = []; next = ends by coming }

-- nothing comes of a line
abbrev pub nothing : Progress → List Arrival → Turn
nothing progress coming = record { text = []; said = []; next = goes_on progress coming }

-- the script is read to its end
abbrev pub ended : Joiner → List Arrival → Turn
ended joiner coming = record { text = lines_text (end_line joiner ∷ []); said = []; next = ends Done coming }

-- what a client writes and says that has done something: it says each push that it can make, and tells the views that changed
abbrev pub followed : WorldSchemas EditFault → Acted → List Arrival → Turn
followed schemas made coming =
    let pushed = after_pushes schemas made.joiner in
    record {
      text = lines_text (made.lines ++ told_lines schemas pushed);
      said = pushes schemas made.joiner;
      next = goes_on (Some (after_told schemas pushed)) coming;
    }

module _ (schemas : WorldSchemas EditFault) (at : ℕ) where
  -- what a client did, or why it can't
  abbrev pub IsDone : Outcome → List Arrival → Turn → Type 0
  IsDone (Ok made) coming turn = turn ≡ followed schemas made coming
  IsDone (Err fault) coming turn = (text : List ℕ) × (step_fault_text fault ≡ Some text) × (turn ≡ refused Refused at text coming)

  -- what a client made of what it waited for, or why it refuses that
  abbrev pub IsHeeded : Result Acted (Option (List ℕ)) → List Arrival → Turn → Type 0
  IsHeeded (Ok made) coming turn = turn ≡ followed schemas made coming
  IsHeeded (Err fault) coming turn = (text : List ℕ) × (fault ≡ Some text) × (turn ≡ refused Server at text coming)

  -- a client waits for a message, unless it was told that its link has ended
  abbrev pub Delivers : Bool → Joiner → List Arrival → Turn → Type 0
  Delivers true joiner coming turn = turn ≡ refused Refused at (codes "NoSuchSession") coming
  Delivers false joiner coming turn =
      (heard : Heard) × (now : Assembly) × (left : List Arrival)
      × Waits joiner.waiting coming heard now left × IsHeeded (heard_of schemas (record joiner { waiting = now }) heard) left turn

  -- a client does what a line says
  abbrev pub Does : Joiner → Step → List Arrival → Turn → Type 0
  Does joiner (step.Act act) coming turn = IsDone (acts schemas act joiner) coming turn
  Does joiner step.Deliver coming turn = Delivers joiner.is_lost joiner coming turn
  Does joiner step.End coming turn = turn ≡ ended joiner coming

  -- the first line that isn't passed by is a header, of whose version the client is; it joins the room
  abbrev pub TakesHeader : ℕ → List ℕ → List Arrival → Turn → Type 0
  TakesHeader room line coming turn =
      ((fault : LineFault) × (text : List ℕ) × RefusesHeader line fault × (line_fault_text fault ≡ Some text) × (turn ≡ refused Refused at text coming))
      ⊎ ((header : Header) × IsHeader line header
      × (turn ≡ record { text = []; said = hello schemas room header.version; next = goes_on (Some (new_joiner header.version)) coming }))

  -- each later line is an event of its client
  abbrev pub TakesStep : Joiner → List ℕ → List Arrival → Turn → Type 0
  TakesStep joiner line coming turn =
      ((text : List ℕ) × IsUnsaid line text × (turn ≡ refused Refused at text coming))
      ⊎ ((what : Step) × Says line what × Does joiner what coming turn)

  -- what a line comes to that is passed by, or isn't
  abbrev pub TakesUnless : Bool → ℕ → Progress → List ℕ → List Arrival → Turn → Type 0
  TakesUnless true room progress line coming turn = turn ≡ nothing progress coming
  TakesUnless false room None line coming turn = TakesHeader room line coming turn
  TakesUnless false room (Some joiner) line coming turn = TakesStep joiner line coming turn

  -- what a line comes to after this progress, where this is still to come over the link
  abbrev pub Takes : ℕ → Progress → List ℕ → List Arrival → Turn → Type 0
  Takes room progress line coming turn = TakesUnless (is_passed_by line) room progress line coming turn
