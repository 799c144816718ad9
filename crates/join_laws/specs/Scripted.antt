-- Where the first lines of a script lead.
use Rattle.std.specs.Prelude.{◌≡◌, ℕ, ◌+◌, List, [], ◌∷◌, ◌++◌, None}
use Rattle.client_link.specs.declared.saying.Saying.{Saying}
use Rattle.recording_lines.specs.Lines.{recorded_lines}
use Rattle.room_link.specs.Exchange.{Arrival}
use Rattle.room_model.specs.Schemas.{WorldSchemas}
use Rattle.side_effects.specs.declared.fault.EditFault.{EditFault}
use Rattle.join_job.specs.Turns.{Progress, goes_on, Turn, Takes}
use Rattle.join_laws.specs.Sessions.{BeginsWith}

module _ (schemas : WorldSchemas EditFault) (room : ℕ) where
  -- from a progress on, these lines, the first of which has this number, lead to a progress, while this is to come over the link; what is
  -- said for them, and what is still to come then. The script goes on behind each
  abbrev pub LinesLead : Progress → ℕ → List (List ℕ) → List Arrival → Progress → List Saying → List Arrival → Type 0
  LinesLead before at [] coming after said left = (after ≡ before) × (said ≡ []) × (left ≡ coming)
  LinesLead before at (line ∷ lines) coming after said left =
      (turn : Turn) × Takes schemas at room before line coming turn
      × (next : Progress) × (between : List Arrival) × (turn.next ≡ goes_on next between)
      × (more : List Saying) × (said ≡ turn.said ++ more) × LinesLead next (at + 1) lines between after more left

  -- the first lines of a script lead to a progress, while this is to come over the link; what is said for them, and what is still to come
  -- then
  abbrev pub Leads : List ℕ → List Arrival → Progress → List Saying → List Arrival → Type 0
  Leads script coming progress said left =
      (lines : List (List ℕ)) × BeginsWith (recorded_lines script) lines × LinesLead None 1 lines coming progress said left
