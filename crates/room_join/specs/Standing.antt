-- For which client of the definitions a client of the code stands, and what its calls return.
use Rattle.std.specs.Prelude.{◌≡◌, List, ℕ, map, Some, Result, Ok, Err}
use Rattle.std.specs.Global.{Vec}
use Rattle.fault_texts.specs.Texts.{step_fault_text}
use Rattle.live_views.specs.Watches.{Stand}
use Rattle.room_model.specs.Schemas.{WorldSchemas}
use Rattle.room_model.specs.declared.fault.StepFault.{StepFault}
use Rattle.side_effects.specs.declared.fault.EditFault.{EditFault}
use Rattle.sync_peer.specs.Standing as peer_of
use Rattle.sync_peer.specs.Viewing.{watched, IsClosed}
use Rattle.room_join.specs.Joiners as model
use Rattle.room_join.specs.Joiners.{Acted, Outcome}
use Rattle.room_join.specs.declared.join_line.JoinLine.{JoinLine}
use Rattle.room_join.specs.declared.joiner.Joiner.{Joiner}

-- a client of the code stands for one of the definitions, by what the tables decide
pub record Stands (schemas : WorldSchemas EditFault) (joiner : model.Joiner) (code : Joiner) : Type 0 where
  pub peer : peer_of.Stands schemas joiner.state code.peer
  -- it watches the same by number, and no transaction of its store is open
  pub watched : Stand (watched code.peer) (map Some joiner.watched)
  pub closed : IsClosed code.peer
  pub waiting : code.assembler ≡ joiner.waiting
  pub lost : code.is_lost ≡ joiner.is_lost

-- an event happened and printed these lines, and the code stands for the client after it; or it can't happen, for a cause of this text
abbrev pub Answers : WorldSchemas EditFault → Outcome → Result (Vec JoinLine) (List ℕ) → Joiner → Type 0
Answers schemas outcome (Ok lines) code = (made : Acted) × (outcome ≡ Ok made) × (lines.items ≡ made.lines) × Stands schemas made.joiner code
Answers schemas outcome (Err text) code = (fault : StepFault EditFault) × (outcome ≡ Err fault) × (step_fault_text fault ≡ Some text)
