-- How a world answers an event.
use Rattle.std.specs.Prelude.{◌≡◌, Bool, true, false, Result, Ok, Err}
use Rattle.std.specs.Global.{Vec}
use Rattle.room_model.specs.Schemas.{WorldSchemas}
use Rattle.room_model.specs.Worlds as model
use Rattle.room_model.specs.Worlds.{Outcome, Stepped}
use Rattle.room_model.specs.declared.fault.StepFault.{StepFault}
use Rattle.room_model.specs.declared.fault.StepFault.TheVariants.{NoSuchClient, NoSuchSession, NothingThere, Edit, Connect, NoMark, Limit, Clip, NoClip, Paste, OutOfMemory}
use Rattle.room_model.specs.declared.line.OutLine.{OutLine}
use Rattle.side_effects.specs.declared.fault.EditFault.{EditFault}
use Rattle.sync_world.specs.Standing.{Keeps, Stands}
use Rattle.sync_world.specs.declared.live.Live.{Live}
use Rattle.sync_world.specs.declared.world.World.{World}

-- the answer is that of what can happen: its lines, and the parts stand for the next world; or its fault, and they stand for what they
-- stood for
abbrev pub Answers : WorldSchemas EditFault → model.World → Outcome EditFault → Result (Vec OutLine) (StepFault EditFault) → Live → Type 0
Answers schemas world outcome (Ok lines) live = (made : Stepped) × (outcome ≡ Ok made) × (lines.items ≡ made.lines) × Keeps schemas made.world live
Answers schemas world outcome (Err fault) live = (outcome ≡ Err fault) × Keeps schemas world live

-- the event is refused for this fault, and the world stands for what it stood for
abbrev pub Refuses : WorldSchemas EditFault → model.World → Outcome EditFault → StepFault EditFault → World → Type 0
Refuses schemas world outcome fault code = (outcome ≡ Err fault) × Stands schemas world code

-- the same of each fault but `OutOfMemory`; of that it is said only that memory ran out, and nothing more of the world
abbrev pub Faults : WorldSchemas EditFault → model.World → Outcome EditFault → StepFault EditFault → World → Type 0
Faults schemas world outcome NoSuchClient code = Refuses schemas world outcome NoSuchClient code
Faults schemas world outcome NoSuchSession code = Refuses schemas world outcome NoSuchSession code
Faults schemas world outcome NothingThere code = Refuses schemas world outcome NothingThere code
Faults schemas world outcome (Edit fault) code = Refuses schemas world outcome (Edit fault) code
Faults schemas world outcome (Connect fault) code = Refuses schemas world outcome (Connect fault) code
Faults schemas world outcome NoMark code = Refuses schemas world outcome NoMark code
Faults schemas world outcome Limit code = Refuses schemas world outcome Limit code
Faults schemas world outcome (Clip fault) code = Refuses schemas world outcome (Clip fault) code
Faults schemas world outcome NoClip code = Refuses schemas world outcome NoClip code
Faults schemas world outcome (Paste fault) code = Refuses schemas world outcome (Paste fault) code
Faults schemas world outcome OutOfMemory code = code.spent ≡ true

-- whether an answer says that memory ran out
abbrev pub is_spent : Result (Vec OutLine) (StepFault EditFault) → Bool
is_spent (Err OutOfMemory) = true
is_spent other = false

-- what a step returns
abbrev pub StepsTo : WorldSchemas EditFault → model.World → Outcome EditFault → Result (Vec OutLine) (StepFault EditFault) → World → Type 0
StepsTo schemas world outcome (Ok lines) code = (made : Stepped) × (outcome ≡ Ok made) × (lines.items ≡ made.lines) × Stands schemas made.world code
StepsTo schemas world outcome (Err fault) code = Faults schemas world outcome fault code
