-- What a line of a script says: what its one client is to do.
use Rattle.std.specs.Prelude.{◌≡◌, ℕ, ◌<◌, List, codes, Bool, true, false, ◌⊎◌, Option, Some, None}
use Rattle.fault_texts.specs.Texts.{line_fault_text}
use Rattle.rec_format.specs.Lines.{IsOf, IsEvent, IsNoEvent, RefusesLine, word_in}
use Rattle.rec_format.specs.Verbs.{word_of}
use Rattle.rec_format.specs.declared.fault.LineFault.{LineFault}
use Rattle.rec_format.specs.declared.fault.LineFault.TheVariants as line_fault
use Rattle.rec_format.specs.declared.recorded.RecordedEvent.{RecordedEvent}
use Rattle.rec_format.specs.declared.recorded.RecordedEvent.TheVariants as recorded
use Rattle.rec_format.specs.declared.verb.Verb.{Verb}
use Rattle.rec_format.specs.declared.verb.Verb.TheVariants as verb
use Rattle.room_join.specs.declared.act.Act.TheVariants as act
use Rattle.room_model.specs.declared.event.Event.TheVariants as event
use Rattle.rooms_val.specs.Data.{Data}
use Rattle.join_job.specs.declared.step.Step.{Step}
use Rattle.join_job.specs.declared.step.Step.TheVariants as step

-- whether scripts have such events
abbrev pub is_scripted : Verb → Bool
is_scripted verb.Edit = true
is_scripted verb.Presence = true
is_scripted verb.Mark = true
is_scripted verb.Undo = true
is_scripted verb.Redo = true
is_scripted verb.Bail = true
is_scripted verb.Watch = true
is_scripted verb.Query = true
is_scripted verb.Show = true
is_scripted verb.Deliver = true
is_scripted verb.End = true
is_scripted verb.Client = false
is_scripted verb.Connect = false
is_scripted verb.Copy = false
is_scripted verb.Paste = false
is_scripted verb.Handle = false
is_scripted verb.Send = false
is_scripted verb.Cut = false
is_scripted verb.Lose = false

-- the word is that of no event of scripts
abbrev pub IsUnscriptedWord : List ℕ → Type 0
IsUnscriptedWord word = (v : Verb) → is_scripted v ≡ true → ¬ (word ≡ word_of v)

-- the value has such a word under `do`
abbrev pub IsUnscripted : Data → Type 0
IsUnscripted d = (word : List ℕ) × (word_in d ≡ Some word) × IsUnscriptedWord word

-- what an event of scripts lets a client do, and the client's number, which is 0 where none stands
abbrev pub step_of : RecordedEvent → Option (ℕ × Step)
step_of (recorded.World (event.Edit client diff)) = Some (client, step.Act (act.Edit diff))
step_of (recorded.World (event.Presence client val)) = Some (client, step.Act (act.Presence val))
step_of (recorded.World (event.Mark client name)) = Some (client, step.Act (act.Mark name))
step_of (recorded.World (event.Undo client)) = Some (client, step.Act act.Undo)
step_of (recorded.World (event.Redo client)) = Some (client, step.Act act.Redo)
step_of (recorded.World (event.Bail client name)) = Some (client, step.Act (act.Bail name))
step_of (recorded.World (event.Show client)) = Some (client, step.Act act.Show)
step_of (recorded.World (event.Deliver client)) = Some (client, step.Deliver)
step_of (recorded.World event.End) = Some (0, step.End)
step_of (recorded.World other) = None
step_of (recorded.Watch client view) = Some (client, step.Act (act.Watch view))
step_of (recorded.Query client type query) = Some (client, step.Act (act.Query type query))

-- a line says what client 0 is to do
abbrev pub Says : List ℕ → Step → Type 0
Says line what = (e : RecordedEvent) × IsEvent line e × (step_of e ≡ Some (0, what))

-- a line says what another client is to do
abbrev pub IsOfAnother : List ℕ → Type 0
IsOfAnother line = (e : RecordedEvent) × (client : ℕ) × (what : Step) × IsEvent line e × (step_of e ≡ Some (client, what)) × (0 < client)

-- the cause of each fault of a line that is read as an event of scripts: those of recordings, but that each word is unknown that
-- scripts don't have
abbrev pub RefusesStep : List ℕ → LineFault → Type 0
RefusesStep line line_fault.UnknownEvent = (d : Data) × IsOf line d × IsUnscripted d
RefusesStep line line_fault.Field = (d : Data) × IsOf line d × (¬ IsUnscripted d) × IsNoEvent d
RefusesStep line fault = RefusesLine line fault

-- why a line says nothing that client 0 is to do, as a text
abbrev pub IsUnsaid : List ℕ → List ℕ → Type 0
IsUnsaid line text =
    ((fault : LineFault) × RefusesStep line fault × (line_fault_text fault ≡ Some text))
    ⊎ (IsOfAnother line × (text ≡ codes "NoSuchClient"))
