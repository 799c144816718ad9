-- What is read of a line of a script.
use Rattle.std.proofs.Common.{◌≡◌, ℕ, ◌<◌, List, Bool, true, false, not, Some, None, refl, sym, ap, subst, ◌∙◌, inl, inr, if◌then◌else◌}
use Rattle.std.specs.Prelude.{codes}
use Rattle.rec_format.specs.Lines.{IsOf, IsEvent, RefusesLine, word_in}
use Rattle.rec_format.specs.Recorded.{recorded_val}
use Rattle.rec_format.specs.Verbs.{word_of}
use Rattle.rec_format.specs.declared.fault.LineFault.{LineFault}
use Rattle.rec_format.specs.declared.fault.LineFault.TheVariants as line_fault
use Rattle.rec_format.specs.declared.recorded.RecordedEvent.{RecordedEvent}
use Rattle.rec_format.specs.declared.recorded.RecordedEvent.TheVariants as recorded
use Rattle.rec_format.specs.declared.verb.Verb.{Verb}
use Rattle.rec_format.proofs.EventLemmas.{verb_of, says, one_word}
use Rattle.room_model.specs.declared.event.Event.TheVariants as event
use Rattle.rooms_val.specs.Data.{Data}
use Rattle.join_job.specs.Steps.{step_of, is_scripted, IsUnscripted, IsUnscriptedWord, RefusesStep, IsUnsaid}
use Rattle.join_job.specs.Turning.{TellsWhether}
use Rattle.join_job.specs.declared.step.Step.{Step}

-- a verb that scripts don't have has the word of no event of scripts
unscripted_word : (u : Verb) → is_scripted u ≡ false → IsUnscriptedWord (word_of u)
unscripted_word u not_so v so same =
    let other : is_scripted v ≡ false = subst (λ w. is_scripted w ≡ false) (one_word u v same) not_so in
    let never : false ≡ true = sym other ∙ so in cc

-- an event that isn't one of scripts has a verb that scripts don't have
unscripted_verb : (e : RecordedEvent) → step_of e ≡ None → is_scripted (verb_of e) ≡ false
unscripted_verb (recorded.World (event.Client v)) is = refl
unscripted_verb (recorded.World (event.Connect c readonly)) is = refl
unscripted_verb (recorded.World (event.Copy c ids)) is = refl
unscripted_verb (recorded.World (event.Paste c dx dy parent prefix)) is = refl
unscripted_verb (recorded.World (event.Handle s)) is = refl
unscripted_verb (recorded.World (event.Send s)) is = refl
unscripted_verb (recorded.World (event.Cut c)) is = refl
unscripted_verb (recorded.World (event.Lose s)) is = refl
unscripted_verb e is = absurd (cc)

-- a line of such an event says nothing
pub unsaid_event : (line text : List ℕ) (e : RecordedEvent) → IsEvent line e → step_of e ≡ None → text ≡ codes "UnknownEvent" → IsUnsaid line text
unsaid_event line text e is none told =
    inl (line_fault.UnknownEvent, (recorded_val e, is.0, (word_of (verb_of e), says e, unscripted_word (verb_of e) (unscripted_verb e none))), ap Some (sym told))

-- a line of another client says nothing
pub unsaid_other : (line text : List ℕ) (e : RecordedEvent) (client : ℕ) (what : Step) → IsEvent line e → step_of e ≡ Some (client, what) → 0 < client → text ≡ codes "NoSuchClient" → IsUnsaid line text
unsaid_other line text e client what is some other told = inr ((e, client, what, is, some, other), told)

-- whether scripts don't have a word, by its verb
pub whether_unscripted : (word : List ℕ) (v : Verb) → word ≡ word_of v → (b : Bool) → is_scripted v ≡ b → TellsWhether (not b) (IsUnscriptedWord word)
whether_unscripted word v is true so = λ unscripted. unscripted v so is
whether_unscripted word v is false not_so = subst IsUnscriptedWord (sym is) (unscripted_word v not_so)

-- of a value, by the word that it has
pub whether_in : (d : Data) (word : List ℕ) (b : Bool) → word_in d ≡ Some word → TellsWhether b (IsUnscriptedWord word) → TellsWhether b (IsUnscripted d)
whether_in d word true is unscripted = (word, is, unscripted)
whether_in d word false is scripted = λ unscripted.
    let same : Some unscripted.0 ≡ Some word = sym unscripted.1 ∙ is in
    let word_is : unscripted.0 ≡ word = cc in
    scripted (subst IsUnscriptedWord word_is unscripted.2)

pub none_in : (d : Data) → word_in d ≡ None → TellsWhether false (IsUnscripted d)
none_in d is = λ unscripted. let both : Some unscripted.0 ≡ None = sym unscripted.1 ∙ is in cc

-- the fault of a line whose word scripts don't have, or one that they have
pub fault_by : (line : List ℕ) (b : Bool) → ((d : Data) → IsOf line d → TellsWhether b (IsUnscripted d)) → (told : LineFault) → told ≡ (if b then line_fault.UnknownEvent else line_fault.Field)
    → RefusesLine line line_fault.Field → RefusesStep line told
fault_by line true whether told is refuses = subst (RefusesStep line) (sym is) (refuses.0, refuses.1, whether refuses.0 refuses.1)
fault_by line false whether told is refuses = subst (RefusesStep line) (sym is) (refuses.0, refuses.1, whether refuses.0 refuses.1, refuses.3)

-- any other fault is that of recordings
pub fault_stays : (line : List ℕ) (fault : LineFault) → ¬ (fault ≡ line_fault.Field) → RefusesLine line fault → RefusesStep line fault
fault_stays line line_fault.Field other refuses = absurd (other refl)
fault_stays line line_fault.UnknownEvent other refuses =
    (refuses.0, refuses.1, (refuses.2.0, refuses.2.1, λ v so. refuses.2.2 v))
fault_stays line line_fault.LineTooLong other refuses = refuses
fault_stays line (line_fault.Val fault) other refuses = refuses
fault_stays line line_fault.NoHeader other refuses = refuses
fault_stays line line_fault.OutOfMemory other refuses = refuses
