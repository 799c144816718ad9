-- What the code's replies say of a line and of its event.
use Rattle.std.proofs.Common.{◌≡◌, ◌≢◌, ℕ, ◌<◌, nat_le, List, [], length, Bool, true, false, ◌&&◌, Option, Some, None, Ok, Err, refl, sym, ap, subst, inl, inr, arith}
use Rattle.std.specs.Prelude.{codes}
use Rattle.std.specs.Global.{Vec}
use Rattle.std.proofs.lemmas.Bool.Decides.{nat_tests}
use Rattle.recording_lines.specs.Lines.{is_blank}
use Rattle.rec_format.specs.Recorded.{IsProperRecorded}
use Rattle.rec_format.specs.Lines.{IsHeader, IsEvent, RefusesHeader, RefusesLine}
use Rattle.rec_format.specs.declared.fault.LineFault.{LineFault}
use Rattle.rec_format.specs.declared.fault.LineFault.TheVariants as of_line
use Rattle.rec_format.specs.declared.printed.PrintedLine.{PrintedLine}
use Rattle.rec_format.specs.declared.read.TheConstants.{LONGEST_LINE}
use Rattle.rec_format.specs.declared.recorded.RecordedEvent.{RecordedEvent}
use Rattle.rec_format.specs.declared.recorded.RecordedEvent.TheVariants as recorded
use Rattle.fault_texts.specs.Texts.{line_fault_text, step_fault_text}
use Rattle.side_effects.specs.declared.fault.EditFault.{EditFault}
use Rattle.room_model.specs.Schemas.{WorldSchemas}
use Rattle.room_model.specs.declared.event.Event.TheVariants as event
use Rattle.room_model.specs.declared.event.Header.{Header}
use Rattle.room_model.specs.declared.fault.StepFault.{StepFault}
use Rattle.room_model.specs.declared.fault.StepFault.TheVariants as fault
use Rattle.sync_world.specs.Standing.{IsAtVersion}
use Rattle.world_views.specs.Standing.{Stands, StepsTo, IsPlayable}
use Rattle.world_views.specs.Views.{Viewed, nothing_viewed, after_recorded}
use Rattle.world_views.specs.declared.viewed.ViewedWorld.{ViewedWorld}
use Rattle.replay_job.specs.Taking.{Progress, refused, passed, ended, is_end, is_passed_by, TakesUnless}
use Rattle.replay_job.specs.Replies.{Reads, Becomes, BecomesHeader, BecomesEvent, BecomesOf}
use Rattle.replay_job.specs.declared.replay.Reply.{Reply}
use Rattle.replay_job.specs.declared.replay.Reply.TheVariants.{Refused, Wrote, Ended}

-- a proper event can be given to a world
pub playable : (e : RecordedEvent) → IsProperRecorded e → IsPlayable e
playable (recorded.World (event.Client version)) proper = proper
playable (recorded.World (event.Paste client dx dy parent prefix)) proper = (proper.0, proper.1)
playable e proper = tt

module _ (trace : Bool) (schemas : WorldSchemas EditFault) (viewed : Viewed) (e : RecordedEvent) (code : ViewedWorld) where
  -- it happened, and the recording goes on
  pub becomes_lines : (lines : Vec PrintedLine) → is_end e ≡ false → StepsTo schemas viewed (after_recorded schemas trace viewed e) (Ok lines) code → BecomesOf trace schemas viewed e (Wrote lines) (Some code)
  becomes_lines lines goes_on steps = (
    passed steps.0.lines (Some (schemas, steps.0.viewed)),
    (steps.0, steps.1, goes_on, refl, refl),
    (steps.2, steps.3),
  )

  -- it happened, and was the last
  pub becomes_end : (lines : Vec PrintedLine) → is_end e ≡ true → StepsTo schemas viewed (after_recorded schemas trace viewed e) (Ok lines) code → BecomesOf trace schemas viewed e (Ended lines) (Some code)
  becomes_end lines ends steps = (
    ended steps.0.lines (Some (schemas, steps.0.viewed)),
    (steps.0, steps.1, ends, refl, refl),
    (steps.2, steps.3),
  )

  -- a fault that has a text is no want of memory
  is_no_want : (f : StepFault EditFault) (text : List ℕ) → step_fault_text f ≡ Some text → f ≢ fault.OutOfMemory
  is_no_want f text is want = let none : step_fault_text fault.OutOfMemory ≡ Some text = subst (λ g. step_fault_text g ≡ Some text) want is in cc

  -- it can't happen
  pub becomes_refusal : (f : StepFault EditFault) (text : List ℕ) → step_fault_text f ≡ Some text → StepsTo schemas viewed (after_recorded schemas trace viewed e) (Err f) code → BecomesOf trace schemas viewed e (Refused text) (Some code)
  becomes_refusal f text is steps =
      let told = steps (is_no_want f text is) in
      (refused text, (f, told.0, is), (refl, told.1))

-- the header was read
pub becomes_world : (line : List ℕ) (header : Header) (lines : Vec PrintedLine) (code : ViewedWorld) (next : Option ViewedWorld)
    → IsHeader line header → (schemas : WorldSchemas EditFault) × IsAtVersion header.version schemas × Stands schemas nothing_viewed code
    → lines.items ≡ [] → next ≡ Some code → BecomesHeader line (Wrote lines) next
becomes_world line header lines code next is made none now = (
  passed [] (Some (made.0, nothing_viewed)),
  (header, made.0, is, made.1, refl, refl),
  (none, subst (Reads (Some (made.0, nothing_viewed))) (sym now) made.2),
)

-- the first line is no header
pub becomes_no_world : (line : List ℕ) (f : LineFault) (text : List ℕ) (next : Option ViewedWorld)
    → RefusesHeader line f → line_fault_text f ≡ Some text → next ≡ None → BecomesHeader line (Refused text) next
becomes_no_world line f text next refuses is none = (refused text, (f, refuses, is), (refl, subst (Reads None) (sym none) tt))

-- a later line is no event
pub becomes_no_event : (trace : Bool) (schemas : WorldSchemas EditFault) (viewed : Viewed) (line : List ℕ) (f : LineFault) (text : List ℕ) (code : ViewedWorld)
    → RefusesLine line f → line_fault_text f ≡ Some text → Stands schemas viewed code → BecomesEvent trace schemas viewed line (Refused text) (Some code)
becomes_no_event trace schemas viewed line f text code refuses is stands = (refused text, inl (text, (f, refuses, is), refl), (refl, stands))

-- a later line is an event
pub becomes_event : (trace : Bool) (schemas : WorldSchemas EditFault) (viewed : Viewed) (line : List ℕ) (e : RecordedEvent) (reply : Reply) (next : Option ViewedWorld)
    → IsEvent line e → BecomesOf trace schemas viewed e reply next → BecomesEvent trace schemas viewed line reply next
becomes_event trace schemas viewed line e reply next is becomes = (becomes.0, inr (e, is, becomes.1), becomes.2)

-- a line is passed by
pub becomes_nothing : (trace : Bool) (progress : Progress) (line : List ℕ) (lines : Vec PrintedLine) (world : Option ViewedWorld)
    → is_passed_by line ≡ true → lines.items ≡ [] → Reads progress world → Becomes trace progress line (Wrote lines) world
becomes_nothing trace progress line lines world passes none reads =
    (passed [] progress, subst (λ b. TakesUnless b trace progress line (passed [] progress)) (sym passes) refl, (none, reads))

-- the first line that isn't passed by
pub becomes_header : (trace : Bool) (progress : Progress) (line : List ℕ) (reply : Reply) (old next : Option ViewedWorld)
    → is_passed_by line ≡ false → old ≡ None → Reads progress old → BecomesHeader line reply next → Becomes trace progress line reply next
becomes_header trace None line reply old next stays none reads becomes =
    (becomes.0, subst (λ b. TakesUnless b trace None line becomes.0) (sym stays) becomes.1, becomes.2)
becomes_header trace (Some (schemas, viewed)) line reply old next stays none reads becomes = absurd (subst (Reads (Some (schemas, viewed))) none reads)

-- a later one
pub becomes_later : (trace : Bool) (progress : Progress) (line : List ℕ) (reply : Reply) (code : ViewedWorld) (next : Option ViewedWorld)
    → is_passed_by line ≡ false → Reads progress (Some code)
    → ((schemas : WorldSchemas EditFault) (viewed : Viewed) → Stands schemas viewed code → BecomesEvent trace schemas viewed line reply next)
    → Becomes trace progress line reply next
becomes_later trace None line reply code next stays reads becomes = absurd reads
becomes_later trace (Some (schemas, viewed)) line reply code next stays reads becomes =
    let found = becomes schemas viewed reads in
    (found.0, subst (λ b. TakesUnless b trace (Some (schemas, viewed)) line found.0) (sym stays) found.1, found.2)

-- a line that is too long isn't passed by
long_stays : (line : List ℕ) → LONGEST_LINE < length line → is_passed_by line ≡ false
long_stays line long = let past : nat_le (length line) LONGEST_LINE ≡ false = grind (arith, nat_tests, long) in ap (λ b. b && is_blank line) past

-- and is refused
pub becomes_too_long : (trace : Bool) (progress : Progress) (line : List ℕ) (text : List ℕ) (world : Option ViewedWorld)
    → LONGEST_LINE < length line → text ≡ codes "LineTooLong" → Reads progress world → Becomes trace progress line (Refused text) world
becomes_too_long trace None line text world long is reads = (
  refused text,
  subst (λ b. TakesUnless b trace None line (refused text)) (sym (long_stays line long)) (of_line.LineTooLong, long, ap Some (sym is)),
  (refl, reads),
)
becomes_too_long trace (Some (schemas, viewed)) line text world long is reads = (
  refused text,
  subst (λ b. TakesUnless b trace (Some (schemas, viewed)) line (refused text)) (sym (long_stays line long)) (inl (text, (of_line.LineTooLong, long, ap Some (sym is)), refl)),
  (refl, reads),
)
