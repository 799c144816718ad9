-- A client that has caught up shows the room's document, in each world to which a recording's lines lead, and nobody has a view to tell.
use Rattle.std.proofs.Common.{◌≡◌, ℕ, Bool, true, false, List, [], ◌∷◌, Option, Some, None, Ok, refl, sym, ap, subst, ◌∙◌, inl, inr}
use Rattle.std.specs.Prelude.{IfSome}
use Rattle.room_model.specs.Schemas.{WorldSchemas}
use Rattle.room_model.specs.Reachable.{anew, begins as from_beginning}
use Rattle.room_model.specs.Rooms.{new_room}
use Rattle.room_model.specs.Worlds.{show_line, shown_in}
use Rattle.room_model.specs.declared.event.Event.TheVariants as event
use Rattle.room_model.specs.declared.limits.TheConstants.{LAST_CLOCK}
use Rattle.rec_format.specs.declared.printed.PrintedLine.{PrintedLine}
use Rattle.rec_format.specs.declared.printed.PrintedLine.TheVariants as printed
use Rattle.rec_format.specs.declared.recorded.RecordedEvent.{RecordedEvent}
use Rattle.rec_format.specs.declared.recorded.RecordedEvent.TheVariants as recorded
use Rattle.side_effects.specs.declared.fault.EditFault.{EditFault}
use Rattle.world_laws.specs.Reachable.{ReachableWorld, begun}
use Rattle.world_laws.proofs.ShownLemmas.{shows_room}
use Rattle.sync_world.specs.CaughtUp.{CaughtUpShowTheRoom}
use Rattle.sync_world.proofs.CaughtUpLemmas.{caught_up}
use Rattle.sync_world.proofs.OutcomeLemmas.{shows}
use Rattle.world_views.specs.Views.{Viewed, Stepped, Outcome, tells, with_made, after_recorded}
use Rattle.world_views.specs.declared.viewed.ViewedWorld.{ViewedWorld}
use Rattle.world_views.proofs.LeavingLemmas.{HasToldAll, leaves}
use Rattle.replay_job.specs.CaughtUp.{Leads, CaughtUpPrintTheRoom}
use Rattle.replay_job.specs.Taking.{Progress, passed, Takes, TakesUnless, TakesNext, Happens, is_passed_by}

-- a progress is before the header, or in a world that can be reached, in which nobody has a view to tell
abbrev IsReached : Progress → Type 0
IsReached None = Unit {0}
IsReached (Some (schemas, viewed)) = ReachableWorld schemas viewed.world × HasToldAll schemas viewed

pub the_next : (out more : List PrintedLine) (next last : Progress) → passed out next ≡ passed more last → last ≡ next
the_next out more next last is = cc

the_made : (outcome : Outcome EditFault) (a b : Stepped) → outcome ≡ Ok a → outcome ≡ Ok b → a ≡ b
the_made outcome a b one other = cc

happening_reaches : (trace : Bool) (schemas : WorldSchemas EditFault) (viewed : Viewed) (e : RecordedEvent) (out : List PrintedLine) (next : Progress)
    → Happens trace schemas viewed e (passed out next) → ReachableWorld schemas viewed.world → IsReached next
happening_reaches trace schemas viewed e out next happens reached =
    let left = leaves schemas trace viewed e happens.0 happens.1 in
    subst IsReached (sym happens.4) (left.reachable reached, left.told)

next_reaches : (trace : Bool) (progress next : Progress) (line : List ℕ) (out : List PrintedLine) → TakesNext trace progress line (passed out next) → IsReached progress → IsReached next
next_reaches trace None next line out takes reached = subst IsReached (sym takes.5) (begun (new_room LAST_CLOCK) (from_beginning (new_room LAST_CLOCK) (anew LAST_CLOCK)) refl, refl)
next_reaches trace (Some (schemas, viewed)) next line out (inl other) reached = absurd (cc other.2)
next_reaches trace (Some (schemas, viewed)) next line out (inr takes) reached = happening_reaches trace schemas viewed takes.0 out next takes.2 reached.0

line_reaches : (trace : Bool) (progress next : Progress) (line : List ℕ) (out : List PrintedLine) → Takes trace progress line (passed out next) → IsReached progress → IsReached next
line_reaches trace progress next line out takes reached =
    elim (is_passed_by line) as (λ b. TakesUnless b trace progress line (passed out next) → IsReached next) [
      | true ↦ λ same. subst IsReached (the_next out [] next progress same) reached
      | false ↦ λ later. next_reaches trace progress next line out later reached
    ] takes

lines_reach : (trace : Bool) (lines : List (List ℕ)) (progress last : Progress) → Leads trace progress lines last → IsReached progress → IsReached last
lines_reach trace [] progress last leads reached = subst IsReached leads reached
lines_reach trace (line ∷ lines) progress last leads reached = lines_reach trace lines leads.1 last leads.3 (line_reaches trace progress leads.1 line leads.0 leads.2 reached)

pub caught_up_print : (trace : Bool) (recording : List ℕ) → CaughtUpPrintTheRoom trace recording
caught_up_print trace recording first rest schemas viewed number client out next is leads there now happens =
    let world = viewed.world in
    let reached = lines_reach trace first None (Some (schemas, viewed)) leads tt in
    let room = shows_room schemas world number client reached.0 there now.reached now.owes in
    let line : PrintedLine = printed.World (show_line schemas number world client) in
    let made : after_recorded schemas trace viewed (recorded.World (event.Show number)) ≡ Ok (tells schemas (line ∷ []) viewed) =
    ap (with_made schemas (event.Show number) viewed) (shows schemas world number client there) in
    let same = the_made (after_recorded schemas trace viewed (recorded.World (event.Show number))) happens.0 (tells schemas (line ∷ []) viewed) happens.1 made in (
      shown_in schemas world client,
      record { plan = room.0; leads = room.1; seen = room.2 },
      happens.3 ∙ ap (λ (s : Stepped). s.lines) same ∙ ap (λ lines. line ∷ lines) reached.1,
    )

-- it is so of what a source tells, if it does
pub told_print : (trace : Bool) (left : Option (List ℕ)) → IfSome left (CaughtUpPrintTheRoom trace)
told_print trace None = tt
told_print trace (Some recording) = caught_up_print trace recording

-- and of the world that is answered, if one is
pub answered_show : (world : Option ViewedWorld) → IfSome world (λ viewed. CaughtUpShowTheRoom viewed.world)
answered_show None = tt
answered_show (Some viewed) = caught_up viewed.world
