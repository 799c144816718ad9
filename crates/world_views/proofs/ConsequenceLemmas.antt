-- What a step has for the world inside.
use Rattle.std.proofs.Common.{◌≡◌, ℕ, nat_le, List, [], ◌∷◌, length, Bool, true, false, if◌then◌else◌, Option, Some, None, slice_get, Result, Ok, Err, OnOk, refl, sym, ap, subst, ◌∙◌}
use Rattle.std.specs.Global.{Vec}
use Rattle.std.specs.Option.{option_map_or}
use Rattle.rooms_val.specs.Data.{Pairs}
use Rattle.shape_tree.specs.Queries.{ids_meeting}
use Rattle.shape_tree.specs.declared.query.Query.{Query}
use Rattle.shape_tree.specs.declared.view.View.{View}
use Rattle.signal_core.specs.declared.watch.TheConstants.{MOST_WATCHES}
use Rattle.live_views.specs.Watches.{Watched}
use Rattle.room_model.specs.Schemas.{WorldSchemas}
use Rattle.room_model.specs.Replicas.{Client}
use Rattle.room_model.specs.Rooms.{Room}
use Rattle.room_model.specs.Worlds as model
use Rattle.room_model.specs.Worlds.{World, shown_in, after_event}
use Rattle.room_model.specs.declared.event.Event.{Event}
use Rattle.room_model.specs.declared.fault.StepFault.{StepFault}
use Rattle.room_model.specs.declared.fault.StepFault.TheVariants.{NoSuchClient, Limit}
use Rattle.rec_format.specs.declared.printed.PrintedLine.{PrintedLine}
use Rattle.rec_format.specs.declared.printed.PrintedLine.TheVariants as printed
use Rattle.rec_format.specs.declared.recorded.RecordedEvent.{RecordedEvent}
use Rattle.rec_format.specs.declared.recorded.RecordedEvent.TheVariants as recorded
use Rattle.side_effects.specs.declared.fault.EditFault.{EditFault}
use Rattle.world_laws.specs.Presences.{GoesOnByClosing}
use Rattle.world_laws.specs.Reachable.{ReachableWorld}
use Rattle.world_laws.proofs.RemovalLemmas.{goes_on_by_closing}
use Rattle.sync_world.specs.Entries.{ClosesSince}
use Rattle.sync_world.specs.Restoring.{IsSinceMark, GoesBack, Shows}
use Rattle.sync_world.proofs.StepLemmas.{shows_again}
use Rattle.world_views.specs.Views.{Viewed, Stepped, Outcome, tells, with_made, with_watch, on_watch, on_query, after_recorded}
use Rattle.world_views.specs.Standing.{Stands, StepsTo}
use Rattle.world_views.specs.declared.viewed.ViewedWorld.{ViewedWorld}

-- the world that an outcome makes; this one where it is refused
abbrev world_after : World → Outcome EditFault → World
world_after w (Ok made) = made.viewed.world
world_after w (Err fault) = w

-- nothing was appended, so nothing closes
nothing_closes : (room : Room) → GoesOnByClosing room room
nothing_closes room = record { fresh = []; appended = refl; closes = tt }

module _ (schemas : WorldSchemas EditFault) where
  -- an event of the world makes of it what it makes of it by itself
  own_made : (e : Event) (viewed : Viewed) (outcome : model.Outcome EditFault) (made : Stepped) → with_made schemas e viewed outcome ≡ Ok made
      → (own : model.Stepped) × (outcome ≡ Ok own) × (own.world ≡ made.viewed.world)
  own_made e viewed (Ok own) made is = (own, refl, ap (world_after made.viewed.world) is)
  own_made e viewed (Err fault) made is = absurd (cc)

  same_if : (b : Bool) (viewed next : Viewed) → next.world ≡ viewed.world
      → world_after viewed.world (if b then Err Limit else Ok (tells schemas [] next)) ≡ viewed.world
  same_if true viewed next same = refl
  same_if false viewed next same = same

  -- a watch leaves the world as it is
  watch_stays : (number : ℕ) (view : View) (viewed : Viewed) (o : Option (List Watched))
      → world_after viewed.world (option_map_or (λ ws. if nat_le MOST_WATCHES (length ws) then Err Limit else Ok (tells schemas [] (with_watch schemas number view ws viewed))) o (Err NoSuchClient)) ≡ viewed.world
  watch_stays number view viewed None = refl
  watch_stays number view viewed (Some ws) = same_if (nat_le MOST_WATCHES (length ws)) viewed (with_watch schemas number view ws viewed) refl

  -- so does a query
  query_stays : (number : ℕ) (type : List ℕ) (query : Query) (viewed : Viewed) (o : Option Client)
      → world_after viewed.world (option_map_or (λ client. Ok (tells schemas (printed.Ids number (ids_meeting (shown_in schemas viewed.world client) type query) ∷ []) viewed)) o (Err NoSuchClient)) ≡ viewed.world
  query_stays number type query viewed None = refl
  query_stays number type query viewed (Some client) = refl

  -- where the world is as it was nothing closes
  nothing_happens : (viewed : Viewed) (made : Stepped) (outcome : Outcome EditFault) → world_after viewed.world outcome ≡ viewed.world → outcome ≡ Ok made
      → GoesOnByClosing viewed.world.room made.viewed.world.room
  nothing_happens viewed made outcome stays is =
      subst (λ (w : World). GoesOnByClosing viewed.world.room w.room) (sym stays ∙ ap (world_after viewed.world) is) (nothing_closes viewed.world.room)

  -- of what an event appends each entry without author removes the presence of a session that it closes
  closes_by : (trace : Bool) (e : RecordedEvent) (viewed : Viewed) (made : Stepped) → ReachableWorld schemas viewed.world → after_recorded schemas trace viewed e ≡ Ok made
      → GoesOnByClosing viewed.world.room made.viewed.world.room
  closes_by trace (recorded.World e) viewed made reached is =
      let own = own_made e viewed (after_event schemas trace viewed.world e) made is in
      subst (λ (w : World). GoesOnByClosing viewed.world.room w.room) own.2 (goes_on_by_closing schemas viewed.world trace e own.0 reached own.1)
  closes_by trace (recorded.Watch client view) viewed made reached is =
      nothing_happens viewed made (on_watch schemas client view viewed) (watch_stays client view viewed (slice_get viewed.watched client)) is
  closes_by trace (recorded.Query client type query) viewed made reached is =
      nothing_happens viewed made (on_query schemas client type query viewed) (query_stays client type query viewed (slice_get viewed.world.clients client)) is

module _ (trace : Bool) (e : RecordedEvent) (old new : ViewedWorld) where
  -- a step leads from a world for which the code stands to the next
  abbrev pub Leads : Result (Vec PrintedLine) (StepFault EditFault) → Type 0
  Leads answer = (schemas : WorldSchemas EditFault) (viewed : Viewed) → Stands schemas viewed old → StepsTo schemas viewed (after_recorded schemas trace viewed e) answer new

  -- what goes back to a mark shows again what its client showed then
  pub goes_back : (answer : Result (Vec PrintedLine) (StepFault EditFault)) → Leads answer
      → OnOk answer ((schemas : WorldSchemas EditFault) (viewed : Viewed) (number : ℕ) (name : List ℕ) (before : Pairs) (own : Event)
      → e ≡ recorded.World own → Stands schemas viewed old → IsSinceMark schemas number name before viewed.world
      → GoesBack schemas viewed.world number name before own → Shows schemas number before new.world)
  goes_back (Err fault) leads = tt
  goes_back (Ok lines) leads = λ schemas viewed number name before own is stands since goes.
      let answered = leads schemas viewed stands in
      let happened = own_made schemas own viewed (after_event schemas trace viewed.world own) answered.0 (subst (λ x. after_recorded schemas trace viewed x ≡ Ok answered.0) is answered.1) in
      let Brings : World → Type 0 = λ w. (after : Client) → slice_get w.clients number ≡ Some after → shown_in schemas w after ≡ before in
      record {
        world = answered.0.viewed.world;
        stands = answered.3.world;
        shows = subst Brings happened.2 (λ after there. shows_again schemas stands.world.keeps.fits.tables trace viewed.world number name before happened.0 after own since goes happened.1 there);
      }

  pub closing : (answer : Result (Vec PrintedLine) (StepFault EditFault)) → Leads answer
      → OnOk answer ((schemas : WorldSchemas EditFault) (viewed : Viewed) → Stands schemas viewed old → ClosesSince schemas viewed.world.room new.world)
  closing (Err fault) leads = tt
  closing (Ok lines) leads = λ schemas viewed stands.
      let answered = leads schemas viewed stands in
      record {
        world = answered.0.viewed.world;
        stands = answered.3.world;
        closes = closes_by schemas trace e viewed answered.0 stands.world.keeps.reachable answered.1;
      }
