-- What an event of a recording leaves: no client has a view to tell, and the world can be reached if the one before could.
use Rattle.std.proofs.Common.{◌≡◌, ℕ, nat_le, Bool, true, false, cond, List, [], ◌∷◌, length, Option, Some, None, slice_get, Ok, Err, refl, subst}
use Rattle.std.specs.Option.{option_map_or}
use Rattle.room_model.specs.Schemas.{WorldSchemas}
use Rattle.room_model.specs.Replicas.{Client}
use Rattle.room_model.specs.Worlds as model
use Rattle.room_model.specs.Worlds.{after_event, shown_in}
use Rattle.room_model.specs.declared.event.Event.{Event}
use Rattle.room_model.specs.declared.fault.StepFault.TheVariants.{NoSuchClient, Limit}
use Rattle.signal_core.specs.declared.watch.TheConstants.{MOST_WATCHES}
use Rattle.shape_tree.specs.Queries.{ids_meeting}
use Rattle.shape_tree.specs.declared.query.Query.{Query}
use Rattle.shape_tree.specs.declared.view.View.{View}
use Rattle.live_views.specs.Watches.{Watched}
use Rattle.rec_format.specs.declared.printed.PrintedLine.{PrintedLine}
use Rattle.rec_format.specs.declared.printed.PrintedLine.TheVariants as printed
use Rattle.rec_format.specs.declared.recorded.RecordedEvent.{RecordedEvent}
use Rattle.rec_format.specs.declared.recorded.RecordedEvent.TheVariants as recorded
use Rattle.world_laws.specs.Reachable.{ReachableWorld, stepped}
use Rattle.world_views.specs.Views.{Viewed, Stepped, Outcome, told_lines, with_joined, shown_by, tells, with_made, with_watch, on_watch, on_query, after_recorded}
use Rattle.world_views.proofs.QuietLemmas.{silent_after}

module _ {F : Type 0} (schemas : WorldSchemas F) where
  -- no client has a view to tell
  abbrev pub HasToldAll : Viewed → Type 0
  HasToldAll viewed = told_lines 0 (shown_by schemas viewed.world) viewed.watched ≡ []

  -- all was told, in a world that can be reached if the one before could
  pub record Leaves (old : model.World) (made : Stepped) : Type 0 where
    pub told : HasToldAll made.viewed
    pub reachable : ReachableWorld schemas old → ReachableWorld schemas made.viewed.world

  -- it is so of what an event makes, if the event can happen
  abbrev LeavesIf : model.World → Outcome F → Type 0
  LeavesIf old (Ok made) = Leaves old made
  LeavesIf old (Err fault) = Unit {0}

  tells_all : (old : model.World) (lines : List PrintedLine) (viewed : Viewed) → (ReachableWorld schemas old → ReachableWorld schemas viewed.world) → Leaves old (tells schemas lines viewed)
  tells_all old lines viewed reaches = record { told = silent_after 0 (shown_by schemas viewed.world) viewed.watched; reachable = reaches }

  module _ (trace : Bool) (viewed : Viewed) where
    event_leaves : (e : Event) (outcome : model.Outcome F) → after_event schemas trace viewed.world e ≡ outcome → LeavesIf viewed.world (with_made schemas e viewed outcome)
    event_leaves e (Ok made) happens = record {
      told = silent_after 0 (shown_by schemas made.world) (with_joined e viewed.watched);
      reachable = λ reached. stepped trace viewed.world e made reached happens;
    }
    event_leaves e (Err fault) happens = tt

    watch_leaves : (number : ℕ) (view : View) → LeavesIf viewed.world (on_watch schemas number view viewed)
    watch_leaves number view =
        let watching : List Watched → Outcome F = λ ws. Ok (tells schemas [] (with_watch schemas number view ws viewed)) in
        let if_place : Bool → List Watched → Outcome F = λ full ws. cond full (Err Limit) (watching ws) in
        elim (slice_get viewed.watched number) as (λ o. LeavesIf viewed.world (option_map_or (λ ws. if_place (nat_le MOST_WATCHES (length ws)) ws) o (Err NoSuchClient))) [
          | None ↦ tt
          | Some ws ↦ elim (nat_le MOST_WATCHES (length ws)) as (λ full. LeavesIf viewed.world (if_place full ws)) [
            | true ↦ tt
            | false ↦ tells_all viewed.world [] (with_watch schemas number view ws viewed) (λ reached. reached)
          ]
        ]

    query_leaves : (number : ℕ) (type : List ℕ) (query : Query) → LeavesIf viewed.world (on_query schemas number type query viewed)
    query_leaves number type query =
        let ids : Client → List PrintedLine = λ client. printed.Ids number (ids_meeting (shown_in schemas viewed.world client) type query) ∷ [] in
        elim (slice_get viewed.world.clients number) as (λ o. LeavesIf viewed.world (option_map_or (λ client. Ok (tells schemas (ids client) viewed)) o (Err NoSuchClient))) [
          | None ↦ tt
          | Some client ↦ tells_all viewed.world (ids client) viewed (λ reached. reached)
        ]

    leaves_if : (e : RecordedEvent) → LeavesIf viewed.world (after_recorded schemas trace viewed e)
    leaves_if (recorded.World e) = event_leaves e (after_event schemas trace viewed.world e) refl
    leaves_if (recorded.Watch number view) = watch_leaves number view
    leaves_if (recorded.Query number type query) = query_leaves number type query

    pub leaves : (e : RecordedEvent) (made : Stepped) → after_recorded schemas trace viewed e ≡ Ok made → Leaves viewed.world made
    leaves e made is = subst (LeavesIf viewed.world) is (leaves_if e)
