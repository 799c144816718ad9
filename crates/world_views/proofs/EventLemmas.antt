-- What an event leaves of a world with its watches.
use Rattle.std.proofs.Common.{◌≡◌, ◌≢◌, ℕ, suc, nat_le, Bool, true, false, inl, inr, List, [], ◌∷◌, ◌++◌, length, Option, Some, None, Result, Ok, Err, map, refl, sym, ap, subst, ◌∙◌, slice_get, slice_set, append-nil, if◌then◌else◌, arith}
use Rattle.rooms_val.specs.Data.{Pairs}
use Rattle.record_store.specs.Seen.{Seen, records}
use Rattle.live_views.specs.Watches.{Watched, told_now, news}
use Rattle.room_model.specs.Schemas.{WorldSchemas}
use Rattle.room_model.specs.Replicas.{Client, new_client}
use Rattle.room_model.specs.Worlds as model
use Rattle.room_model.specs.Rooms.{Room}
use Rattle.room_model.specs.Worlds.{after_event, world_over}
use Rattle.room_model.specs.declared.event.Event.{Event}
use Rattle.room_model.specs.declared.event.Event.TheVariants as event
use Rattle.room_model.specs.declared.fault.StepFault.{StepFault}
use Rattle.room_model.specs.declared.fault.StepFault.TheVariants.{NoSuchClient, NoSuchSession, NothingThere, Edit, Connect, NoMark, Limit, Clip, NoClip, Paste, OutOfMemory}
use Rattle.room_model.specs.declared.limits.TheConstants.{MOST_CLIENTS}
use Rattle.rec_format.specs.declared.printed.PrintedLine.{PrintedLine}
use Rattle.side_effects.specs.declared.fault.EditFault.{EditFault}
use Rattle.sync_world.specs.Answers.{Faults, Refuses}
use Rattle.sync_world.specs.Keeping.{AreKept}
use Rattle.sync_world.specs.Standing as world_of
use Rattle.sync_world.specs.Viewing.{stores_of, changed_by, KeepsStores, ChangesOne, MayJoin}
use Rattle.sync_world.specs.declared.world.World.{World}
use Rattle.sync_world.proofs.ViewingLemmas.{long_stores as stores_long}
use Rattle.world_views.specs.Views.{Viewed, Stepped, nobody_viewing, tells, told_lines, clients_told, with_joined, shown_by}
use Rattle.world_views.specs.Standing.{IsViewing, IsQuiet, Keeps, MayTell, After}
use Rattle.world_views.proofs.StoreLemmas.{shown_are}
use Rattle.world_views.proofs.TellingLemmas.{maps_of, none_tells, AreQuietBut}
use Rattle.world_views.proofs.KeepingLemmas.{AreAlike, alike_after, alike_view, one_changed, unchanged, quiet_still, quiet_others, joined_view, joined_quiet}

module _ (schemas : WorldSchemas EditFault) where
  -- there are as many stores as clients
  pub many_stores : (world : model.World) (code : World) → world_of.Stands schemas world code → length (stores_of code) ≡ length world.clients
  many_stores world code stands = stores_long code.live.clients.items ∙ stands.keeps.fits.clients.long

  -- in a world in which nobody has something to tell nothing is told
  pub tells_nothing : (viewed : Viewed) (code : World) (lines : List PrintedLine) → Keeps schemas viewed code → tells schemas lines viewed ≡ record { viewed = viewed; lines = lines }
  tells_nothing viewed code lines keeps =
      let shown = shown_are schemas viewed.world code keeps.world in
      let none = none_tells 0 viewed.watched (stores_of code) keeps.quiet in
      let told : told_lines 0 (shown_by schemas viewed.world) viewed.watched ≡ [] = ap (λ maps. told_lines 0 maps viewed.watched) shown ∙ none.0 in
      let same : clients_told (shown_by schemas viewed.world) viewed.watched ≡ viewed.watched = ap (λ maps. clients_told maps viewed.watched) shown ∙ none.1 in
      λ i. record { viewed = record viewed { watched = same i }; lines = (ap (λ more. lines ++ more) told ∙ append-nil lines) i }

  -- an event that is refused leaves all as it was
  pub refused_keeps : (e : Event) (viewed : Viewed) (old new : World) → Keeps schemas viewed old → world_of.Stands schemas viewed.world new
      → KeepsStores e (stores_of old) (stores_of new) → Keeps schemas viewed new
  refused_keeps e viewed old new keeps stands stores =
      let long : length (stores_of new) ≡ length (stores_of old) = many_stores viewed.world new stands ∙ sym (many_stores viewed.world old keeps.world) in
      let same : maps_of (stores_of new) ≡ maps_of (stores_of old) = sym (shown_are schemas viewed.world new stands) ∙ shown_are schemas viewed.world old keeps.world in
      record {
        world = stands;
        watched = alike_view viewed.watched (stores_of old) (stores_of new) (alike_after e (stores_of old) (stores_of new) long stores) keeps.watched;
        quiet = quiet_still viewed.watched (stores_of old) (stores_of new) long same keeps.quiet;
      }

  module _ (viewed : Viewed) (made : model.World) (old new : World) (keeps : Keeps schemas viewed old) (stands : world_of.Stands schemas made new) where
    after_same : stores_of new ≡ stores_of old → Keeps schemas (record { world = made; watched = viewed.watched }) new
    after_same same = record {
      world = stands;
      watched = subst (AreKept IsViewing viewed.watched) (sym same) keeps.watched;
      quiet = subst (AreKept IsQuiet viewed.watched) (sym same) keeps.quiet;
    }

    after_one : (client : ℕ) → ChangesOne client (stores_of old) (stores_of new) → MayTell schemas client (record { world = made; watched = viewed.watched }) new
    after_one client changed = record {
      world = stands;
      watched = alike_view viewed.watched (stores_of old) (stores_of new) (one_changed client (stores_of old) (stores_of new) changed) keeps.watched;
      quiet = (quiet_others _ client viewed.watched (stores_of old) (stores_of new) changed keeps.quiet).quiet;
    }

    after_join : length made.clients ≡ suc (length viewed.world.clients) → MayJoin (stores_of old) (stores_of new)
        → Keeps schemas (record { world = made; watched = viewed.watched ++ [] ∷ [] }) new
    after_join more (inl same) =
        let long : length made.clients ≡ length viewed.world.clients =
        sym (many_stores made new stands) ∙ ap length same ∙ many_stores viewed.world old keeps.world in
        absurd (omega (arith, more, long))
    after_join more (inr joined) = record {
      world = stands;
      watched = joined_view viewed.watched (stores_of old) (stores_of new) joined.0 joined.1 joined.2 keeps.watched;
      quiet = joined_quiet viewed.watched (stores_of old) (stores_of new) joined.0 joined.1 keeps.quiet;
    }

  long_added : (clients : List Client) (c : Client) → length (clients ++ c ∷ []) ≡ suc (length clients)
  long_added [] c = refl
  long_added (x ∷ clients) c = ap suc (long_added clients c)

  -- who joins is one more
  joins_one : (b : Bool) (version : ℕ) (world : model.World) (made : model.Stepped)
      → (if b then Err Limit else model.happens {F = EditFault} [] (record world { clients = world.clients ++ new_client version ∷ [] })) ≡ Ok made
      → length made.world.clients ≡ suc (length world.clients)
  joins_one true version world made is = absurd (cc)
  joins_one false version world made is =
      let next : model.World = record world { clients = world.clients ++ new_client version ∷ [] } in
      let same : made.world ≡ next = let whole : record { world = next; lines = [] } ≡ made = cc in ap (λ (m : model.Stepped). m.world) (sym whole) in
      ap (λ (w : model.World). length w.clients) same ∙ long_added world.clients (new_client version)

  -- what an event leaves that happens
  pub event_leaves : (e : Event) (trace : Bool) (viewed : Viewed) (made : model.Stepped) (old new : World) → Keeps schemas viewed old
      → after_event schemas trace viewed.world e ≡ Ok made → world_of.Stands schemas made.world new → KeepsStores e (stores_of old) (stores_of new)
      → After schemas (changed_by e) (record { world = made.world; watched = with_joined e viewed.watched }) new
  event_leaves (event.Client version) trace viewed made old new keeps is stands stores =
      after_join viewed made.world old new keeps stands (joins_one (nat_le MOST_CLIENTS (length viewed.world.clients)) version viewed.world made is) stores
  event_leaves (event.Connect client readonly) trace viewed made old new keeps is stands stores = after_same viewed made.world old new keeps stands stores
  event_leaves (event.Edit client diff) trace viewed made old new keeps is stands stores = after_one viewed made.world old new keeps stands client stores
  event_leaves (event.Presence client stored) trace viewed made old new keeps is stands stores = after_same viewed made.world old new keeps stands stores
  event_leaves (event.Mark client name) trace viewed made old new keeps is stands stores = after_same viewed made.world old new keeps stands stores
  event_leaves (event.Undo client) trace viewed made old new keeps is stands stores = after_one viewed made.world old new keeps stands client stores
  event_leaves (event.Redo client) trace viewed made old new keeps is stands stores = after_one viewed made.world old new keeps stands client stores
  event_leaves (event.Bail client name) trace viewed made old new keeps is stands stores = after_one viewed made.world old new keeps stands client stores
  event_leaves (event.Copy client ids) trace viewed made old new keeps is stands stores = after_same viewed made.world old new keeps stands stores
  event_leaves (event.Paste client dx dy parent prefix) trace viewed made old new keeps is stands stores = after_one viewed made.world old new keeps stands client stores
  event_leaves (event.Handle session) trace viewed made old new keeps is stands stores = after_same viewed made.world old new keeps stands stores
  event_leaves (event.Send session) trace viewed made old new keeps is stands stores = after_same viewed made.world old new keeps stands stores
  event_leaves (event.Deliver client) trace viewed made old new keeps is stands stores = after_one viewed made.world old new keeps stands client stores
  event_leaves (event.Cut client) trace viewed made old new keeps is stands stores = after_same viewed made.world old new keeps stands stores
  event_leaves (event.Lose session) trace viewed made old new keeps is stands stores = after_same viewed made.world old new keeps stands stores
  event_leaves (event.Show client) trace viewed made old new keeps is stands stores = after_same viewed made.world old new keeps stands stores
  event_leaves event.End trace viewed made old new keeps is stands stores = after_same viewed made.world old new keeps stands stores

  -- a fault that isn't that memory ran out is a refusal
  pub refusal_of : (world : model.World) (outcome : model.Outcome EditFault) (fault : StepFault EditFault) (code : World) → fault ≢ OutOfMemory → Faults schemas world outcome fault code
      → (outcome ≡ Err fault) × world_of.Stands schemas world code
  refusal_of world outcome NoSuchClient code other refuses = refuses
  refusal_of world outcome NoSuchSession code other refuses = refuses
  refusal_of world outcome NothingThere code other refuses = refuses
  refusal_of world outcome (Edit fault) code other refuses = refuses
  refusal_of world outcome (Connect fault) code other refuses = refuses
  refusal_of world outcome NoMark code other refuses = refuses
  refusal_of world outcome Limit code other refuses = refuses
  refusal_of world outcome (Clip fault) code other refuses = refuses
  refusal_of world outcome NoClip code other refuses = refuses
  refusal_of world outcome (Paste fault) code other refuses = refuses
  refusal_of world outcome OutOfMemory code other refuses = absurd (other refl)

  -- where there is no client nothing is watched
  pub nothing_keeps : (room : Room) (code : World) → world_of.Stands schemas (world_over room) code → stores_of code ≡ [] → Keeps schemas (nobody_viewing (world_over room)) code
  nothing_keeps room code stands none = record {
    world = stands;
    watched = subst (AreKept IsViewing []) (sym none) (record { long = refl; each = λ n ws store at there. absurd (cc) });
    quiet = subst (AreKept IsQuiet []) (sym none) (record { long = refl; each = λ n ws store at there. absurd (cc) });
  }

  -- where nobody has something to tell, the lines are the event's own, and all is kept
  pub still_told : (viewed : Viewed) (code : World) (lines : List PrintedLine) → Keeps schemas viewed code
      → (lines ≡ (tells schemas lines viewed).lines) × Keeps schemas (tells schemas lines viewed).viewed code
  still_told viewed code lines keeps =
      let same = sym (tells_nothing viewed code lines keeps) in (
        ap (λ (s : Stepped). s.lines) same,
        subst (λ (s : Stepped). Keeps schemas s.viewed code) same keeps,
      )
