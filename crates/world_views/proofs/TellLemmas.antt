-- What stands once a client that may have something to tell has told it.
use Rattle.std.proofs.Common.{◌≡◌, ◌≢◌, ℕ, zero, suc, ◌+◌, ◌<◌, ◌≤◌, nat_le, true, false, List, [], ◌∷◌, ◌++◌, length, Some, None, Ok, Err, if◌then◌else◌, map, refl, sym, ap, subst, ◌∙◌, slice_get, slice_set, arith, inl, inr}
use Rattle.std.specs.Prelude.{vec_len}
use Rattle.std.specs.Option.{option_map_or}
use Rattle.rooms_val.specs.Data.{Pairs}
use Rattle.record_store.specs.Seen.{Seen, records, begun, watches}
use Rattle.signal_core.specs.declared.watch.TheConstants.{MOST_WATCHES}
use Rattle.live_views.specs.Watches as views
use Rattle.live_views.specs.Watches.{Watched, Stand, told_now, news}
use Rattle.room_model.specs.Schemas.{WorldSchemas}
use Rattle.room_model.specs.Replicas.{Client}
use Rattle.room_model.specs.Worlds.{shown_in}
use Rattle.rec_format.specs.declared.printed.PrintedLine.{PrintedLine}
use Rattle.side_effects.specs.declared.fault.EditFault.{EditFault}
use Rattle.shape_tree.specs.declared.view.View.{View}
use Rattle.world_laws.proofs.PushLemmas.{got_split}
use Rattle.sync_world.specs.Keeping.{AreKept}
use Rattle.sync_world.specs.Standing as world_of
use Rattle.sync_world.specs.Viewing.{stores_of, ViewsOne, HasWatches, IsClosed}
use Rattle.sync_world.specs.declared.world.World.{World}
use Rattle.sync_world.proofs.ListLemmas.{got_some, got_none, set_again}
use Rattle.sync_world.proofs.ViewingLemmas.{store_there}
use Rattle.world_views.specs.Views.{Viewed, Stepped, Outcome, tells, told_lines, clients_told, lines_of, shown_by, with_watch, on_watch}
use Rattle.room_model.specs.declared.fault.StepFault.TheVariants.{NoSuchClient, Limit}
use Rattle.world_views.specs.Standing.{IsViewing, IsQuiet, Keeps, MayTell}
use Rattle.world_views.proofs.QuietLemmas.{quiet_after}
use Rattle.world_views.proofs.TellingLemmas.{maps_of, one_tells, AreQuietBut}
use Rattle.world_views.proofs.StoreLemmas.{shown_are, store_shows}
use Rattle.world_views.proofs.KeepingLemmas.{one_view, quiet_still, got_watched, got_before, same_records}
use Rattle.world_views.proofs.EventLemmas.{many_stores, tells_nothing}
use Rattle.sync_peer.proofs.WatchLemmas.{some_of, new_watch, told_alike}

-- a client that was made, with what it watches and its store
pub record IsMade (schemas : WorldSchemas EditFault) (client : ℕ) (viewed : Viewed) (code : World) : Type 0 where
  pub one : Client
  pub at : slice_get viewed.world.clients client ≡ Some one
  pub ws : List Watched
  pub watched : slice_get viewed.watched client ≡ Some ws
  pub store : Seen
  pub stored : slice_get (stores_of code) client ≡ Some store
  pub shows : shown_in schemas viewed.world one ≡ records store

module _ (schemas : WorldSchemas EditFault) (client : ℕ) (viewed : Viewed) where
  pub is_made : (code : World) → world_of.Stands schemas viewed.world code → AreKept IsViewing viewed.watched (stores_of code) → client < vec_len code.live.clients → IsMade schemas client viewed code
  is_made code stands views less =
      let long = code.live.clients.ok.0 in
      let many = stands.keeps.fits.clients.long in
      let kept = got_some code.live.clients.items client (omega (arith, long, less)) in
      let one = got_some viewed.world.clients client (omega (arith, long, less, many)) in
      let stored = store_there code.live.clients.items client kept.0 kept.1 in
      let ws = got_watched viewed.watched (stores_of code) client _ views.long stored in
      record {
        one = one.0;
        at = one.1;
        ws = ws.0;
        watched = ws.1;
        store = _;
        stored = stored;
        shows = store_shows schemas viewed.world code stands client one.0 kept.0 one.1 kept.1;
      }

  -- who wasn't made watches nothing
  pub not_made : (code : World) → world_of.Stands schemas viewed.world code → AreKept IsViewing viewed.watched (stores_of code) → vec_len code.live.clients ≤ client
      → (slice_get viewed.world.clients client ≡ None) × (slice_get viewed.watched client ≡ None)
  not_made code stands views more =
      let long = code.live.clients.ok.0 in
      let many = stands.keeps.fits.clients.long in
      let stores = many_stores schemas viewed.world code stands in
      let watched = views.long in (
        got_none viewed.world.clients client (omega (arith, long, more, many)),
        got_none viewed.watched client (omega (arith, long, more, many, stores, watched)),
      )

  -- then nobody has something to tell
  pub nobody_tells : (code : World) → MayTell schemas client viewed code → vec_len code.live.clients ≤ client → Keeps schemas viewed code
  nobody_tells code may more =
      let none = (not_made code may.world may.watched more).1 in
      record {
        world = may.world;
        watched = may.watched;
        quiet = record {
          long = may.watched.long;
          each = λ n ws store at there. may.quiet n ws store (λ e. absurd (let both : Some ws ≡ None = sym at ∙ ap (slice_get viewed.watched) e ∙ none in cc)) at there;
        };
      }

  module _ (old new : World) (may : MayTell schemas client viewed old) (made : IsMade schemas client viewed old) where
    maps_are : shown_by schemas viewed.world ≡ maps_of (stores_of old)
    maps_are = shown_are schemas viewed.world old may.world

    quiet_but : AreQuietBut client viewed.watched (stores_of old)
    quiet_but = record { long = may.watched.long; quiet = may.quiet }

    -- its lines alone are told
    pub lines_are : told_lines 0 (shown_by schemas viewed.world) viewed.watched ≡ lines_of (shown_in schemas viewed.world made.one) client made.ws
    lines_are =
        ap (λ maps. told_lines 0 maps viewed.watched) maps_are
        ∙ (one_tells 0 client viewed.watched (stores_of old) made.ws made.store quiet_but made.watched made.stored).0
        ∙ (let from_first : 0 + client ≡ client = omega arith in λ i. lines_of (sym made.shows i) (from_first i) made.ws)

    told_are : clients_told (shown_by schemas viewed.world) viewed.watched ≡ slice_set viewed.watched client (map (told_now (records made.store)) made.ws)
    told_are =
        ap (λ maps. clients_told maps viewed.watched) maps_are
        ∙ (one_tells 0 client viewed.watched (stores_of old) made.ws made.store quiet_but made.watched made.stored).1

    module _ (stands : world_of.Stands schemas viewed.world new) (changed : ViewsOne client (stores_of old) (stores_of new)) where
      still_has : (t : Seen) → slice_get (stores_of new) client ≡ Some t → records made.store ≡ records t
      still_has t there =
          same_records (stores_of old) (stores_of new) client made.store t
          (sym (shown_are schemas viewed.world new stands) ∙ maps_are) made.stored there

      -- afterwards nobody has something left to tell
      pub told_keeps : ((t : Seen) → slice_get (stores_of new) client ≡ Some t → Stand (watches t) (some_of (map (told_now (records made.store)) made.ws)))
          → Keeps schemas (record viewed { watched = clients_told (shown_by schemas viewed.world) viewed.watched }) new
      told_keeps stand =
          let ws = map (told_now (records made.store)) made.ws in
          let after : List (List Watched) = slice_set viewed.watched client ws in
          let views = one_view client viewed.watched (stores_of old) (stores_of new) ws changed may.watched stand in
          let quiet : AreKept IsQuiet after (stores_of new) = record {
            long = views.long;
            each = λ n us t at there. elim (got_split viewed.watched client n ws us at) [
              | inl it ↦
                  let here = subst (λ k. slice_get (stores_of new) k ≡ Some t) it.0 there in
                  subst (λ vs. IsQuiet vs t) (sym it.1) (subst (λ m. news m (some_of ws) ≡ []) (still_has t here) (quiet_after (records made.store) 0 made.ws))
              | inr other ↦ may.quiet n us t other.0 other.1 (sym (changed.others n other.0) ∙ there)
            ];
          } in
          record {
            world = stands;
            watched = subst (λ watched. AreKept IsViewing watched (stores_of new)) (sym told_are) views;
            quiet = subst (λ watched. AreKept IsQuiet watched (stores_of new)) (sym told_are) quiet;
          }

  module _ (old new : World) (keeps : Keeps schemas viewed old) (made : IsMade schemas client viewed old) (stands : world_of.Stands schemas viewed.world new) (changed : ViewsOne client (stores_of old) (stores_of new)) where
    -- a further view is watched, which is to be told
    pub watch_may : (view : View) → ((t : Seen) → slice_get (stores_of new) client ≡ Some t → Stand (watches t) (some_of (made.ws ++ new_watch view ∷ [])))
        → MayTell schemas client (with_watch schemas client view made.ws viewed) new
    watch_may view stand =
        let ws = made.ws ++ new_watch view ∷ [] in
        record {
          world = stands;
          watched = one_view client viewed.watched (stores_of old) (stores_of new) ws changed keeps.watched stand;
          quiet = λ n us t apart at there. elim (got_split viewed.watched client n ws us at) [
            | inl it ↦ absurd (apart it.0)
            | inr other ↦ keeps.quiet.each n us t other.1 (sym (changed.others n apart) ∙ there)
          ];
        }

    -- no further view is watched
    pub watch_stays : ((t : Seen) → slice_get (stores_of new) client ≡ Some t → Stand (watches t) (some_of made.ws)) → Keeps schemas viewed new
    watch_stays stand =
        let same : slice_set viewed.watched client made.ws ≡ viewed.watched = set_again viewed.watched client made.ws made.watched in
        let maps = sym (shown_are schemas viewed.world new stands) ∙ shown_are schemas viewed.world old keeps.world in
        record {
          world = stands;
          watched = subst (λ watched. AreKept IsViewing watched (stores_of new)) same (one_view client viewed.watched (stores_of old) (stores_of new) made.ws changed keeps.watched stand);
          quiet = quiet_still viewed.watched (stores_of old) (stores_of new) changed.long maps keeps.quiet;
        }

module _ (schemas : WorldSchemas EditFault) (client : ℕ) (viewed : Viewed) (code : World) (kept : AreKept IsViewing viewed.watched (stores_of code)) (made : IsMade schemas client viewed code) where
  store_is : (store : Seen) → slice_get (stores_of code) client ≡ Some store → made.store ≡ store
  store_is store there = let both : Some made.store ≡ Some store = sym made.stored ∙ there in cc

  is_viewing : IsViewing made.ws made.store
  is_viewing = kept.each client made.ws made.store made.watched made.stored

  -- its store has its watches, and no open transaction
  pub has_watches : HasWatches client code (some_of made.ws)
  has_watches store there = subst (λ (s : Seen). Stand (watches s) (some_of made.ws)) (store_is store there) is_viewing.stand

  pub is_closed : IsClosed client code
  is_closed store there = subst (λ (s : Seen). begun s ≡ []) (store_is store there) is_viewing.closed

  pub stand_there : Stand (watches made.store) (some_of made.ws)
  stand_there = is_viewing.stand

  -- its watches, once it told what it shows
  pub told_has : (new : World) → HasWatches client new (views.all_told (shown_in schemas viewed.world made.one) (some_of made.ws))
      → (t : Seen) → slice_get (stores_of new) client ≡ Some t → Stand (watches t) (some_of (map (told_now (records made.store)) made.ws))
  told_has new has t there =
      subst (Stand (watches t)) (ap (λ m. views.all_told m (some_of made.ws)) made.shows ∙ told_alike (records made.store) made.ws) (has t there)

-- a client that watches fewer views than may be watches a further one
pub watches_more : (schemas : WorldSchemas EditFault) (client : ℕ) (view : View) (viewed : Viewed) (ws : List Watched) → slice_get viewed.watched client ≡ Some ws
    → nat_le MOST_WATCHES (length ws) ≡ false → on_watch schemas client view viewed ≡ Ok (tells schemas [] (with_watch schemas client view ws viewed))
watches_more schemas client view viewed ws at less =
    let goes : List Watched → Outcome EditFault = λ vs. if nat_le MOST_WATCHES (length vs) then Err Limit else Ok (tells schemas [] (with_watch schemas client view vs viewed)) in
    ap (λ o. option_map_or goes o (Err NoSuchClient)) at ∙ ap (λ b. if b then Err Limit else Ok (tells schemas [] (with_watch schemas client view ws viewed))) less

-- one that watches as many as may be doesn't
pub watches_no_more : (schemas : WorldSchemas EditFault) (client : ℕ) (view : View) (viewed : Viewed) (ws : List Watched) → slice_get viewed.watched client ≡ Some ws
    → nat_le MOST_WATCHES (length ws) ≡ true → on_watch schemas client view viewed ≡ Err Limit
watches_no_more schemas client view viewed ws at full =
    let goes : List Watched → Outcome EditFault = λ vs. if nat_le MOST_WATCHES (length vs) then Err Limit else Ok (tells schemas [] (with_watch schemas client view vs viewed)) in
    ap (λ o. option_map_or goes o (Err NoSuchClient)) at ∙ ap (λ b. if b then Err Limit else Ok (tells schemas [] (with_watch schemas client view ws viewed))) full
