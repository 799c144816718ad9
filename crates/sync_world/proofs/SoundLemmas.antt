-- What clients of a world show stays sound.
use Rattle.std.proofs.Common.{◌≡◌, ◌≢◌, ◌⊎◌, inl, inr, ℕ, ◌<◌, ◌≤◌, nat_lt, ◌++◌, true, false, List, [], ◌∷◌, length, slice_get, Option, Some, None, refl, sym, ap, subst, ◌∙◌, arith}
use Rattle.std.proofs.lemmas.Bool.Decides.{nat_tests}
use Rattle.std.proofs.lemmas.Option.{slice_get_within}
use Rattle.rooms_val.specs.Data.{map, members_of, IsSound}
use Rattle.record_store.specs.Seen.{Seen, records}
use Rattle.room_model.specs.Schemas.{WorldSchemas}
use Rattle.room_model.specs.Replicas.{Client}
use Rattle.room_model.specs.Worlds as model
use Rattle.room_model.specs.Worlds.{shown_in}
use Rattle.room_model.specs.declared.event.Event.{Event}
use Rattle.room_model.specs.declared.event.Event.TheVariants as event
use Rattle.room_model.proofs.ClosingLemmas.{by_number}
use Rattle.side_effects.specs.declared.fault.EditFault.{EditFault}
use Rattle.sync_peer.specs.Viewing.{store_of, IsSoundStore}
use Rattle.sync_peer.proofs.PeerLemmas as peers
use Rattle.world_laws.specs.Restoring.{ShowsSound}
use Rattle.world_laws.proofs.PushLemmas.{got_old, got_new}
use Rattle.sync_world.specs.States.{client_state}
use Rattle.sync_world.specs.Standing.{Keeps}
use Rattle.sync_world.specs.Viewing.{stores_in, ChangesOne, ChangesIf, MayJoin, KeepsStores, IsSoundAt, changed_by}
use Rattle.sync_world.specs.declared.live.Live.{Live}
use Rattle.sync_world.proofs.ListLemmas.{got_some}
use Rattle.sync_world.proofs.ShowLemmas.{shown_is}
use Rattle.sync_world.proofs.ViewingLemmas.{store_there, long_stores}

-- each of some stores is sound
abbrev AreSound : List Seen → Type 0
AreSound stores = (n : ℕ) (store : Seen) → slice_get stores n ≡ Some store → IsSoundStore store

sound_if : (changed : Option ℕ) (old new : List Seen) → AreSound old → ChangesIf changed old new → IsSoundAt changed new → AreSound new
sound_if None old new all same told = subst AreSound (sym same) all
sound_if (Some client) old new all changed told = λ n store there. by_number (λ b. IsSoundStore store) n client
    (λ same. told store (ap (slice_get new) (sym same) ∙ there))
    (λ apart. all n store (sym (changed.others n apart) ∙ there))

sound_joined : (old new : List Seen) → AreSound old → MayJoin old new → AreSound new
sound_joined old new all (inl same) = subst AreSound (sym same) all
sound_joined old new all (inr joined) =
    let fresh = joined.0 in
    let with_fresh : AreSound (old ++ fresh ∷ []) = λ n store there. elim (nat_lt n (length old)) as (λ b. nat_lt n (length old) ≡ b → IsSoundStore store) [
      | true ↦ λ less.
          let within : n < length old = grind (arith, nat_tests) in
          all n store (got_old old n fresh store within there)
      | false ↦ λ more.
          let behind : length old ≤ n = grind (arith, nat_tests) in
          subst IsSoundStore (sym (got_new old n fresh store behind there)) joined.2.sound
    ] refl in
    subst AreSound (sym joined.1) with_fresh

-- an event keeps the stores sound, if that is so of the one that it may change
sound_after : (e : Event) (old new : List Seen) → AreSound old → KeepsStores e old new → IsSoundAt (changed_by e) new → AreSound new
sound_after (event.Client version) old new all stores told = sound_joined old new all stores
sound_after (event.Connect client readonly) old new all stores told = sound_if None old new all stores told
sound_after (event.Edit client diff) old new all stores told = sound_if (Some client) old new all stores told
sound_after (event.Presence client val) old new all stores told = sound_if None old new all stores told
sound_after (event.Mark client name) old new all stores told = sound_if None old new all stores told
sound_after (event.Undo client) old new all stores told = sound_if (Some client) old new all stores told
sound_after (event.Redo client) old new all stores told = sound_if (Some client) old new all stores told
sound_after (event.Bail client name) old new all stores told = sound_if (Some client) old new all stores told
sound_after (event.Copy client ids) old new all stores told = sound_if None old new all stores told
sound_after (event.Paste client dx dy parent prefix) old new all stores told = sound_if (Some client) old new all stores told
sound_after (event.Handle session) old new all stores told = sound_if None old new all stores told
sound_after (event.Send session) old new all stores told = sound_if None old new all stores told
sound_after (event.Deliver client) old new all stores told = sound_if (Some client) old new all stores told
sound_after (event.Cut client) old new all stores told = sound_if None old new all stores told
sound_after (event.Lose session) old new all stores told = sound_if None old new all stores told
sound_after (event.Show client) old new all stores told = sound_if None old new all stores told
sound_after event.End old new all stores told = sound_if None old new all stores told

module _ (schemas : WorldSchemas EditFault) (w : model.World) (live : Live) (keeps : Keeps schemas w live) where
  -- what a client shows is in its store
  store_shows : (n : ℕ) (c : Client) → slice_get w.clients n ≡ Some c → (store : Seen) × (slice_get (stores_in live) n ≡ Some store) × (records store ≡ shown_in schemas w c)
  store_shows n c at =
      let within = slice_get_within w.clients n c at in
      let long = keeps.fits.clients.long in
      let there = got_some live.clients.items n (omega (arith, within, long)) in
      let is = keeps.fits.clients.each n c there.0 at there.1 in (
        store_of there.0.peer,
        store_there live.clients.items n there.0 there.1,
        sym (peers.shown_is schemas (client_state schemas w.room.history c) there.0.peer is.peer) ∙ shown_is schemas w live keeps n c at,
      )

  shows_sound : AreSound (stores_in live) → (n : ℕ) → ShowsSound schemas w n
  shows_sound all n c at =
      let store = store_shows n c at in
      subst (λ m. IsSound (map (members_of m))) store.2 (all n store.0 store.1)

  stores_sound : ((n : ℕ) → ShowsSound schemas w n) → AreSound (stores_in live)
  stores_sound shows n store there =
      let within = slice_get_within (stores_in live) n store there in
      let long = long_stores live.clients.items ∙ keeps.fits.clients.long in
      let client = got_some w.clients n (omega (arith, within, long)) in
      let found = store_shows n client.0 client.1 in
      let same : found.0 ≡ store = let both : Some found.0 ≡ Some store = sym found.1 ∙ there in cc in
      subst IsSoundStore same (subst (λ m. IsSound (map (members_of m))) (sym found.2) (shows n client.0 client.1))

-- what clients show after an event is sound
pub still_sound : (schemas : WorldSchemas EditFault) (e : Event) (w v : model.World) (old new : Live) → Keeps schemas w old → Keeps schemas v new
    → KeepsStores e (stores_in old) (stores_in new) → IsSoundAt (changed_by e) (stores_in new) → ((n : ℕ) → ShowsSound schemas w n) → (n : ℕ) → ShowsSound schemas v n
still_sound schemas e w v old new before after stores told sound =
    shows_sound schemas v new after (sound_after e (stores_in old) (stores_in new) (stores_sound schemas w old before sound) stores told)
