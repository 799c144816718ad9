-- What clients show is what their stores have.
use Rattle.std.proofs.Common.{◌≡◌, ℕ, suc, List, [], ◌∷◌, length, Some, map, refl, sym, ap, subst, ◌∙◌, slice_get, arith}
use Rattle.rooms_val.specs.Data.{Pairs}
use Rattle.record_store.specs.Seen.{Seen, records}
use Rattle.room_model.specs.Schemas.{WorldSchemas}
use Rattle.room_model.specs.Replicas.{Client}
use Rattle.room_model.specs.Worlds as model
use Rattle.room_model.specs.Worlds.{shown_in}
use Rattle.side_effects.specs.declared.fault.EditFault.{EditFault}
use Rattle.sync_peer.specs.Viewing.{store_of}
use Rattle.sync_peer.proofs.PeerLemmas as peers
use Rattle.sync_world.specs.States.{client_state}
use Rattle.sync_world.specs.Keeping.{AreKept}
use Rattle.sync_world.specs.Standing as world_of
use Rattle.sync_world.specs.Viewing.{stores_of, stores_kept}
use Rattle.sync_world.specs.declared.live.WorldClient.{WorldClient}
use Rattle.sync_world.specs.declared.world.World.{World}
use Rattle.sync_world.proofs.ShowLemmas.{shown_is}
use Rattle.world_views.specs.Views.{shown_by}
use Rattle.world_views.proofs.TellingLemmas.{maps_of}

-- a peer's store has what its client shows
pub store_shows : (schemas : WorldSchemas EditFault) (world : model.World) (code : World) → world_of.Stands schemas world code
    → (n : ℕ) (client : Client) (kept : WorldClient) → slice_get world.clients n ≡ Some client → slice_get code.live.clients.items n ≡ Some kept
    → shown_in schemas world client ≡ records (store_of kept.peer)
store_shows schemas world code stands n client kept at there =
    let is = stands.keeps.fits.clients.each n client kept at there in
    sym (shown_is schemas world code.live stands.keeps n client at) ∙ peers.shown_is schemas (client_state schemas world.room.history client) kept.peer is.peer

same_maps : (f : Client → Pairs) (clients : List Client) (kept : List WorldClient) → length kept ≡ length clients
    → ((n : ℕ) (c : Client) (k : WorldClient) → slice_get clients n ≡ Some c → slice_get kept n ≡ Some k → f c ≡ records (store_of k.peer))
    → map f clients ≡ maps_of (stores_kept kept)
same_maps f [] [] long each = refl
same_maps f [] (k ∷ kept) long each = absurd (let no : suc (length kept) ≡ 0 = long in cc)
same_maps f (c ∷ clients) [] long each = absurd (let no : 0 ≡ suc (length clients) = long in cc)
same_maps f (c ∷ clients) (k ∷ kept) long each =
    let rest : length kept ≡ length clients = omega (arith, long) in
    λ i. each 0 c k refl refl i ∷ same_maps f clients kept rest (λ n d x at there. each (suc n) d x at there) i

-- all clients show what their stores have
pub shown_are : (schemas : WorldSchemas EditFault) (world : model.World) (code : World) → world_of.Stands schemas world code → shown_by schemas world ≡ maps_of (stores_of code)
shown_are schemas world code stands =
    same_maps (shown_in schemas world) world.clients code.live.clients.items stands.keeps.fits.clients.long (store_shows schemas world code stands)
