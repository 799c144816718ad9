-- What the clients of a world watch, and what an event leaves of their stores.
use Rattle.std.specs.Prelude.{◌≡◌, ◌≢◌, ◌⊎◌, ℕ, List, [], ◌∷◌, ◌++◌, length, map, Option, Some, None, slice_get}
use Rattle.record_store.specs.Seen.{Seen, watches, begun}
use Rattle.live_views.specs.Watches.{Watches, Stand}
use Rattle.sync_peer.specs.Viewing.{store_of, WatchAlike, IsSoundStore}
use Rattle.room_model.specs.declared.event.Event.{Event}
use Rattle.room_model.specs.declared.event.Event.TheVariants as event
use Rattle.sync_world.specs.declared.live.Live.{Live}
use Rattle.sync_world.specs.declared.live.WorldClient.{WorldClient}
use Rattle.sync_world.specs.declared.world.World.{World}

-- the stores of the clients, by number
abbrev pub stores_kept : List WorldClient → List Seen
stores_kept kept = map {B = Seen} (λ k. store_of k.peer) kept

abbrev pub stores_in : Live → List Seen
stores_in live = stores_kept live.clients.items

abbrev pub stores_of : World → List Seen
stores_of code = stores_in code.live

-- only the store of one client may have changed, and the new one is like the old
pub record ChangesAt (Alike : Seen → Seen → Type 0) (number : ℕ) (old new : List Seen) : Type 0 where
  pub long : length new ≡ length old
  pub others : (n : ℕ) → n ≢ number → slice_get new n ≡ slice_get old n
  pub alike : (s t : Seen) → slice_get old number ≡ Some s → slice_get new number ≡ Some t → Alike s t

-- only one store may have changed; it has the same watches and open transactions
abbrev pub ChangesOne : ℕ → List Seen → List Seen → Type 0
ChangesOne = ChangesAt WatchAlike

-- only one store may have changed; it has the same open transactions
abbrev pub ViewsOne : ℕ → List Seen → List Seen → Type 0
ViewsOne = ChangesAt (λ s t. begun t ≡ begun s)

-- nothing is watched in a store, whose records are sound, and no transaction is open
pub record IsUnwatched (store : Seen) : Type 0 where
  pub unwatched : watches store ≡ []
  pub closed : begun store ≡ []
  pub sound : IsSoundStore store

-- the stores are as they were, but for that of a client that may have joined
abbrev pub MayJoin : List Seen → List Seen → Type 0
MayJoin old new = (new ≡ old) ⊎ ((fresh : Seen) × (new ≡ old ++ fresh ∷ []) × IsUnwatched fresh)

-- the client whose document an event may change
abbrev pub changed_by : Event → Option ℕ
changed_by (event.Edit client diff) = Some client
changed_by (event.Undo client) = Some client
changed_by (event.Redo client) = Some client
changed_by (event.Bail client name) = Some client
changed_by (event.Paste client dx dy parent prefix) = Some client
changed_by (event.Deliver client) = Some client
changed_by other = None

-- only the store of that client may have changed
abbrev pub ChangesIf : Option ℕ → List Seen → List Seen → Type 0
ChangesIf None old new = new ≡ old
ChangesIf (Some client) old new = ChangesOne client old new

-- what an event leaves of the stores: after a join there may be one more
abbrev pub KeepsStores : Event → List Seen → List Seen → Type 0
KeepsStores (event.Client version) old new = MayJoin old new
KeepsStores e old new = ChangesIf (changed_by e) old new

-- the store of this client is sound, if one is named and has a store
abbrev pub IsSoundAt : Option ℕ → List Seen → Type 0
IsSoundAt None stores = Unit {0}
IsSoundAt (Some number) stores = (store : Seen) → slice_get stores number ≡ Some store → IsSoundStore store

-- the store of a client has these watches
abbrev pub HasWatches : ℕ → World → Watches → Type 0
HasWatches number code ws = (store : Seen) → slice_get (stores_of code) number ≡ Some store → Stand (watches store) ws

-- no transaction is open in the store of a client
abbrev pub IsClosed : ℕ → World → Type 0
IsClosed number code = (store : Seen) → slice_get (stores_of code) number ≡ Some store → begun store ≡ []
