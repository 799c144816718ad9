-- What a peer watches, and what its calls leave of it.
use Rattle.std.specs.Prelude.{◌≡◌, List, Option, []}
use Rattle.rooms_val.specs.Data.{map, members_of, IsSound}
use Rattle.signal_core.specs.declared.watch.Watch.{Watch}
use Rattle.tl_rules.specs.declared.key.TlKey.{TlKey}
use Rattle.tl_rules.specs.declared.value.TlValue.{TlValue}
use Rattle.record_store.specs.Seen as store
use Rattle.sync_peer.specs.declared.peer.Peer.{Peer}

-- the store of a peer
abbrev pub store_of : Peer → store.Seen
store_of peer = peer.client.replica.store

-- what a peer watches, and what was last told of it
abbrev pub watched : Peer → List (Option (Watch TlKey TlValue))
watched peer = store.watches (store_of peer)

-- the records of a store are sound, as each map is that code keeps
abbrev pub IsSoundStore : store.Seen → Type 0
IsSoundStore s = IsSound (map (members_of (store.records s)))

-- no transaction is open in the store of a peer
abbrev pub IsClosed : Peer → Type 0
IsClosed peer = store.begun (store_of peer) ≡ []

-- stores that watch the same, with the same open transactions
pub record WatchAlike (old new : store.Seen) : Type 0 where
  pub watches : store.watches new ≡ store.watches old
  pub begun : store.begun new ≡ store.begun old
