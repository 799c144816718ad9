-- What becomes of a peer whose store is lent.
use Rattle.std.specs.Borrow.{Lends, Fml, MutBor}
use Rattle.record_store.specs.Seen.{Seen}
use Rattle.record_store.specs.contracts.store.RecordStore as store
use Rattle.sync_peer.specs.declared.peer.Peer.{Peer}
use Rattle.sync_peer.specs.contracts.peer.Peer as peer

-- the peer ends with the last store behind the reference
abbrev pub LendsStore : MutBor Peer → MutBor Seen → Fml
LendsStore s r = Lends peer.the_row store.the_row s r (λ w. record s.now { client = record s.now.client { replica = record s.now.client.replica { store = w } } })
