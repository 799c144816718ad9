-- What becomes of a client whose store is lent.
use Rattle.std.specs.Borrow.{Lends, Fml, RattleType, MutBor}
use Rattle.sync_client.specs.declared.client.SyncClient.{SyncClient}
use Rattle.sync_client.specs.contracts.client.SyncClient.{the_row}

-- the client ends with the last store behind the reference
abbrev pub LendsStore : (D : RattleType) → MutBor (SyncClient D.Denot) → MutBor D.Denot → Fml
LendsStore D s r = Lends (the_row D) D s r (λ w. record s.now { replica = record s.now.replica { store = w } })
