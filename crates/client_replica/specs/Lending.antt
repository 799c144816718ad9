-- What becomes of a replica whose store is lent.
use Rattle.std.specs.Borrow.{Lends, Fml, RattleType, MutBor}
use Rattle.client_replica.specs.declared.replica.Replica.{Replica}
use Rattle.client_replica.specs.contracts.replica.Replica.{the_row}

-- the replica ends with the last store behind the reference
abbrev pub LendsStore : (D : RattleType) → MutBor (Replica D.Denot) → MutBor D.Denot → Fml
LendsStore D s r = Lends (the_row D) D s r (λ w. record s.now { store = w })
