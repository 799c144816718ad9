use Rattle.std.proofs.Common.{◌≡◌, length, subst, arith}
use Rattle.std.specs.Prelude.{reverse}
use Rattle.std.proofs.lemmas.List.{length-reverse}
use Rattle.signal_txn.specs.Seen.{Seen}
use Rattle.signal_txn.proofs.txn.Txn.depth.Goals as goal

pub returns : goal.returns
returns g c =
    let items = c.self.inside.levels.items in
    let same : length (reverse items) ≡ length items = length-reverse items in
    let count : c.len.result ≡ length (reverse items) = omega (arith, c.len.ensures, same) in
    subst (λ (s : Seen g.row.R.Denot g.row.R-Key.Denot g.row.R-Value.Denot). c.len.result ≡ length s.journal.levels) c.self.view_is count
