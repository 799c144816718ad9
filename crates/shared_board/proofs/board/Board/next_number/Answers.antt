use Rattle.std.proofs.Common.{◌<◌, vec_len, arith}
use Rattle.shared_board.proofs.board.Board.next_number.Goals as goal

pub clients-preserved : goal.clients-preserved
clients-preserved c = omega (arith, c.has_client.ensures.0 c.if-not-has_client.false)

pub returns-then-not-has_client-clause-found : goal.returns-then-not-has_client-clause-found
returns-then-not-has_client-clause-found c =
    let no : ¬ (c.clients.number < vec_len c.args.self.now.world.live.clients) = λ less. (let yes = c.has_client.ensures.1 less in let not = c.if-not-has_client.true in cc) in
    omega (arith, no, c.clients.invariant)
