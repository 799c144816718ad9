use Rattle.std.proofs.Common.{◌<◌, vec_len, arith}
use Rattle.sync_world.proofs.PartLemmas.{client_there, client_none}
use Rattle.shared_board.proofs.board.Board.peer.Goals as goal

pub returns-then-has_client-clause-found : goal.returns-then-has_client-clause-found
returns-then-has_client-clause-found c = λ schemas state stands.
    let one = client_there schemas state c.args.self.now.world.live stands.world.keeps.fits c.args.client.number (c.has_client.ensures.0 c.if-has_client.true) in
    (one.0, one.1, c.peer.ensures.stands schemas state one.0 stands.world one.1)

pub returns-clause-none : goal.returns-clause-none
returns-clause-none c = λ schemas state stands.
    let no : ¬ (c.args.client.number < vec_len c.args.self.now.world.live.clients) = λ less. (let yes = c.has_client.ensures.1 less in let not = c.if-has_client.false in cc) in
    client_none schemas state c.args.self.now.world.live stands.world.keeps.fits c.args.client.number (omega (arith, no))
