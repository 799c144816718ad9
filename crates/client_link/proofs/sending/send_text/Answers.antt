use Rattle.std.proofs.Common.{sym, subst}
use Rattle.client_link.proofs.SendingLemmas.{cut_sent}
use Rattle.wire_text.specs.Cutting.{IsCutInto}
use Rattle.client_link.proofs.sending.send_text.Goals as goal

pub returns-clause-sent : goal.returns-clause-sent
returns-clause-sent g c =
    let told = g.K.Link.told in
    cut_sent c.args.text.now c.as_slice.result.now c.send_pieces.result (told c.args.link.now) (told c.send_pieces.new.link)
    (subst (IsCutInto c.args.text.now) (sym c.as_slice.ensures.value) c.in_ok-pieces.ensures) c.send_pieces.ensures.sent
