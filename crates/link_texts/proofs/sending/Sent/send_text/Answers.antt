use Rattle.std.proofs.Common.{map, sym, subst}
use Rattle.link_texts.proofs.SendingLemmas.{short_sent, long_sent}
use Rattle.wire_text.specs.Cutting.{AreParts}
use Rattle.link_texts.proofs.sending.Sent.send_text.Goals as goal

pub returns-then-text-le-LONGEST_PART-clause-sent : goal.returns-then-text-le-LONGEST_PART-clause-sent
returns-then-text-le-LONGEST_PART-clause-sent g c =
    let told = g.K.Link.told in
    short_sent c.args.text.now c.send_piece.result c.args.self.now c.send_piece.new.self (told c.args.link.now) (told c.send_piece.new.link) c.if-text-le-LONGEST_PART.true c.send_piece.ensures.sent

pub returns-clause-sent : goal.returns-clause-sent
returns-clause-sent g c =
    let told = g.K.Link.told in
    let are = subst (λ ps. AreParts c.args.text.now (map (λ part. part.now) ps)) (sym c.as_slice.ensures.value) c.in_ok-parts.ensures in
    long_sent c.args.text.now (map (λ part. part.now) c.as_slice.result.now) c.send_parts.result c.args.self.now c.send_parts.new.self (told c.args.link.now) (told c.send_parts.new.link)
    c.if-text-le-LONGEST_PART.false are c.send_parts.ensures.sent
