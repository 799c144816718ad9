use Rattle.std.proofs.Common.{arith}
use Rattle.link_texts.proofs.SendingLemmas.{next_sent, next_begun, all_sent}
use Rattle.link_texts.proofs.sending.Sent.send_all.Goals as goal

pub returns-in_err-send_one-clause-sent : goal.returns-in_err-send_one-clause-sent
returns-in_err-send_one-clause-sent g c =
    let told = g.K.Link.told in
    next_begun c.args.outs.now c.outs.out-index c.out-item.result c.from_residual.result c.args.self.now c.outs.self c.send_one.new.self (told c.args.link.now) (told c.outs.link) (told c.send_one.new.link)
    c.outs-test.true c.out-item.is c.from_residual.ensures.0 c.outs.invariant.sent c.in_err-send_one.ensures.sent

pub outs-preserved : goal.outs-preserved
outs-preserved g c =
    let told = g.K.Link.told in
    record {
      faults_stay = omega (arith, c.outs.invariant.faults_stay, c.send_one.ensures.faults_stay);
      sent = next_sent c.args.outs.now c.outs.out-index c.out-item.result c.args.self.now c.outs.self c.send_one.new.self (told c.args.link.now) (told c.outs.link) (told c.send_one.new.link)
          c.outs-test.true c.out-item.is c.outs.invariant.sent c.in_ok-send_one.ensures.sent;
    }

pub returns-clause-sent : goal.returns-clause-sent
returns-clause-sent g c =
    let told = g.K.Link.told in
    all_sent c.args.outs.now c.outs.out-index c.args.self.now c.outs.self (told c.args.link.now) (told c.outs.link) c.outs-test.false c.outs.invariant.sent
