use Rattle.std.proofs.Common.{refl, sym, append-nil, ap, arith}
use Rattle.client_link.proofs.SendingLemmas.{next_sent, next_begun, all_sent}
use Rattle.client_link.proofs.sending.send_all.Goals as goal

pub returns-in_err-send_one-clause-sent : goal.returns-in_err-send_one-clause-sent
returns-in_err-send_one-clause-sent g c =
    let told = g.K.Link.told in
    next_begun c.args.sayings.now c.sayings.saying-index c.saying-item.result c.from_residual.result (told c.args.link.now) (told c.sayings.link) (told c.send_one.new.link)
    c.sayings-test.true c.saying-item.is c.from_residual.ensures.0 c.sayings.invariant.sent c.in_err-send_one.ensures.sent

pub sayings-preserved : goal.sayings-preserved
sayings-preserved g c =
    let told = g.K.Link.told in
    record {
      faults_stay = omega (arith, c.sayings.invariant.faults_stay, c.send_one.ensures.faults_stay);
      sent = next_sent c.args.sayings.now c.sayings.saying-index c.saying-item.result (told c.args.link.now) (told c.sayings.link) (told c.send_one.new.link)
          c.sayings-test.true c.saying-item.is c.sayings.invariant.sent c.in_ok-send_one.ensures.sent;
    }

pub returns-clause-sent : goal.returns-clause-sent
returns-clause-sent g c =
    let told = g.K.Link.told in
    all_sent c.args.sayings.now c.sayings.saying-index (told c.args.link.now) (told c.sayings.link) c.sayings-test.false c.sayings.invariant.sent
