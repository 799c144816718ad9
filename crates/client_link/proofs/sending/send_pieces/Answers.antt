use Rattle.std.proofs.Common.{◌∷◌, [], ◌++◌, ◌∙◌, ap, arith}
use Rattle.client_link.specs.Sending.{AreTexts}
use Rattle.client_link.proofs.SendingLemmas.{IsGone, tells_same, gone_begins, gone_on, gone_all, gone_some, stopped}
use Rattle.link_texts.proofs.SendingLemmas.{tells_then, tells_more}
use Rattle.link_texts.specs.Sending.{Begins}
use Rattle.room_link.specs.declared.passing.Outgoing.TheVariants.{Text}
use Rattle.client_link.proofs.sending.send_pieces.Goals as goal

pub pieces-init : goal.pieces-init
pieces-init g c = record {
  faults_stay = omega arith;
  sent = tells_same (IsGone 0 c.args.pieces.now) (g.K.Link.told c.args.link.now) (λ x. gone_begins c.args.pieces.now x);
}

pub pieces-preserved : goal.pieces-preserved
pieces-preserved g c =
    let told = g.K.Link.told in
    record {
      faults_stay = omega (arith, c.pieces.invariant.faults_stay, c.send.ensures.faults_stay);
      sent = tells_then (told c.args.link.now) (told c.pieces.link) (told c.send.new.self) c.pieces.invariant.sent c.in_ok-send.ensures.sent (λ x y z gone sent.
          gone_on c.args.pieces.now c.pieces.piece-index c.piece-item.result x y z c.pieces-test.true c.piece-item.is gone
          (sent ∙ ap (λ t. record y { sent = y.sent ++ Text t ∷ [] }) c.as_str.ensures.bytes));
    }

pub returns-clause-sent : goal.returns-clause-sent
returns-clause-sent g c =
    let told = g.K.Link.told in
    tells_more (told c.args.link.now) (told c.pieces.link) c.pieces.invariant.sent (λ x y gone. gone_all c.args.pieces.now c.pieces.piece-index x y c.pieces-test.false gone)

pub returns-in_err-send-clause-sent : goal.returns-in_err-send-clause-sent
returns-in_err-send-clause-sent g c =
    let told = g.K.Link.told in
    tells_then (told c.args.link.now) (told c.pieces.link) (told c.send.new.self) c.pieces.invariant.sent c.in_err-send.ensures.sent (λ x y z gone same.
    stopped (AreTexts c.args.pieces.now) (Begins (AreTexts c.args.pieces.now)) c.from_residual.result x z c.from_residual.ensures.0
    (gone_some c.args.pieces.now c.pieces.piece-index x z (same ∙ gone)))
