use Rattle.std.proofs.Common.{◌≡◌, ◌+◌, ◌-◌, ◌∙◌, length, arith}
use Rattle.link_texts.proofs.SendingLemmas.{one_sent, next_piece, tells_then}
use Rattle.room_link.specs.declared.passing.Outgoing.TheVariants.{Text}
use Rattle.link_texts.proofs.sending.Sent.send_parts.Goals as goal

pub parts-preserved : goal.parts-preserved
parts-preserved g c =
    let count : c.parts.to_come - 1 + (c.parts.part-index + 1) ≡ length c.args.parts.now = omega arith in
    record {
      to_come = count;
      faults_stay = omega (arith, c.parts.invariant.faults_stay, c.send_piece.ensures.faults_stay);
      sent = tells_then _ _ _ c.parts.invariant.sent c.in_ok-send_piece.ensures.sent (λ x y z sent puts.
          one_sent _ _ _ (Text c.as_str.result.now) _ _ _ x y z (next_piece c.args.parts.now c.parts.part-index (c.parts.to_come - 1) _ c.as_str.result.now c.parts-test.true count (c.as_str.ensures.bytes ∙ c.in_ok-piece.ensures)) sent puts);
    }
