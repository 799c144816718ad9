use Rattle.std.proofs.Common.{Ok, refl, subst, ◌∙◌, sym, ap}
use Rattle.link_texts.proofs.SendingLemmas.{tells_more, tells_then}
use Rattle.room_link.specs.Exchange.{idle, Takes, Tells}
use Rattle.room_serve.proofs.AccountLemmas.{stopped_sent, stopped_texts, stopped_wire}
use Rattle.room_serve.proofs.TurnLemmas.{heard_idle, stays, taken_then}
use Rattle.room_serve.specs.Turns.{Converses}
use Rattle.room_serve.proofs.conversation.Door.turn.Goals as goal

pub returns-in-Ok-Idle-clause-talk : goal.returns-in-Ok-Idle-clause-talk
returns-in-Ok-Idle-clause-talk g c =
    let before = c.args.conversation.now in
    let taken = subst (λ r. Tells (Takes (Ok r)) (g.K.Link.told c.args.link.now) (g.K.Link.told c.next.new.self)) c.in-Ok-Idle.field-0-is c.in-Ok-Idle.ensures.taken in
    tells_then _ _ _ taken c.idle.ensures.talk (λ x y z took told. taken_then idle before c.idle.new.conversation x y z took
    (heard_idle before c.idle.new.conversation y z c.idle.ensures.assembler c.requires.open.wire told))

pub returns-in-Ok-End-clause-talk : goal.returns-in-Ok-End-clause-talk
returns-in-Ok-End-clause-talk g c =
    let before = c.args.conversation.now in
    let taken = subst (λ r. Tells (Takes (Ok r)) (g.K.Link.told c.args.link.now) (g.K.Link.told c.next.new.self)) c.in-Ok-End.field-0-is c.in-Ok-End.ensures.taken in
    tells_more _ _ taken (λ x y took. subst (Converses before before x) (sym took.1) (stays before before x refl refl c.requires.open.wire refl refl))

pub returns-in-Err-clause-talk : goal.returns-in-Err-clause-talk
returns-in-Err-clause-talk g c =
    let before = c.args.conversation.now in
    let after = record before { account = c.stop.new.self } in
    tells_more _ _ c.in-Err.ensures.taken (λ x y took. subst (Converses before after x) (sym took)
    (stays before after x refl refl (ap (λ a. a.wire) c.stop.ensures ∙ (stopped_wire _ _ ∙ c.requires.open.wire)) (ap (λ a. a.texts) c.stop.ensures ∙ stopped_texts _ _)
    (ap (λ a. a.sent) c.stop.ensures ∙ stopped_sent _ _)))
