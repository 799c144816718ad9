use Rattle.std.proofs.Common.{true, ap, refl, subst, ◌∙◌}
use Rattle.link_texts.proofs.SendingLemmas.{tells_more}
use Rattle.link_texts.specs.Hearing.{IfRefused, IsHeard, Refuses}
use Rattle.room_link.specs.Exchange.{text}
use Rattle.room_serve.specs.Turns.{Reacts}
use Rattle.room_serve.proofs.CourseLemmas.{tells_same}
use Rattle.room_serve.proofs.TurnLemmas.{heard_none, heard_message, refused_text, unread_text}
use Rattle.room_serve.proofs.conversation.Door.hear.Goals as goal

pub returns-in-Ok-None-clause-talk : goal.returns-in-Ok-None-clause-talk
returns-in-Ok-None-clause-talk g c =
    let before = c.args.conversation.now in
    let heard = subst (λ s. IsHeard before.assembler c.args.bytes.now s c.hear.new.assembler) c.in-Ok-None.field-0-is c.in-Ok-None.ensures.heard in
    let counted = c.count-number.ensures in
    let after = record before { assembler = c.hear.new.assembler; account = c.count-number.new.self } in
    tells_same (Reacts (text c.args.bytes.now) before after) _ (λ x. heard_none c.args.bytes.now before after x heard refl (ap (λ a. a.wire) counted ∙ c.requires.open.wire) (ap (λ a. a.texts) counted) (ap (λ a. a.sent) counted))

pub returns-in-Ok-Some-clause-talk : goal.returns-in-Ok-Some-clause-talk
returns-in-Ok-Some-clause-talk g c =
    let before = c.args.conversation.now in
    let heard = subst (λ s. IsHeard before.assembler c.args.bytes.now s c.hear.new.assembler) c.in-Ok-Some.field-0-is c.in-Ok-Some.ensures.heard in
    let counted = c.count-number.ensures in
    tells_more _ _ c.answer.ensures.talk (λ x y told. heard_message c.args.bytes.now _ before _ c.answer.new.conversation x y heard c.answer.ensures.assembler refl
    (ap (λ a. a.wire) counted ∙ c.requires.open.wire) (ap (λ a. a.texts) counted) (ap (λ a. a.sent) counted) told)

pub returns-in-Err-Refused-clause-talk : goal.returns-in-Err-Refused-clause-talk
returns-in-Err-Refused-clause-talk g c =
    let before = c.args.conversation.now in
    let refuses = subst (IfRefused (Refuses before.assembler c.args.bytes.now)) c.in-Err-Refused.field-0-is c.in-Err-Refused.ensures.refused in
    let counted = c.count-number.ensures in
    tells_more _ _ c.refuse.ensures.closed (λ x y told. refused_text c.args.bytes.now c.in-Err-Refused.wire before c.count-number.new.self _ x y refuses refl
    c.refuse.ensures.wire (ap (λ a. a.texts) counted) (ap (λ a. a.sent) counted) told)

pub returns-in-Err-OutOfMemory-clause-talk : goal.returns-in-Err-OutOfMemory-clause-talk
returns-in-Err-OutOfMemory-clause-talk g c =
    let counted = c.count-number.ensures in
    let before = c.args.conversation.now in
    let after = record before { assembler = c.hear.new.assembler; account = record c.count-number.new.self { memory = true } } in
    tells_same (Reacts (text c.args.bytes.now) before after) _ (λ x. unread_text c.args.bytes.now before after x refl (ap (λ a. a.wire) counted ∙ c.requires.open.wire) refl
    (ap (λ a. a.texts) counted) (ap (λ a. a.sent) counted))
