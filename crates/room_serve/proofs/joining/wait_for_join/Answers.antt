use Rattle.std.proofs.Common.{Ok, arith, subst}
use Rattle.link_texts.proofs.SendingLemmas.{tells_then}
use Rattle.room_link.specs.Exchange.{Takes, Tells}
use Rattle.room_serve.proofs.JoiningLemmas.{one_more}
use Rattle.room_serve.proofs.joining.wait_for_join.Goals as goal

pub idles-preserved : goal.idles-preserved
idles-preserved g c =
    let i = c.idles.invariant in
    let taken = subst (λ r. Tells (Takes (Ok r)) (g.K.Link.told c.idles.link) (g.K.Link.told c.next-in-idles.new.self)) c.in-Ok-Idle.field-0-is c.in-Ok-Idle.ensures.taken in
    (i.0, omega (arith, i.1, c.next-in-idles.ensures.faults_stay), tells_then _ _ _ i.2 taken one_more)
