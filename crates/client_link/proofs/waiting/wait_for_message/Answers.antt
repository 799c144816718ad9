use Rattle.std.proofs.Common.{List, ℕ, None, Ok, Option, subst, arith}
use Rattle.client_link.specs.Waiting.{Hears}
use Rattle.client_link.specs.declared.waiting.Heard.{Heard}
use Rattle.client_link.proofs.WaitingLemmas.{text_more, idle_more}
use Rattle.link_texts.proofs.SendingLemmas.{tells_then}
use Rattle.room_link.specs.Exchange.{Tells, Takes}
use Rattle.room_link.specs.declared.passing.Incoming.{Incoming}
use Rattle.client_link.proofs.waiting.wait_for_message.Goals as goal

pub arrivals-preserved-in-Text : goal.arrivals-preserved-in-Text
arrivals-preserved-in-Text g c =
    let told = g.K.Link.told in
    let now = c.arrivals.assembler in
    let next = c.take_text.new.assembler in
    let taken = subst (λ (r : Incoming). Tells (Takes (Ok r)) (told c.arrivals.link) (told c.next.new.self)) c.in-Text.is c.in_ok-bytes.ensures.taken in
    let hears = subst (λ (end : Option Heard). Hears now c.deref.result.now end next) c.in-None.is c.in_ok-end-in-Text.ensures.hears in
    let heard = subst (λ (bytes : List ℕ). Hears now bytes None next) c.deref.ensures.value hears in
    record {
      few = c.arrivals.invariant.few;
      faults_stay = omega (arith, c.arrivals.invariant.faults_stay, c.in_ok-bytes.ensures.faults_stay);
      waits = tells_then (told c.args.link.now) (told c.arrivals.link) (told c.next.new.self) c.arrivals.invariant.waits taken (λ x y z waits came.
          text_more c.args.assembler.now c.arrivals.idles now next c.in-Text.bytes.items x y z waits came heard);
    }

pub arrivals-preserved : goal.arrivals-preserved
arrivals-preserved g c =
    let told = g.K.Link.told in
    let taken = subst (λ (r : Incoming). Tells (Takes (Ok r)) (told c.arrivals.link) (told c.next.new.self)) c.in-Idle.is c.in_ok-bytes.ensures.taken in
    record {
      few = omega (arith, c.arrivals.invariant.few, c.if-idles-eq-MOST_IDLES.false);
      faults_stay = omega (arith, c.arrivals.invariant.faults_stay, c.in_ok-bytes.ensures.faults_stay);
      waits = tells_then (told c.args.link.now) (told c.arrivals.link) (told c.next.new.self) c.arrivals.invariant.waits taken (λ x y z waits came.
          idle_more c.args.assembler.now c.arrivals.idles c.arrivals.assembler x y z waits came);
    }
