use Rattle.std.proofs.Common.{◌≡◌, ◌∙◌, ◌-◌, ◌+◌, suc, List, ap, sym, subst, arith, refl}
use Rattle.std.specs.Prelude.{option_to_list}
use Rattle.client_link.specs.declared.saying.Saying.{Saying}
use Rattle.room_join.proofs.PushingLemmas.{IsPushing, SaysAll, pushing_begins, pushing_goes_on, pushing_ends, pushing_done}
use Rattle.room_join.proofs.joiner.say_pushes.Goals as goal

pub pushes-init : goal.pushes-init
pushes-init c = (
  refl,
  λ schemas state stands.
      let owed = c.owed-owed.result in
      let all : owed ≡ owed - 0 = omega arith in
      subst (λ n. IsPushing schemas state owed n c.new-said.result.items c.args.peer.now) all
      (subst (λ (said : List Saying). IsPushing schemas state owed owed said c.args.peer.now) (sym c.new-said.ensures.items) (pushing_begins schemas state owed c.args.peer.now stands)),
)

pub pushes-preserved : goal.pushes-preserved
pushes-preserved c = (
  c.next_push.ensures.store ∙ c.pushes.invariant.0,
  λ schemas state stands.
      let owed = c.owed-owed.result in
      let h = c.pushes.invariant.1 schemas state stands in
      let at = record state { client = h.client } in
      let says = sym (ap option_to_list c.in-Some.is) ∙ c.in_ok-message.ensures.push schemas at h.stands in
      let next = c.in_ok-message.ensures.ok schemas at h.stands in
      let more : owed - c.pushes.counter ≡ suc (owed - (c.pushes.counter + 1)) = let less = c.pushes-test.true in omega arith in
      subst (λ (said : List Saying). IsPushing schemas state owed (owed - (c.pushes.counter + 1)) said c.next_push.new.self) (sym c.in_ok-push-in-Some.ensures.items)
      (pushing_goes_on schemas state owed (owed - c.pushes.counter) c.pushes.said.items c.pushes.peer c.next_push.new.self h (owed - (c.pushes.counter + 1)) c.in-Some.message more says next),
)

pub returns-in-None-clause-pushes : goal.returns-in-None-clause-pushes
returns-in-None-clause-pushes c = λ schemas state stands.
    let owed = c.owed-owed.result in
    let h = c.pushes.invariant.1 schemas state stands in
    let at = record state { client = h.client } in
    let says = sym (ap option_to_list c.in-None.is) ∙ c.in_ok-message.ensures.push schemas at h.stands in
    let next = c.in_ok-message.ensures.ok schemas at h.stands in
    subst (λ n. SaysAll schemas state n c.pushes.said.items c.next_push.new.self) (c.owed-owed.ensures schemas state stands)
    (pushing_ends schemas state owed (owed - c.pushes.counter) c.pushes.said.items c.pushes.peer c.next_push.new.self h says next)

pub returns-clause-pushes : goal.returns-clause-pushes
returns-clause-pushes c = λ schemas state stands.
    let owed = c.owed-owed.result in
    let h = c.pushes.invariant.1 schemas state stands in
    let none : owed - c.pushes.counter ≡ 0 = let more = c.pushes-test.false in omega arith in
    subst (λ n. SaysAll schemas state n c.pushes.said.items c.pushes.peer) (c.owed-owed.ensures schemas state stands)
    (pushing_done schemas state owed c.pushes.said.items c.pushes.peer (subst (λ n. IsPushing schemas state owed n c.pushes.said.items c.pushes.peer) none h))

pub returns-in-None-clause-store : goal.returns-in-None-clause-store
returns-in-None-clause-store c = c.next_push.ensures.store ∙ c.pushes.invariant.0

pub returns-clause-store : goal.returns-clause-store
returns-clause-store c = c.pushes.invariant.0
