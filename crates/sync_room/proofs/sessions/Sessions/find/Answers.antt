use Rattle.std.proofs.Common.{◌≡◌, refl, subst, ◌∙◌, arith}
use Rattle.std.proofs.lemmas.Bool.Decides.{nat_tests}
use Rattle.sync_room.proofs.FindLemmas.{IsLeft, all_left, here, one_less, none_left}
use Rattle.sync_room.proofs.sessions.Sessions.find.Goals as goal

pub sessions-init : goal.sessions-init
sessions-init c = (tt, tt, all_left c.args.number c.args.self.now _ (c.into_iter-key-iterator.ensures.into_iter_gives ∙ c.iter-key-items.ensures.rest))

pub sessions-preserved : goal.sessions-preserved
sessions-preserved c =
    let before = subst (IsLeft c.args.number c.args.self.now) c.in-Some.ensures.steps c.sessions.invariant.2 in
    (tt, tt, one_less c.args.number c.args.self.now c.in-Some.key c.in-Some.session.now c.next.new.self before (λ same. let test = c.if-session-number.false in grind (arith, nat_tests)))

pub returns-then-session-number-clause-found : goal.returns-then-session-number-clause-found
returns-then-session-number-clause-found c =
    let before = subst (IsLeft c.args.number c.args.self.now) c.in-Some.ensures.steps c.sessions.invariant.2 in
    let same : c.in-Some.session.now.number ≡ c.args.number = let test = c.if-session-number.true in grind (arith, nat_tests) in
    (refl, (c.in-Some.session.now, here c.args.number c.args.self.now c.in-Some.key c.in-Some.session.now c.next.new.self before, same))

pub returns-clause-none : goal.returns-clause-none
returns-clause-none c =
    none_left c.args.number c.args.self.now (subst (IsLeft c.args.number c.args.self.now) c.in-None.ensures.steps.0 c.sessions.invariant.2)
