use Rattle.std.proofs.Common.{Ok, Err, [], ◌∷◌, true, refl, sym, ap, subst}
use Rattle.std.proofs.lemmas.Result.{IfOk-weaker}
use Rattle.room_join.specs.Hearing.{Heeds}
use Rattle.room_join.specs.Joiners.{with_end}
use Rattle.room_join.specs.declared.join_line.JoinLine.TheVariants as line
use Rattle.room_join.proofs.HearingLemmas.{end_heard}
use Rattle.room_join.proofs.joiner.Joiner.heed.Goals as goal

pub returns-in-Message : goal.returns-in-Message
returns-in-Message g c = IfOk-weaker c.take.result _ _
    (λ delivery is. λ schemas joiner stands. subst (λ said. Heeds schemas joiner said delivery c.take.new.self) (sym c.in-Message.is) (is schemas joiner stands)) c.take.ensures

pub returns-in_ok-wire_fault_text-in-Refused : goal.returns-in_ok-wire_fault_text-in-Refused
returns-in_ok-wire_fault_text-in-Refused g c = λ schemas joiner stands.
    subst (λ said. Heeds schemas joiner said (Err c.in_ok-wire_fault_text-in-Refused.field-0) c.args.self.now) (sym c.in-Refused.is) (ap (λ o. Err o) c.in_ok-wire_fault_text-in-Refused.ensures)

pub returns-in_ok-one_line-in-Lost : goal.returns-in_ok-one_line-in-Lost
returns-in_ok-one_line-in-Lost g c = λ schemas joiner stands.
    let mid = record c.args.self.now { peer = c.lost.new.self; is_lost = true } in
    subst (λ said. Heeds schemas joiner said (Ok c.in_ok-one_line-in-Lost.field-0) mid) (sym c.in-Lost.is) (
      record { joiner = with_end schemas joiner; lines = line.Lost ∷ [] },
      refl,
      c.in_ok-one_line-in-Lost.ensures,
      end_heard schemas joiner c.args.self.now stands c.lost.new.self (c.lost.ensures.stands schemas joiner.state stands.peer) c.lost.ensures.store,
    )

pub returns-in_ok-one_line-in-Idle : goal.returns-in_ok-one_line-in-Idle
returns-in_ok-one_line-in-Idle g c = λ schemas joiner stands.
    subst (λ said. Heeds schemas joiner said (Ok c.in_ok-one_line-in-Idle.field-0) c.args.self.now) (sym c.in-Idle.is)
    (record { joiner = joiner; lines = line.Idle ∷ [] }, refl, c.in_ok-one_line-in-Idle.ensures, stands)
