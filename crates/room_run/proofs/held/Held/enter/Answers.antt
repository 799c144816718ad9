use Rattle.std.proofs.Common.{rules, ◌≡◌, ℕ, ◌+◌, ◌≤◌, length, sym, ap, subst, ◌∙◌, arith}
use Rattle.std.proofs.Common.{[]}
use Rattle.room_events.specs.Events.{events_of}
use Rattle.room_run.specs.declared.views.Story.{Story}
use Rattle.room_run.proofs.HeldLemmas.{entered, unused}
use Rattle.room_run.proofs.held.Held.enter.Goals as goal

pub invariant_of-self-2 : goal.invariant_of-self-2
invariant_of-self-2 c =
    rw (c.push_reserved.ensures.items, c.push_reserved.ensures.capacity, c.reserve.ensures.items)
    (entered _ _ _ _ _ _ c.self.invariant c.enter.new.self _ c.args.readonly _ c.in-Ok.ensures.entered (search rules) c.enter.ensures.schema (search rules))

pub returns-clause-new : goal.returns-clause-new
returns-clause-new c =
    let number = c.number-number.ensures ∙ c.in-Ok.ensures.number _ c.self.invariant.stands in
    subst (λ (s : Story). events_of c.number-number.result s.pen ≡ []) c.self.view_is (unused _ _ _ _ _ _ c.self.invariant c.number-number.result number)
