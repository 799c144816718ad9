use Rattle.std.proofs.Common.{rules, ◌≡◌, ℕ, ◌+◌, ◌≤◌, length, sym, ap, subst, ◌∙◌, arith}
use Rattle.room_run.specs.Held.{IsInside, IsDrained}
use Rattle.room_run.specs.declared.views.Story.{Story}
use Rattle.room_run.proofs.HeldLemmas.{nothing, still_nothing}
use Rattle.room_run.proofs.held.Held.note_nothing.Goals as goal

pub invariant_of-self-2 : goal.invariant_of-self-2
invariant_of-self-2 c =
    let is = subst (λ (s : Story). IsInside c.args.number s.pen) (sym c.self.view_is) c.requires.inside in
    let none = subst (λ (s : Story). IsDrained c.args.number s) (sym c.self.view_is) c.requires.drained in
    rw (c.push_reserved.ensures.items, c.push_reserved.ensures.capacity, c.reserve.ensures.items)
    (nothing _ _ _ _ _ _ c.self.invariant c.args.number _ is none (search rules))

pub returns-clause-drained : goal.returns-clause-drained
returns-clause-drained c =
    let is = subst (λ (s : Story). IsInside c.args.number s.pen) (sym c.self.view_is) c.requires.inside in
    let none = subst (λ (s : Story). IsDrained c.args.number s) (sym c.self.view_is) c.requires.drained in
    rw (c.push_reserved.ensures.items, c.reserve.ensures.items) (still_nothing _ _ _ _ _ _ c.self.invariant c.args.number is none)
