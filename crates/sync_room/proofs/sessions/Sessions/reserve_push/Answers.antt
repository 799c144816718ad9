use Rattle.std.proofs.Common.{◌≡◌, refl, ap, ◌∙◌}
use Rattle.sync_room.specs.declared.session.Session.{Session}
use Rattle.sync_room.proofs.sessions.Sessions.reserve_push.Goals as goal

pub returns-in_err-reserve-clause-kept : goal.returns-in_err-reserve-clause-kept
returns-in_err-reserve-clause-kept c = λ s at.
    let is : c.index_mut.result.now ≡ s = let value = c.index_mut.ensures.value in cc in (
      record c.index_mut.result.now { pushed = c.reserve.new.self },
      record { same = ap (λ (s : Session). record s { pushed = c.reserve.new.self }) is; clocks = c.reserve.ensures.items ∙ ap (λ (s : Session). s.pushed.items) is },
      refl,
    )

pub returns-clause-kept : goal.returns-clause-kept
returns-clause-kept c = λ s at.
    let is : c.index_mut.result.now ≡ s = let value = c.index_mut.ensures.value in cc in (
      record c.index_mut.result.now { pushed = c.reserve.new.self },
      record { same = ap (λ (s : Session). record s { pushed = c.reserve.new.self }) is; clocks = c.reserve.ensures.items ∙ ap (λ (s : Session). s.pushed.items) is },
      refl,
    )
