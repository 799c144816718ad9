use Rattle.std.proofs.Common.{◌≡◌, ◌≤◌}
use Rattle.room_link.specs.Exchange.{Tells}
use Rattle.room_serve.proofs.JoiningLemmas.{Idles}
use Rattle.room_serve.proofs.joining.wait_for_join.Given as goal

-- so far nothing but idles came
abbrev pub invariant-idles : goal.invariant-idles
invariant-idles g l =
    (l.account ≡ l.initial.account)
    × (g.K.Link.faults l.initial.link ≤ g.K.Link.faults l.link)
    × Tells Idles (g.K.Link.told l.initial.link) (g.K.Link.told l.link)
