use Rattle.std.proofs.Common.{◌≡◌}
use Rattle.room_link.specs.Exchange.{Tells}
use Rattle.room_run.specs.Passes.{room_of}
use Rattle.room_serve.specs.Accounts.{IsBlamed, IsOpen}
use Rattle.room_serve.specs.Turns.{Converses}
use Rattle.room_serve.proofs.conversation.Door.converse.Given as goal

-- so far the conversation went on from where it began, and nothing ended it
abbrev pub invariant-turns : goal.invariant-turns
invariant-turns g l =
    (room_of l.conversation.pass ≡ room_of l.initial.conversation.pass)
    × (l.conversation.pass.session ≡ l.initial.conversation.pass.session)
    × IsOpen l.conversation.account
    × IsBlamed l.initial.conversation.account.fault l.conversation.account.fault (g.K.Link.faults l.initial.link) (g.K.Link.faults l.link)
    × Tells (Converses l.initial.conversation l.conversation) (g.K.Link.told l.initial.link) (g.K.Link.told l.link)
