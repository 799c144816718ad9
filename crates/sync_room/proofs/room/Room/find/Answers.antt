use Rattle.sync_room.proofs.FindLemmas.{not_there}
use Rattle.sync_room.proofs.SlowLemmas.{if_none}
use Rattle.sync_room.proofs.room.Room.find.Goals as goal

pub returns-clause-none : goal.returns-clause-none
returns-clause-none c = if_none c.find.result _ _ c.find.ensures.none (λ none state h. not_there c.args.number state c.args.self.now.sessions h.agrees.sessions none)
