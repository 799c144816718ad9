use Rattle.std.proofs.Common.{refl}
use Rattle.sync_room.proofs.TableLemmas.{stays_in}
use Rattle.rooms_val.proofs.Truths.{some_there}
use Rattle.sync_room.proofs.room.Room.tell_end.Goals as goal

pub returns-clause-others : goal.returns-clause-others
returns-clause-others c =
    let s = some_there _ c.requires in
    stays_in c.args.self.now.sessions c.set_phase.new.self c.args.key s.0 _ s.1 refl (c.set_phase.ensures s.0 s.1)
