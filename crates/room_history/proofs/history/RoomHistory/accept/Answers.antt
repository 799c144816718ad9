use Rattle.room_history.proofs.UsableLemmas.{size_is, admitted_are}
use Rattle.room_history.proofs.history.RoomHistory.accept.Goals as goal

pub accept-requires-clause-size : goal.accept-requires-clause-size
accept-requires-clause-size c = size_is c.args.self.now.kept c.args.self.now.sound

pub accept-requires-clause-admitted : goal.accept-requires-clause-admitted
accept-requires-clause-admitted c = admitted_are c.args.self.now.kept c.args.self.now.sound
