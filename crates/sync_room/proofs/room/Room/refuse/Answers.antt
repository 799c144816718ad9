use Rattle.std.proofs.Common.{◌≡◌, true, false, sym, ap, subst, ◌∙◌}
use Rattle.room_model.specs.Rooms as model
use Rattle.sync_room.specs.Sessions.{session_of}
use Rattle.sync_room.proofs.RoomLemmas.{refuses}
use Rattle.sync_room.proofs.room.Room.refuse.Goals as goal

pub returns-then-not-end-clause-refused : goal.returns-then-not-end-clause-refused
returns-then-not-end-clause-refused c = λ state s h at.
    let ended = c.end.ensures.ended state s h at in
    refuses state s.number (session_of s) c.args.reason _ false (sym c.if-not-end.true ∙ ended.0) ended.1

pub returns-then-not-end-clause-others : goal.returns-then-not-end-clause-others
returns-then-not-end-clause-others c = c.end.ensures.others

pub returns-clause-refused : goal.returns-clause-refused
returns-clause-refused c = λ state s h at.
    let ended = c.end.ensures.ended state s h at in
    refuses state s.number (session_of s) c.args.reason _ true (sym c.if-not-end.false ∙ ended.0) (c.end_slow.ensures.ended _ ended.1)

pub returns-clause-others : goal.returns-clause-others
returns-clause-others c = λ other there. c.end_slow.ensures.others other (c.end.ensures.others other there)
