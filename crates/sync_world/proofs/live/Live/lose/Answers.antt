use Rattle.std.proofs.Common.{◌≡◌, refl, subst, Some}
use Rattle.room_model.specs.Rooms as model
use Rattle.sync_room.specs.Standing as room_of
use Rattle.sync_world.proofs.EventLemmas.{lose_done}
use Rattle.sync_world.proofs.RoomPeerLemmas.{is_here}
use Rattle.sync_world.proofs.live.Live.lose.Goals as goal

pub returns-clause-step : goal.returns-clause-step
returns-clause-step c schemas world keeps =
    let found = c.in-Some.ensures.found in
    let here = is_here world.room c.args.self.now.room c.in-Some.id keeps.fits.room found.1 in
    let there = subst (λ n. model.session_at n world.room ≡ Some here.0) found.0 here.1 in
    lose_done schemas world c.args.self.now keeps c.args.session here.0 there c.new.result c.new.ensures.items _
    (subst (λ n. room_of.Leaves (model.after_leave world.room n) c.leave.new.self) found.0 (c.leave.ensures.left world.room keeps.fits.room))
    c.leave.ensures.schema refl c.forget_sent.ensures.sent c.forget_sent.ensures.given
