use Rattle.std.proofs.Common.{◌≡◌, sym, refl, subst, Some}
use Rattle.room_model.specs.Rooms as model
use Rattle.room_model.specs.Schemas.{WorldSchemas}
use Rattle.side_effects.specs.declared.fault.EditFault.{EditFault}
use Rattle.sync_room.specs.Standing as room_of
use Rattle.sync_world.proofs.EventLemmas.{send_refused, send_done}
use Rattle.sync_world.proofs.RoomPeerLemmas.{is_here}
use Rattle.sync_world.proofs.live.Live.send.Goals as goal

pub returns-in_default-2-clause-step : goal.returns-in_default-2-clause-step
returns-in_default-2-clause-step g c schemas world keeps =
    let found = c.in-Some.ensures.found in
    let here = is_here world.room c.args.self.now.room c.in-Some.id keeps.fits.room found.1 in
    let there = subst (λ n. model.session_at n world.room ≡ Some here.0) found.0 here.1 in
    let drains = subst (λ (s : WorldSchemas EditFault). room_of.Drains world.room c.in-Some.id.number (model.next_for s.room world.room c.in-Some.id.number) c.in_ok-out.field-0 c.drain.new.self) (sym keeps.fits.decided)
    (c.in_ok-out.ensures.step world.room keeps.fits.room) in
    let so = subst (λ n. room_of.Drains world.room n (model.next_for schemas.room world.room n) c.in_ok-out.field-0 c.drain.new.self) found.0 drains in
    send_refused schemas world c.args.self.now keeps c.args.session here.0 there c.args.trace _
    (subst (λ o. room_of.Drains world.room c.args.session (model.next_for schemas.room world.room c.args.session) o c.drain.new.self) c.in_default-2.is so)
    c.in_ok-out.ensures.schema refl refl

pub returns-clause-step : goal.returns-clause-step
returns-clause-step g c schemas world keeps =
    let found = c.in-Some.ensures.found in
    let here = is_here world.room c.args.self.now.room c.in-Some.id keeps.fits.room found.1 in
    let there = subst (λ n. model.session_at n world.room ≡ Some here.0) found.0 here.1 in
    let out = c.in-Some-2.out in
    let drains = subst (λ (s : WorldSchemas EditFault). room_of.Drains world.room c.in-Some.id.number (model.next_for s.room world.room c.in-Some.id.number) c.in_ok-out.field-0 c.drain.new.self) (sym keeps.fits.decided)
    (c.in_ok-out.ensures.step world.room keeps.fits.room) in
    let so = subst (λ n. room_of.Drains world.room n (model.next_for schemas.room world.room n) c.in_ok-out.field-0 c.drain.new.self) found.0 drains in
    send_done schemas world c.args.self.now keeps c.args.session here.0 there c.args.trace out c.in_ok-lines.lines c.in_ok-lines.ensures _
    (subst (λ o. room_of.Drains world.room c.args.session (model.next_for schemas.room world.room c.args.session) o c.drain.new.self) c.in-Some-2.is so)
    c.in_ok-out.ensures.schema refl c.in_ok-give.ensures.sent c.in_ok-give.ensures.given
