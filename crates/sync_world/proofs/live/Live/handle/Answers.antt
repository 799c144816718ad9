use Rattle.std.proofs.Common.{◌≡◌, ◌∙◌, sym, refl, subst, Some}
use Rattle.room_model.specs.Rooms as model
use Rattle.room_model.specs.Schemas.{WorldSchemas}
use Rattle.side_effects.specs.declared.fault.EditFault.{EditFault}
use Rattle.sync_room.specs.Standing as room_of
use Rattle.sync_world.proofs.EventLemmas.{handle_refused, handle_done}
use Rattle.sync_world.proofs.RoomPeerLemmas.{is_here}
use Rattle.sync_world.proofs.live.Live.handle.Goals as goal

pub returns-in_default-take_sent-clause-step : goal.returns-in_default-take_sent-clause-step
returns-in_default-take_sent-clause-step g c schemas world keeps =
    let found = c.in-Some.ensures.found in
    let here = is_here world.room c.args.self.now.room c.in-Some.id keeps.fits.room found.1 in
    let there = subst (λ n. model.session_at n world.room ≡ Some here.0) found.0 here.1 in
    handle_refused schemas world c.args.self.now keeps c.args.session here.0 there c.args.trace (sym c.in_default-take_sent.is ∙ c.take_sent.ensures.first) _ refl refl c.take_sent.ensures.rest c.take_sent.ensures.given

pub returns-clause-step : goal.returns-clause-step
returns-clause-step g c schemas world keeps =
    let found = c.in-Some.ensures.found in
    let here = is_here world.room c.args.self.now.room c.in-Some.id keeps.fits.room found.1 in
    let there = subst (λ n. model.session_at n world.room ≡ Some here.0) found.0 here.1 in
    let said = c.in-Some-take_sent.message in
    let replies = subst (λ (s : WorldSchemas EditFault). room_of.Replies (model.after_message s.room world.room c.in-Some.id.number said) c.in_ok-handle.field-0 c.handle.new.self) (sym keeps.fits.decided)
    (c.in_ok-handle.ensures.step world.room keeps.fits.room) in
    handle_done schemas world c.args.self.now keeps c.args.session here.0 there c.args.trace said c.in_ok-handle.field-0 c.in_ok-traced_lines.field-0
    c.in-Some-take_sent.ensures.first c.in_ok-traced_lines.ensures _
    (subst (λ n. room_of.Replies (model.after_message schemas.room world.room n said) c.in_ok-handle.field-0 c.handle.new.self) found.0 replies)
    c.in_ok-handle.ensures.schema refl c.in-Some-take_sent.ensures.rest c.in-Some-take_sent.ensures.given
