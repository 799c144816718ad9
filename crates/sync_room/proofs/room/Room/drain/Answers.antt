use Rattle.std.proofs.Common.{◌≡◌, Some, refl, sym, ap, subst, ◌∙◌}
use Rattle.std.proofs.lemmas.Option.{same_Some}
use Rattle.room_model.specs.Rooms as model
use Rattle.room_schemas.specs.Decided.{decided}
use Rattle.sync_room.specs.Sending.{IsNext, told_since}
use Rattle.sync_room.specs.Sessions.{session_of}
use Rattle.sync_room.specs.Standing.{tree_of}
use Rattle.sync_room.proofs.RoomLemmas.{session_there}
use Rattle.sync_room.proofs.SendLemmas.{drains_end, drains_pong, drains_message, unended_message}
use Rattle.rooms_val.proofs.Truths.{if_ok_then}
use Rattle.sync_room.proofs.room.Room.drain.Goals as goal

pub returns-in-End-clause-step : goal.returns-in-End-clause-step
returns-in-End-clause-step g c = λ state h.
    let same : c.requires.0 ≡ c.at.result.now = let here = c.at.ensures in let there = c.requires.1 in cc in
    let number = ap (λ s. s.number) (sym same) ∙ c.requires.2 in
    drains_end (decided (tree_of c.args.self.now)) state c.args.self.now _ (record { before = refl; now = ap decided c.tell_end.ensures.schema }) c.args.session.key c.args.session.number c.at.result.now h c.at.ensures number
    c.next_kind.result c.in-End.reason c.in-End.told c.tell_end.result c.next_kind.ensures c.in-End.is
    c.tell_end.ensures.told (λ b. c.tell_end.ensures.untold b c.at.result.now c.at.ensures)

pub returns-in-Pong-clause-step : goal.returns-in-Pong-clause-step
returns-in-Pong-clause-step g c = λ state h.
    let same : c.requires.0 ≡ c.at.result.now = let here = c.at.ensures in let there = c.requires.1 in cc in
    let number = ap (λ s. s.number) (sym same) ∙ c.requires.2 in
    drains_pong (decided (tree_of c.args.self.now)) state c.args.self.now _ (record { before = refl; now = ap decided c.pong.ensures.schema }) c.args.session.key c.args.session.number c.at.result.now h c.at.ensures number
    c.next_kind.result c.pong.result c.next_kind.ensures c.in-Pong.is c.pong.ensures.pong (c.pong.ensures.fewer c.at.result.now c.at.ensures)

pub returns-in-Message-clause-step : goal.returns-in-Message-clause-step
returns-in-Message-clause-step g c =
    if_ok_then c.send.result _ _ c.send.ensures.step (λ given step state h.
    let same : c.requires.0 ≡ c.at.result.now = let here = c.at.ensures in let there = c.requires.1 in cc in
    let number = ap (λ s. s.number) (sym same) ∙ c.requires.2 in
    let unended = unended_message c.at.result.now.phase c.at.result.now.pings (subst (IsNext c.at.result.now) c.in-Message.is c.next_kind.ensures) in
    drains_message (decided (tree_of c.args.self.now)) state c.args.self.now _ (record { before = refl; now = ap decided c.send.ensures.schema }) c.args.session.key c.args.session.number c.at.result.now h c.at.ensures number
    c.next_kind.result given c.next_kind.ensures c.in-Message.is (step state c.at.result.now h (record { here = c.at.ensures; unended = unended })))

pub returns-in-Message-clause-ticks : goal.returns-in-Message-clause-ticks
returns-in-Message-clause-ticks g c =
    if_ok_then c.send.result _ _ c.send.ensures.ticks (λ given ticks state session clock h there since.
    let same : c.requires.0 ≡ c.at.result.now = let here = c.at.ensures in let there = c.requires.1 in cc in
    let number = ap (λ s. s.number) (sym same) ∙ c.requires.2 in
    let unended = unended_message c.at.result.now.phase c.at.result.now.pings (subst (IsNext c.at.result.now) c.in-Message.is c.next_kind.ensures) in
    let is : session_of c.at.result.now ≡ session =
    same_Some (session_of c.at.result.now) session (sym (ap (λ n. model.session_at n state) (sym number) ∙ session_there state c.args.self.now c.args.session.key c.at.result.now h.agrees c.at.ensures) ∙ there) in
    ticks state c.at.result.now clock h (record { here = c.at.ensures; unended = unended }) (ap (λ s. told_since state s.phase) is ∙ since))
