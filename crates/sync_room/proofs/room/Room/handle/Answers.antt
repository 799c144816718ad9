use Rattle.std.proofs.Common.{w64, ◌≡◌, rules, refl, sym, ap, subst, ◌∙◌}
use Rattle.std.proofs.lemmas.Int.{to_z-of_z}
use mir.Val.{SFits}
use Rattle.room_model.specs.Reachable.{ArePresencesOwned}
use Rattle.room_schemas.specs.Decided.{decided}
use Rattle.sync_msgs.specs.declared.client_message.ClientMessage.TheVariants as message
use Rattle.sync_room.specs.Standing.{Stands, tree_of}
use Rattle.sync_room.proofs.PushLemmas.{not_ended, handles}
use Rattle.rooms_val.proofs.Truths.{if_ok_then, on_err_then}
use Rattle.sync_room.proofs.room.Room.handle.Goals as goal

pub returns-in-Connect-clause-step : goal.returns-in-Connect-clause-step
returns-in-Connect-clause-step g c =
    if_ok_then c.connect.result _ _ c.connect.ensures.step (λ reply step state h.
    let s = c.at.result.now in
    let same : c.requires.0 ≡ s = let here = c.at.ensures in let there = c.requires.1 in cc in
    let number = ap (λ s. s.number) (sym same) ∙ c.requires.2 in
    let unended = not_ended s.phase c.in_default.not-Ended in
    let reached_fits : SFits w64 c.in-Connect.last_server_clock = search rules in
    let protocol_fits : SFits w64 c.in-Connect.protocol_version = search rules in
    let follows = rw (to_z-of_z w64 c.in-Connect.last_server_clock reached_fits, to_z-of_z w64 c.in-Connect.protocol_version protocol_fits)
    at (step state s h.agrees (record { here = c.at.ensures; unended = unended })) in
    handles (decided (tree_of c.args.self.now)) state c.args.self.now c.connect.new.self (record { before = refl; now = ap decided c.connect.ensures.schema }) c.args.session.key c.args.session.number s h c.at.ensures number unended
    _ c.args.message.now reply c.in-Connect.is follows)

pub returns-in-Connect-clause-err : goal.returns-in-Connect-clause-err
returns-in-Connect-clause-err g c = on_err_then c.connect.result _ _ c.connect.ensures.err (λ same state h. subst (Stands state) (sym same) h)

pub returns-in-Push-clause-step : goal.returns-in-Push-clause-step
returns-in-Push-clause-step g c =
    if_ok_then c.push.result _ _ c.push.ensures.step (λ reply step state h.
    let s = c.at.result.now in
    let same : c.requires.0 ≡ s = let here = c.at.ensures in let there = c.requires.1 in cc in
    let number = ap (λ s. s.number) (sym same) ∙ c.requires.2 in
    let unended = not_ended s.phase c.in_default.not-Ended in
    let fits : SFits w64 c.in-Push.client_clock = search rules in
    let follows = rw (to_z-of_z w64 c.in-Push.client_clock fits) at (step state s h.agrees (record { here = c.at.ensures; unended = unended })) in
    handles (decided (tree_of c.args.self.now)) state c.args.self.now c.push.new.self (record { before = refl; now = ap decided c.push.ensures.schema }) c.args.session.key c.args.session.number s h c.at.ensures number unended
    _ c.args.message.now reply c.in-Push.is follows)

pub returns-in-Push-clause-err : goal.returns-in-Push-clause-err
returns-in-Push-clause-err g c = on_err_then c.push.result _ _ c.push.ensures.err (λ keeps state h. record {
  agrees = keeps state h.agrees;
  near = h.near;
  presences = subst (λ tree. ArePresencesOwned (decided tree) state) (sym c.push.ensures.schema) h.presences;
})

pub returns-in-Ping-clause-step : goal.returns-in-Ping-clause-step
returns-in-Ping-clause-step g c = λ state h.
    let s = c.at.result.now in
    let same : c.requires.0 ≡ s = let here = c.at.ensures in let there = c.requires.1 in cc in
    let number = ap (λ s. s.number) (sym same) ∙ c.requires.2 in
    let unended = not_ended s.phase c.in_default.not-Ended in
    handles (decided (tree_of c.args.self.now)) state c.args.self.now c.ping.new.self (record { before = refl; now = ap decided c.ping.ensures.schema }) c.args.session.key c.args.session.number s h c.at.ensures number unended
    message.Ping c.args.message.now c.ping.result c.in-Ping.is (c.ping.ensures.step state s h.agrees (record { here = c.at.ensures; unended = unended }))
