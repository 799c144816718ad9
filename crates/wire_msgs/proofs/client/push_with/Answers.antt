use Rattle.std.proofs.Common.{◌≡◌, ◌∙◌, sym, ap, ◌∷◌, codes, arith}
use Rattle.std.proofs.lemmas.Grind.{common_steps}
use mir.Syntax.{w64}
use mir.Val.{to_z, of_z}
use Rattle.rooms_val.specs.Data.{whole}
use Rattle.rooms_val.specs.View.{pairs_view, field_of}
use Rattle.wire_msgs.specs.Events.{typed, IsClock}
use Rattle.wire_msgs.specs.Messages.{maybe_diff, maybe_op}
use Rattle.wire_msgs.specs.Rows.{first_at, past}
use Rattle.rooms_val.proofs.FieldLemmas.{from_place, none_past}
use Rattle.wire_msgs.proofs.PushLemmas.{made_up}
use Rattle.wire_msgs.proofs.client.push_with.Goals as goal

pub returns-clause-found : goal.returns-clause-found
returns-clause-found c =
    let diff = sym c.maybe_first.ensures.value ∙ c.in_ok-edit.ensures.found.0 in
    let presence = ap (first_at (codes "presence")) (sym c.maybe_first.ensures.rest) ∙ sym c.maybe_first-2.ensures.value ∙ c.in_ok-presence.ensures.found.0 in
    let word : field_of c.word-item.result ≡ typed (codes "push") = c.in_ok-check_type.ensures.found in
    let more = c.maybe_first-2.result.1.now in
    let last = ap (past (codes "presence")) (sym c.maybe_first.ensures.rest) ∙ sym c.maybe_first-2.ensures.rest ∙ from_place more 0 _ _ _ (omega arith) c.word-item.is word (none_past more 1 (omega arith)) in
    let clock : field_of c.args.clock.now ≡ (codes "clientClock", whole (to_z w64 (of_z w64 c.in_ok-client_clock.client_clock))) = grind (arith, common_steps) in
    let from_0 : IsClock (to_z w64 (of_z w64 c.in_ok-client_clock.client_clock)) = grind (arith, common_steps) in
    let made = made_up (pairs_view c.args.rest.now) (maybe_diff c.in_ok-edit.edit) (maybe_op c.in_ok-presence.presence) diff presence last in
    ((λ i. clock i ∷ made i), (from_0, c.in_ok-edit.ensures.found.1, c.in_ok-presence.ensures.found.1))
