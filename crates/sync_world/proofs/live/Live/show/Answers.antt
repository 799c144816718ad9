use Rattle.std.proofs.Common.{◌∙◌, ap}
use Rattle.std.proofs.Common.{w64, rules}
use mir.Val.{SFits}
use Rattle.std.proofs.lemmas.Int.{to_z-of_z}
use Rattle.room_model.specs.Worlds.{map_val}
use Rattle.room_model.specs.declared.line.OutLine.TheVariants as line
use Rattle.sync_world.specs.States.{client_state}
use Rattle.sync_world.proofs.EventLemmas.{show_done}
use Rattle.sync_world.proofs.ShowLemmas.{shown_is, others_are}
use Rattle.sync_world.proofs.live.Live.show.Goals as goal

pub returns : goal.returns
returns c schemas world keeps =
    let range : SFits w64 c.reached.result = search rules in
    show_done schemas world c.args.self.now keeps c.args.number c.in-Some.at c.index.result.now c.in-Some.ensures.found.0 c.in-Some.ensures.found.1 c.index.ensures
    _ c.in_ok-one_line.field-0
    (λ client kept at.
    let state = client_state schemas world.room.history client in
    let clock = to_z-of_z w64 c.reached.result range ∙ c.reached.ensures schemas state kept.peer in
    let owed = c.owed.ensures schemas state kept.peer in
    let doc = c.in_ok-document.ensures schemas state kept.peer ∙ ap map_val (shown_is schemas world c.args.self.now keeps c.args.number client at) in
    let others = c.in_ok-others.ensures schemas state kept.peer ∙ ap map_val (others_are schemas world c.args.self.now keeps c.args.number client at) in
    λ i. line.Show c.args.number (clock i) (doc i) (others i) (owed i))
    c.in_ok-one_line.ensures
