use Rattle.std.proofs.Common.{ap, ◌∙◌}
use Rattle.std.proofs.lemmas.Result.{IfOk-weaker}
use Rattle.shape_tree.specs.Queries.{ids_meeting}
use Rattle.sync_world.specs.States.{client_state}
use Rattle.sync_world.proofs.PartLemmas.{client_is}
use Rattle.sync_world.proofs.ShowLemmas.{shown_is}
use Rattle.sync_world.proofs.world.World.query.Goals as goal

pub returns : goal.returns
returns c = IfOk-weaker c.query.result _ _
    (λ ids is. λ schemas world one stands at.
    let live = c.args.self.now.live in
    let kept = client_is schemas world live stands.keeps.fits c.args.client one c.index.result.now c.requires at c.index.ensures in
    is schemas (client_state schemas world.room.history one) kept.peer
    ∙ ap (λ m. ids_meeting m c.args.type_name.now c.args.query.now) (shown_is schemas world live stands.keeps c.args.client one at))
    c.query.ensures
