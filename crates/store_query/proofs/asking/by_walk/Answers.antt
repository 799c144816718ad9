use Rattle.std.proofs.Common.{ap, subst, ◌≡◌, ◌∙◌}
use Rattle.std.specs.Prelude.{filter, IfOk}
use Rattle.shape_tree.specs.Queries.{ids_meeting}
use Rattle.store_query.specs.Asking.{meets_at}
use Rattle.store_query.proofs.AskingLemmas.{walk_is}
use Rattle.store_query.proofs.asking.by_walk.Goals as goal

pub returns : goal.returns
returns g c =
    let m = g.D.DocStore.records c.args.store.now in
    subst (λ want. IfOk c.ids_that_meet.result (λ ids. ids.items ≡ want)) (ap (filter (meets_at m c.args.query.now)) c.in_ok-ids.ensures ∙ walk_is m c.args.type_name.now c.args.query.now c.tell_rising.ensures) c.ids_that_meet.ensures
