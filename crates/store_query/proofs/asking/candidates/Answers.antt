use Rattle.std.proofs.Common.{◌≡◌, ◌<◌, length, get_or, true, Some, ap, sym, subst, ◌∙◌, arith}
use Rattle.std.specs.Prelude.{IfSome}
use Rattle.rooms_val.specs.Data.{Pairs}
use Rattle.shape_tree.specs.Queries.{meets, ids_meeting}
use Rattle.store_query.specs.Asking.{IsIndexOf, AreCandidates}
use Rattle.store_query.proofs.AskingLemmas.{part_is, part_met}
use Rattle.store_query.proofs.asking.candidates.Goals as goal

pub returns-in-Some : goal.returns-in-Some
returns-in-Some c = λ m rising holds.
    let type = c.args.type_name.now in
    let part = c.part-item.result in
    let answered = subst (λ o. IfSome o (λ ids. (m : Pairs) → IsIndexOf m c.args.index.now → ids.items ≡ ids_meeting m type part)) c.in-Some.is c.in_ok-ids.ensures in
    let here = c.part-item.is ∙ ap (λ xs. get_or xs c.parts.part-index part) c.deref-part-items.ensures.value in
    let within : c.parts.part-index < length c.in-And.parts.items = omega (arith, ap length c.deref-part-items.ensures.value) in
    subst (AreCandidates m type c.args.query.now) (sym (answered m holds))
    (part_is m type c.args.query.now rising part (λ d met. part_met c.in-And.parts c.parts.part-index part within here d (subst (λ q. meets d q ≡ true) c.in-And.is met)))
