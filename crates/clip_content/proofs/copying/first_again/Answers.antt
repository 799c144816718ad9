use Rattle.std.proofs.Common.{◌+◌, ◌∷◌, drop, sym, ap, subst, ◌∙◌}
use Rattle.rooms_val.specs.Data.{null}
use Rattle.rooms_val.specs.Maps.{with_key}
use Rattle.side_effects.specs.Records.{has}
use Rattle.clip_content.proofs.KeptLemmas.{IsAgain, at_front, again_more}
use Rattle.clip_content.proofs.copying.first_again.Goals as goal

pub ids-preserved : goal.ids-preserved
ids-preserved c =
    let ids = c.args.ids.now in
    let id = c.id-item.result in
    let left = drop (c.ids.id-index + 1) ids in
    let before = c.ids.before in
    let at : IsAgain ids (id ∷ left) before = subst (λ xs. IsAgain ids xs before) (at_front (λ xs. xs) ids c.ids.id-index id c.ids-test.true c.id-item.is) c.ids.invariant in
    subst (IsAgain ids left) (sym (c.in_ok-put.ensures.ok ∙ ap (λ k. with_key before k null) c.in_ok-copy-2.ensures))
    (again_more ids id left before at null (ap (has before) (sym c.as_str.ensures.bytes) ∙ sym c.has-met.ensures ∙ c.if-met.false))
