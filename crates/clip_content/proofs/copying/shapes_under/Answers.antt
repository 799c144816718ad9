use Rattle.std.proofs.Common.{◌≡◌, IfOk, subst}
use Rattle.clip_content.proofs.KeptLemmas.{kept_is}
use Rattle.clip_content.proofs.copying.shapes_under.Goals as goal

pub returns : goal.returns
returns c =
    subst (λ m. IfOk c.shapes_leading_to.result (λ shapes. shapes ≡ m)) (kept_is c.args.records.now c.in_ok-named.named c.args.ids.now c.in_ok-named.ensures) c.shapes_leading_to.ensures
