use Rattle.std.proofs.Common.{◌≡◌, ◌+◌, ◌++◌, drop, map, sym, ap, ◌∙◌}
use Rattle.rooms_val.specs.Data.{text}
use Rattle.tl_rules.specs.Ids.{flat}
use Rattle.tl_rules.proofs.PartLemmas.{flat_off}
use Rattle.live_views.proofs.telling.told_ids.Goals as goal

pub ids-init : goal.ids-init
ids-init c =
    ap (λ l. c.parts.list ++ map text l)
    (sym (flat_off c.args.parts.now c.parts.part-index c.part-item.result c.parts-test.true c.part-item.is ∙ ap (λ l. l ++ flat (drop (c.parts.part-index + 1) c.args.parts.now)) (sym c.as_slice-id-items.ensures)))
    ∙ c.parts.invariant
