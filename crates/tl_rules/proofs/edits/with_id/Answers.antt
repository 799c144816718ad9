use Rattle.std.proofs.Common.{◌+◌, ◌++◌, ◌∙◌, insert, length, take, drop, ap, arith}
use Rattle.tl_rules.specs.Ids.{flat}
use Rattle.tl_rules.proofs.EditLemmas.{put_in}
use Rattle.tl_rules.proofs.edits.with_id.Goals as goal

pub with_one-requires : goal.with_one-requires
with_one-requires c =
    let fits = c.part_at-at.ensures.fits in
    omega (arith, ap length c.ids_of.ensures)

pub with_part-requires : goal.with_part-requires
with_part-requires c = c.part_at-at.ensures.there

pub returns : goal.returns
returns c =
    let parts = c.parts-all.result.now in
    let at = c.part_at-at.result.0 in
    let offset = c.part_at-at.result.1 in
    let id = c.args.id.now in
    c.in_ok-more.ensures
    ∙ ap (λ l. (flat (take at parts) ++ l) ++ flat (drop (at + 1) parts)) (c.in_ok-items.ensures ∙ ap (λ l. insert l offset id) c.ids_of.ensures)
    ∙ put_in parts c.args.place at offset c.part_at-at.ensures id
    ∙ ap (λ l. insert l c.args.place id) c.parts-all.ensures
