use Rattle.std.proofs.Common.{◌+◌, ◌++◌, ◌∙◌, ◌≤◌, length, take, drop, ap, sym, subst, arith}
use Rattle.std.specs.List.{remove}
use Rattle.tl_rules.specs.Ids.{flat}
use Rattle.tl_rules.proofs.EditLemmas.{part_of, taken_out}
use Rattle.tl_rules.proofs.edits.without_id.Goals as goal

pub without_one-requires : goal.without_one-requires
without_one-requires c =
    let fits = c.part_at-at.ensures.fits in
    omega (arith, ap length c.ids_of.ensures)

pub with_part-requires : goal.with_part-requires
with_part-requires c = c.part_at-at.ensures.there

pub returns : goal.returns
returns c =
    let parts = c.parts-all.result.now in
    let at = c.part_at-at.result.0 in
    let offset = c.part_at-at.result.1 in
    c.in_ok-less.ensures
    ∙ ap (λ l. (flat (take at parts) ++ l) ++ flat (drop (at + 1) parts)) (c.in_ok-items.ensures ∙ ap (λ l. remove l offset) c.ids_of.ensures)
    ∙ taken_out parts c.args.place at offset c.part_at-at.ensures
    ∙ ap (λ l. remove l c.args.place) c.parts-all.ensures
