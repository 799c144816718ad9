use Rattle.std.proofs.Common.{sym, ap, ◌∙◌}
use Rattle.rooms_val.specs.View.{data_of}
use Rattle.clip_content.specs.Pasted.{is_top}
use Rattle.clip_content.specs.View.{clip_tree, spot_view, spots_view}
use Rattle.clip_content.specs.declared.tops.Spot.{Spot}
use Rattle.clip_content.proofs.TopLemmas.{comes_in}
use Rattle.clip_content.proofs.tops.add_top.Goals as goal

pub returns-in_ok-insert : goal.returns-in_ok-insert
returns-in_ok-insert c = λ done rising so_far.
    let clip = clip_tree c.args.clip.now in
    let spot : Spot = record { index = c.text_or_empty-index.result; id = c.args.id } in
    let index = c.text_or_empty-index.ensures in
    ap spots_view c.in_ok-insert.ensures.keys
    ∙ comes_in (λ e. is_top clip e.1) (c.args.id.now, data_of c.args.val.now) done spot_view spot c.args.spots.now.keys (sym c.is_top.ensures ∙ c.if-is_top.true) rising (λ i. record { index = index i; id = c.args.id.now }) so_far
