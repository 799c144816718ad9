use Rattle.std.proofs.Common.{◌+◌, ◌||◌, drop, sym, ap, ◌∙◌}
use Rattle.rooms_val.specs.Data.{null}
use Rattle.rooms_val.specs.Maps.{with_key}
use Rattle.side_effects.specs.Records.{has}
use Rattle.clip_content.specs.Copied.{is_one_of}
use Rattle.clip_content.proofs.KeptLemmas.{at_front, moved_over}
use Rattle.clip_content.proofs.copying.set_of.Goals as goal

pub ids-preserved : goal.ids-preserved
ids-preserved c = λ q.
    let ids = c.args.ids.now in
    let id = c.id-item.result in
    let rest = is_one_of (drop (c.ids.id-index + 1) ids) q in
    ap (λ s. has s q || rest) (c.in_ok-put.ensures.ok ∙ ap (λ k. with_key c.ids.named k null) c.in_ok-copy.ensures)
    ∙ moved_over c.ids.named id null q rest
    ∙ sym (at_front (λ xs. has c.ids.named q || is_one_of xs q) ids c.ids.id-index id c.ids-test.true c.id-item.is)
    ∙ c.ids.invariant q
