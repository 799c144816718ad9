use Rattle.std.proofs.Common.{◌&&◌, cond, sym, ap, subst, ◌∙◌}
use Rattle.rooms_val.specs.Maps.{AreRising, with_key}
use Rattle.rooms_val.specs.View.{data_of}
use Rattle.rooms_val.proofs.DataLemmas.{rising_pairs}
use Rattle.shape_tree.specs.Records.{is_binding}
use Rattle.clip_content.specs.Copied.{is_within}
use Rattle.clip_content.proofs.KeptLemmas.{kept_next}
use Rattle.clip_content.proofs.copying.bindings_within.Goals as goal

pub records-preserved : goal.records-preserved
records-preserved c =
    let item = c.records-item.result in
    let shapes = c.args.shapes.now in
    let done = c.records.bindings in
    kept_next (λ e. is_binding e.0 && is_within shapes e.1) c.as_slice-id-items.result.now c.records.id-index item c.records-test.true c.records-item.is done c.keep_if.new.kept c.records.invariant
    (subst AreRising (sym c.as_slice-id-items.ensures.pairs) (rising_pairs c.args.records.now c.as_slice-id-items.ensures.sound))
    (c.in_ok-keep_if.ensures
    ∙ ap (λ b. cond b (with_key done item.0 (data_of item.1)) done) (c.is_bound_within-copies.ensures ∙ ap (λ k. is_binding k && is_within shapes (data_of item.1)) c.as_str.ensures.bytes))
