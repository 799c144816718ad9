use Rattle.std.proofs.Common.{◌∙◌, refl}
use Rattle.shape_tree.specs.View.{maybe_data}
use Rattle.record_store.proofs.PlaceLemmas.{tested}
use Rattle.record_store.proofs.lists.is_before_at.Goals as goal

pub returns : goal.returns
returns c =
    let x = c.in-Some.other.now in (
      x,
      c.in-Some.ensures,
      λ m has. tested c.args.listing m c.args.index.now c.args.id.now c.is_before.result (maybe_data c.in_ok-there.there) x c.as_str.result.now x refl c.as_str.ensures.bytes (c.in_ok-there.ensures ∙ has x) c.is_before.ensures,
    )
