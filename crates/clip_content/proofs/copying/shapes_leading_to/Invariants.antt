use Rattle.std.proofs.Common.{◌≡◌, ◌++◌, drop}
use Rattle.std.specs.Prelude.{filter}
use Rattle.rooms_val.specs.View.{pairs_view}
use Rattle.clip_content.proofs.KeptLemmas.{is_kept}
use Rattle.clip_content.proofs.copying.shapes_leading_to.Given as goal

abbrev pub invariant-records : goal.invariant-records
invariant-records l =
    l.shapes ++ filter (is_kept l.records l.named) (pairs_view (drop l.id-index l.id-items)) ≡ filter (is_kept l.records l.named) (pairs_view l.id-items)
