use Rattle.std.proofs.Common.{◌≡◌, ◌++◌, drop}
use Rattle.rooms_val.specs.View.{pairs_view}
use Rattle.clip_content.specs.Copied.{bindings_within}
use Rattle.clip_content.proofs.copying.bindings_within.Given as goal

abbrev pub invariant-records : goal.invariant-records
invariant-records l =
    l.bindings ++ bindings_within (pairs_view (drop l.id-index l.id-items)) l.shapes ≡ bindings_within (pairs_view l.id-items) l.shapes
