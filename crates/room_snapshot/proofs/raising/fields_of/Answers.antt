use Rattle.std.proofs.Common.{◌++◌, sym, ap, ◌∙◌}
use Rattle.room_snapshot.specs.Sorted.{sorted_view}
use Rattle.room_snapshot.proofs.RaiseLemmas.{put_next}
use Rattle.room_snapshot.proofs.raising.fields_of.Goals as goal

pub sorted-preserved : goal.sorted-preserved
sorted-preserved c =
    put_next c.sorted.fields c.put.new.fields _ _ _ (sorted_view c.args.sorted.now.entries) c.requires (ap (λ es. c.sorted.fields ++ sorted_view es) (sym c.in-Some.ensures.steps) ∙ c.sorted.invariant)
    c.in_ok-put.ensures
