use Rattle.std.proofs.Common.{◌≡◌, ◌+◌, ◌≤◌, ◌++◌, false, cond, length}
use Rattle.std.specs.Vec.Iter.{into_iter_items}
use Rattle.field_ops.specs.RecordOps.{RecordOps}
use Rattle.side_effects.specs.Links.{Links, Sweeps, AreFree}
use Rattle.side_effects.proofs.removing.sweep.Given as goal

-- those that are left, and those still to come
abbrev pub invariant-links : goal.invariant-links
invariant-links l =
    let now : Links = l.left.items ++ into_iter_items l.id-iterator in
    record {
      swept : (links_of : Links) (old : RecordOps) → Sweeps links_of old l.fn.links.items l.fn.all → Sweeps links_of old now l.all;
      free : l.found ≡ false → AreFree l.left.items l.all;
      fewer : length now + cond l.found 1 0 ≤ length l.fn.links.items;
    }
