use Rattle.std.proofs.Common.{◌≡◌, Some, sym, ◌∙◌}
use Rattle.std.specs.List.{slice_get}
use Rattle.signal_txn.proofs.SinceLemmas.{diffs_then, diffs_without}
use Rattle.signal_txn.proofs.since.copies_after.Goals as goal
use Rattle.signal_txn.proofs.since.copies_after.Goals.{then-epoch-write+in_ok-key+in_ok-copy_value+in_ok-push, else-epoch-write}

pub writes-preserved : goal.writes-preserved
writes-preserved g c =
    let items = c.writes-writes.result.now.items in
    let at : slice_get items c.writes.i ≡ Some c.in-Some.write.now = sym c.in-Some.ensures in
    elim c.if-epoch-write.branch [
      | then-epoch-write+in_ok-key+in_ok-copy_value+in_ok-push w ↦
          rw w.diffs-is (w.in_ok-push.ensures.items ∙ diffs_then c.args.epoch items c.writes.i c.in-Some.write.now c.writes.diffs.items _ _ at w.if-epoch-write.true c.writes.invariant w.in_ok-key.ensures w.in_ok-copy_value.ensures)
      | else-epoch-write w ↦ rw w.diffs-is (c.writes.invariant ∙ sym (diffs_without c.args.epoch items c.writes.i c.in-Some.write.now at w.if-epoch-write.false))
    ]
