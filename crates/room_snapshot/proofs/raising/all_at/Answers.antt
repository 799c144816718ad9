use mir.Syntax.{w64}
use mir.Val.{to_z, of_z}
use Rattle.room_snapshot.proofs.PlanLemmas.{all_at-more}
use Rattle.room_snapshot.proofs.raising.all_at.Goals as goal

pub entries-preserved : goal.entries-preserved
entries-preserved c =
    all_at-more c.args.entries.now c.entries.entry-index c.entry-item.result (to_z w64 (of_z w64 c.args.clock)) c.entries.made.items c.add.new.documents.items c.in_ok-document.document
    c.entries-test.true c.entry-item.is c.entries.invariant c.in_ok-document.ensures c.in_ok-add.ensures
