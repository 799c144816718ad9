use Rattle.room_snapshot.proofs.TombLemmas.{tombs_set}
use Rattle.room_snapshot.proofs.tombs.tombs_val.Goals as goal

pub tombs-preserved : goal.tombs-preserved
tombs-preserved c =
    tombs_set c.args.tombs.now c.tombs.tomb-index c.tomb-item.result c.tombs.fields c.put.new.fields c.tombs-test.true c.tomb-item.is c.tombs.invariant c.in_ok-put.ensures
