use Rattle.room_snapshot.proofs.TombLemmas.{tombs_more, no_tombs}
use Rattle.rooms_val.proofs.RefusalLemmas.{passed_on}
use Rattle.room_snapshot.proofs.tombs.tombs_in.Goals as goal

pub returns-in_err-tomb-clause-refused : goal.returns-in_err-tomb-clause-refused
returns-in_err-tomb-clause-refused c =
    passed_on c.from_residual-in_err-tomb.result c.in_err-tomb.field-0.0 c.from_residual-in_err-tomb.ensures.1
    (no_tombs c.args.entries.now c.entries.entry-index c.entry-item.result c.entries-test.true c.entry-item.is) c.in_err-tomb.ensures.refused

pub entries-preserved : goal.entries-preserved
entries-preserved c =
    tombs_more c.args.entries.now c.entries.entry-index c.entry-item.result c.entries.tombs.items c.add.new.tombs.items c.in_ok-tomb.tomb c.entries-test.true c.entry-item.is c.entries.invariant
    c.in_ok-tomb.ensures.found c.in_ok-add.ensures
