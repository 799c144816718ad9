use Rattle.rooms_val.proofs.DataLemmas.{rising_pairs}
use Rattle.sync_peer.specs.Calls.{records_of}
use Rattle.sync_peer.proofs.peer.copy_record.Goals as goal

pub returns-in_err-record-clause-sound : goal.returns-in_err-record-clause-sound
returns-in_err-record-clause-sound c = rising_pairs (records_of c.args.store.now) c.in-Some.ensures.sound

pub returns-in_err-put-clause-sound : goal.returns-in_err-put-clause-sound
returns-in_err-put-clause-sound c = rising_pairs (records_of c.args.store.now) c.in-Some.ensures.sound

pub returns-in_ok-put-clause-sound : goal.returns-in_ok-put-clause-sound
returns-in_ok-put-clause-sound c = rising_pairs (records_of c.args.store.now) c.in-Some.ensures.sound

pub returns-in_default-clause-sound : goal.returns-in_default-clause-sound
returns-in_default-clause-sound c = rising_pairs (records_of c.args.store.now) c.in_default.ensures.sound
