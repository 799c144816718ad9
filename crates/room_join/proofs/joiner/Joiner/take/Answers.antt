use Rattle.room_join.proofs.HearingLemmas.{message_taken, message_refused}
use Rattle.room_join.proofs.joiner.Joiner.take.Goals as goal

pub returns-in-Ok : goal.returns-in-Ok
returns-in-Ok g c = λ schemas joiner stands.
    message_taken schemas joiner c.args.self.now stands c.args.message.now c.take.new.self c.new.result
    (c.in-Ok.ensures.fault schemas joiner.state stands.peer) (c.in-Ok.ensures.ok schemas joiner.state stands.peer) c.take.ensures.views c.new.ensures.items

pub returns-in_ok-take_fault_text-in-Err : goal.returns-in_ok-take_fault_text-in-Err
returns-in_ok-take_fault_text-in-Err g c = λ schemas joiner stands.
    message_refused schemas joiner c.args.self.now stands c.args.message.now c.in-Err.fault c.in_ok-take_fault_text-in-Err.field-0 c.args.self.now
    (c.in-Err.ensures.fault schemas joiner.state stands.peer) c.in_ok-take_fault_text-in-Err.ensures
