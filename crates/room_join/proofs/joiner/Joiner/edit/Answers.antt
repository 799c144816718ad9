use Rattle.room_join.proofs.AnsweringLemmas.{edit_done, edit_refused}
use Rattle.room_join.proofs.joiner.Joiner.edit.Goals as goal

pub returns-in-Ok : goal.returns-in-Ok
returns-in-Ok g c = λ schemas joiner stands.
    edit_done schemas joiner c.args.self.now stands c.edit.new.self c.edit.ensures.views c.new.result c.args.wanted.now
    (c.in-Ok.ensures.ok schemas joiner.state stands.peer) c.new.ensures.items

pub returns-in_ok-edit_fault_text-in-Err : goal.returns-in_ok-edit_fault_text-in-Err
returns-in_ok-edit_fault_text-in-Err g c = λ schemas joiner stands.
    edit_refused schemas joiner c.args.self.now c.args.wanted.now c.in-Err.fault c.in_ok-edit_fault_text-in-Err.field-0
    (c.in-Err.ensures.fault schemas joiner.state stands.peer) c.in_ok-edit_fault_text-in-Err.ensures
