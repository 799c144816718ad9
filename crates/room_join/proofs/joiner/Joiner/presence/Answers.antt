use Rattle.std.proofs.Common.{Err, sym, ap, ◌∙◌}
use Rattle.rooms_val.specs.View.{data_of}
use Rattle.room_join.proofs.AnsweringLemmas.{watch_same, presence_done, presence_refused}
use Rattle.room_join.proofs.joiner.Joiner.presence.Goals as goal

pub returns-in-Ok : goal.returns-in-Ok
returns-in-Ok c = λ schemas joiner stands.
    presence_done schemas joiner c.args.self.now stands c.presence.new.self (watch_same _ _ c.presence.ensures.store) c.new.result (data_of c.args.stored)
    (c.in-Ok.ensures.fault schemas joiner.state stands.peer) (c.in-Ok.ensures.ok schemas joiner.state stands.peer) c.new.ensures.items

pub returns-in_ok-edit_fault_text-in-Err : goal.returns-in_ok-edit_fault_text-in-Err
returns-in_ok-edit_fault_text-in-Err c = λ schemas joiner stands.
    presence_refused schemas joiner c.args.self.now (data_of c.args.stored) c.edit_fault.result c.in_ok-edit_fault_text-in-Err.field-0
    (λ no_want. c.in-Err.ensures.fault schemas joiner.state stands.peer (λ oom. no_want (c.edit_fault.ensures ∙ oom)) ∙ ap (λ f. Err f) (sym c.edit_fault.ensures))
    c.in_ok-edit_fault_text-in-Err.ensures
