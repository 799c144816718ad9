use Rattle.room_model.proofs.ClosingLemmas.{message_appends, leave_closes, closing_clock, appends_clock}
use Rattle.room_model.proofs.rooms.clocks_move_by_closing.Goals as goal

pub returns-clause-receives : goal.returns-clause-receives
returns-clause-receives c schemas session said room replied is = message_appends schemas room session said replied is

pub returns-clause-receives_clock : goal.returns-clause-receives_clock
returns-clause-receives_clock c schemas session said room after reply closed h = appends_clock schemas room session said reply after closed h

pub returns-clause-leaves : goal.returns-clause-leaves
returns-clause-leaves c schemas session room after is = leave_closes schemas room session after is

pub returns-clause-closing_clock : goal.returns-clause-closing_clock
returns-clause-closing_clock c = closing_clock
